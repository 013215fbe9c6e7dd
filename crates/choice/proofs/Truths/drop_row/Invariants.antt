use Prim.Native.Nat.{ℕ, ◌≤◌, ◌<◌}
use mathlib.Core.Path.{◌≡◌}
use Rattle.choice.specs.Slots.{breaks_row, slot_of, row_slot}
use Rattle.choice.proofs.Truths.drop_row.Given as goal

abbrev pub invariant-loop-s : goal.invariant-loop-s
invariant-loop-s l =
    (l.s ≤ l.states)
    × ((u : ℕ) → u < 16 → slot_of l.choice u ≡ row_slot l.s (breaks_row l.row l.guard l.self.keep.now l.self.holds.now l.self.tried.now l.set u) l.pass l.region
    (slot_of l.initial.choice u))
