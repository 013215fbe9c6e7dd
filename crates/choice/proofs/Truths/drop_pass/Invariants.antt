use Prim.Native.Nat.{ℕ, ◌≤◌, ◌<◌}
use mathlib.Core.Path.{◌≡◌}
use Rattle.choice.specs.Slots.{breaks_by, slot_of, rows_slot}
use Rattle.choice.proofs.Truths.drop_pass.Given as goal

abbrev pub invariant-loop-r : goal.invariant-loop-r
invariant-loop-r l =
    (l.r ≤ l.regions)
    × ((u : ℕ) → u < 16 → slot_of l.choice u ≡ rows_slot l.r l.states (breaks_by l.after l.guard_of l.self.keep.now l.self.holds.now l.self.tried.now l.set u) l.pass
    (slot_of l.initial.choice u))
