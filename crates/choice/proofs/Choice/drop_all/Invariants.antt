use Prim.Native.Nat.{ℕ, ◌≤◌, ◌<◌}
use mathlib.Core.Path.{◌≡◌}
use Rattle.sets.specs.Set.{member}
use Rattle.choice.specs.Slots.{slot_of, mark_if}
use Rattle.choice.proofs.Choice.drop_all.Given as goal

abbrev pub invariant-loop-i : goal.invariant-loop-i
invariant-loop-i l =
    (l.i ≤ 16) × ((u : ℕ) → u < l.i → slot_of l.next u ≡ mark_if (member l.lost u) l.pass l.region l.state (slot_of l.initial.next u))
    × ((u : ℕ) → l.i ≤ u → u < 16 → slot_of l.next u ≡ slot_of l.initial.next u)
