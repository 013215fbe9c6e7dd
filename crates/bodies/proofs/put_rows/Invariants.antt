use Prim.Native.Nat.{◌≤◌}
use mathlib.Core.Path.{◌≡◌}
use lib.ListN.{length}
use Rattle.bodies.specs.Shifts.{PutRows}
use Rattle.bodies.proofs.put_rows.Given as goal

abbrev pub invariant-loop-r : goal.invariant-loop-r
invariant-loop-r l =
    (l.r ≤ l.count) × (length l.after ≡ length l.initial.after) × PutRows l.shifts l.r l.s l.initial.after l.after
