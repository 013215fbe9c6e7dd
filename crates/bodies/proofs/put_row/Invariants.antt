use Prim.Native.Nat.{◌+◌, ◌*◌, ◌≤◌}
use mathlib.Core.Path.{◌≡◌}
use lib.ListN.{get_or}
use Rattle.bodies.specs.Shifts.{unshift, Stretch}
use Rattle.bodies.proofs.put_row.Given as goal

abbrev pub invariant-loop-j : goal.invariant-loop-j
invariant-loop-j l =
    (l.j ≤ 16) × Stretch l.at (λ k x. x ≡ unshift (l.s + k) (get_or l.shifts (l.r * 16 + k) 0)) l.initial.after l.after l.j
