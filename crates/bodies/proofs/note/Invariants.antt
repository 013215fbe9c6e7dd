use Prim.Native.Nat.{◌+◌, ◌*◌, ◌≤◌}
use lib.ListN.{get_or}
use Rattle.sets.specs.Set.{member}
use Rattle.bodies.specs.Shifts.{ShiftOf, Stretch}
use Rattle.bodies.proofs.note.Given as goal

abbrev pub invariant-loop-j : goal.invariant-loop-j
invariant-loop-j l =
    (l.j ≤ 16) × Stretch (l.r * 16) (λ k x. ShiftOf (member l.ok k) (get_or l.to k 0) (l.s + k) x) l.initial.shifts l.shifts l.j
