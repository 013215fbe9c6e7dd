use Prim.Native.Nat.{◌-◌, ◌%◌, ◌≤◌}
use mathlib.Core.Path.{◌≡◌}
use lib.ListN.{length}
use Rattle.syntax.specs.Tree.{Monitor}
use Rattle.bodies.specs.Shifts.{Filling}
use Rattle.bodies.proofs.Filled.{Sofar}
use Rattle.bodies.proofs.fill_after.Given as goal

abbrev pub invariant-loop-s : goal.invariant-loop-s
invariant-loop-s l =
    (l.s % 16 ≡ 0) × (l.s ≤ 4096) × (length l.after ≡ length l.initial.after) × (length l.shifts ≡ 256)
    × ((m : Monitor) → Filling m l.kinds l.values l.bounds l.ats l.named l.count → Sofar m l.named l.lanes l.changed l.shifts l.after l.s)

abbrev pub decreases-loop-s : goal.decreases-loop-s
decreases-loop-s l = 4096 - l.s
