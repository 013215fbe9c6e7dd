use Rattle.lanes.proofs.Carrying.{Carrying}
use Rattle.lanes.proofs.next.Given as goal

abbrev pub invariant-loop-k : goal.invariant-loop-k
invariant-loop-k l =
    Carrying l.bounds l.initial.values l.values l.changed l.carry l.any l.rest l.initial.k l.k

abbrev pub decreases-loop-k : goal.decreases-loop-k
decreases-loop-k l = l.k
