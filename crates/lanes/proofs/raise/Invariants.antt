use Rattle.lanes.proofs.Rows.{Raising}
use Rattle.lanes.proofs.raise.Given as goal

abbrev pub invariant-loop-j : goal.invariant-loop-j
invariant-loop-j l =
    Raising l.at l.add l.high l.size l.initial.lanes l.initial.carry l.lanes l.carry l.any l.j
