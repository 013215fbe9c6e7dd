use Rattle.sixteen.proofs.Fill.{Gathered}
use Rattle.sixteen.proofs.mask.Given as goal

abbrev pub invariant-loop-j : goal.invariant-loop-j
invariant-loop-j l = Gathered l.lanes l.set l.j
