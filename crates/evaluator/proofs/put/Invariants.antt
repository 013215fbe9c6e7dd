use Prim.Native.Nat.{◌%◌}
use lib.ListN.{get_or}
use Rattle.evaluator.proofs.Lanes.{Put}
use Rattle.evaluator.proofs.put.Given as goal

abbrev pub invariant-loop-j : goal.invariant-loop-j
invariant-loop-j l = Put l.slot (λ k. get_or l.lanes k 0 % 65536) l.initial.vars l.vars l.j
