use Prim.Native.Nat.{◌-◌}
use lib.ListN.{length}
use Rattle.evaluator.proofs.Readings.{Open}
use Rattle.evaluator.proofs.eval_expr.Given as goal

abbrev pub invariant-loop-sum : goal.invariant-loop-sum
invariant-loop-sum l =
    Open l.text.kinds.now l.text.values.now l.vars l.at l.lanes l.lacks l.taken l.place

abbrev pub decreases-loop-sum : goal.decreases-loop-sum
decreases-loop-sum l = length l.text.kinds.now - l.place
