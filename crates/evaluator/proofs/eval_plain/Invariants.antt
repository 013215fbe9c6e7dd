use Prim.Native.Nat.{◌-◌}
use lib.ListN.{length}
use Rattle.evaluator.proofs.Readings.{Open}
use Rattle.evaluator.proofs.eval_plain.Given as goal

abbrev pub invariant-loop-taken : goal.invariant-loop-taken
invariant-loop-taken l =
    Open l.text.kinds.now l.text.values.now l.vars l.at l.lanes 0 l.taken l.place

abbrev pub decreases-loop-taken : goal.decreases-loop-taken
decreases-loop-taken l = length l.text.kinds.now - l.place
