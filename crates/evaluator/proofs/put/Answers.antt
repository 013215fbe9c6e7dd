-- `evaluator::put` meets its contract: each turn stores the number of its lane in the slot there, and changes no other
-- lane.
use native.Mathlib.Omega.{arith}
use Rattle.evaluator.proofs.Lanes.{put_none, put_more}
use Rattle.evaluator.proofs.put.Goals as goal

pub loop-j-preserved : goal.loop-j-preserved
loop-j-preserved c = put_more c.loop-j.invariant c.requires.1 c.loop-j-test.true

pub returns : goal.returns
returns c =
    let all = c.loop-j.invariant in
    (all.long, λ j l. all.done j (omega arith))

pub loop-j-init : goal.loop-j-init
loop-j-init = λ c. put_none c.requires.0
