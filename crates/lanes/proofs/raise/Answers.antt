-- `lanes::raise` meets its contract: each turn raises the value of its lane.
use native.Mathlib.Omega.{arith}
use Rattle.lanes.proofs.Rows.{raising_none, raising_more, raising_all, sum_small}
use Rattle.lanes.proofs.raise.Goals as goal

pub loop-j-init : goal.loop-j-init
loop-j-init c = raising_none

pub overflow_add-sum-in-loop-j-2 : goal.overflow_add-sum-in-loop-j-2
overflow_add-sum-in-loop-j-2 c =
    omega (arith, sum_small c.requires c.loop-j.invariant c.loop-j-test.true)

pub loop-j-preserved : goal.loop-j-preserved
loop-j-preserved c =
    raising_more c.requires c.loop-j.invariant c.loop-j-test.true
    c.settle.result
    c.carry_of.result c.settle.ensures c.carry_of.ensures

pub shape_of-lanes : goal.shape_of-lanes
shape_of-lanes c = c.loop-j.invariant.long

pub shape_of-carry : goal.shape_of-carry
shape_of-carry c = c.loop-j.invariant.carries_long

pub returns : goal.returns
returns c = raising_all c.loop-j.invariant c.loop-j-test.false
