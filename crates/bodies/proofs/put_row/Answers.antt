-- `bodies::put_row` meets its contract: each turn writes the next place.
use native.Mathlib.Omega.{arith}
use Rattle.bodies.proofs.Stretches.{stretch_none, stretch_more, stretch_is}
use Rattle.bodies.proofs.put_row.Goals as goal

pub loop-j-init : goal.loop-j-init
loop-j-init c = (omega arith, stretch_none _)

pub loop-j-preserved : goal.loop-j-preserved
loop-j-preserved c =
    let i = c.loop-j in
    let long = i.invariant.1.long in
    (omega arith, stretch_more c.shifted.result i.invariant.1 (omega arith) c.shifted.ensures)

pub returns : goal.returns
returns c = stretch_is c.loop-j.invariant.1 (omega arith) (omega arith)

pub shape_of-after : goal.shape_of-after
shape_of-after = λ c. c.loop-j.invariant.1.long
