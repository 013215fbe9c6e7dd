-- `evaluator::joined` meets its contract: the two parts are added and taken away, or the other way round.
use mathlib.Core.Bool.{true, false}
use Rattle.evaluator.proofs.Readings.{joined_fits, joined_is}
use Rattle.evaluator.proofs.joined.Goals as goal

pub moved-requires : goal.moved-requires
moved-requires c =
    let pre = c.requires in
    joined_fits pre.near pre.small pre.minus_bound true

pub returns-then-taken : goal.returns-then-taken
returns-then-taken c = joined_is true c.if-taken.true c.moved.ensures

pub moved-requires-2 : goal.moved-requires-2
moved-requires-2 c =
    let pre = c.requires in
    joined_fits pre.near pre.small pre.minus_bound false

pub returns : goal.returns
returns c = joined_is false c.if-taken.false c.moved-2.ensures
