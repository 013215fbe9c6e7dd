-- `evaluator::divide` meets its contract: each way has the values of its kinds of operands.
use Rattle.evaluator.proofs.Remainders.{remains, by_slot, by_none}
use Rattle.evaluator.proofs.divide.Goals as goal

-- by a variable
pub returns-then-right-lt-VARIABLES : goal.returns-then-right-lt-VARIABLES
returns-then-right-lt-VARIABLES c =
    let pre = c.requires in
    remains (λ j l held. c.operands-one.ensures.is j l) c.operands-two.ensures.is
    (c.operands-two.ensures.small pre.operand_2.plus_small).each c.by_lanes.ensures

-- a variable by a number
pub returns-then-left-lt-VARIABLES : goal.returns-then-left-lt-VARIABLES
returns-then-left-lt-VARIABLES c =
    rw (c.requires.operand.of_variable c.if-left-lt-VARIABLES.true)
    (remains (by_slot c.if-left-lt-VARIABLES.true c.operands-lanes.ensures) (λ j l. by_none _ _ c.if-right-lt-VARIABLES.false)
    (λ j l. c.requires.operand_2.plus_small) c.by_number.ensures)

-- a number by a number
pub returns : goal.returns
returns c =
    remains (λ j l held. by_none _ _ c.if-left-lt-VARIABLES.false) (λ j l. by_none _ _ c.if-right-lt-VARIABLES.false)
    (λ j l. c.requires.operand_2.plus_small) c.of_number.ensures
