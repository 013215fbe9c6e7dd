-- `truths::bit_of` meets its contract.
use mathlib.Core.Path.{sym}
use Rattle.states.proofs.Held.{bit_true, bit_false}
use Rattle.truths.proofs.bit_of.Goals as goal

pub returns-then-b : goal.returns-then-b
returns-then-b c = sym (bit_true c.if-b.true)

pub returns-else-b : goal.returns-else-b
returns-else-b c = sym (bit_false c.if-b.false)
