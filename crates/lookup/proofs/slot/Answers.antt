-- `lookup::slot` meets its contract, on both sides of the count.
use native.Mathlib.Omega.{arith}
use Rattle.lookup.proofs.Ranges.{slot_value, slot_behind}
use Rattle.lookup.proofs.slot.Goals as goal

pub returns-then-k-n : goal.returns-then-k-n
returns-then-k-n = λ c. slot_value _ _ _ c.if-k-n.true

pub returns-else-k-n : goal.returns-else-k-n
returns-else-k-n = λ c. slot_behind _ _ _ (omega (arith, c.if-k-n.false))
