-- `divisors::Held::low_variable` meets its contract: by the lowest value in the slot, and of a slot without a variable by 0.
use native.Mathlib.Omega.{arith}
use mathlib.Core.Path.{sym}
use Rattle.divisors.proofs.Divisor.{undeclared, declared}
use Rattle.divisors.proofs.Held.low_variable.Goals as goal

pub returns-then-self-slot : goal.returns-then-self-slot
returns-then-self-slot c vs x low is = sym (undeclared x low is c.if-self-slot.true)

pub returns-then-slot-ge-VARIABLES : goal.returns-then-slot-ge-VARIABLES
returns-then-slot-ge-VARIABLES c vs x low is = absurd (omega (arith, low.few, low.counted))

pub returns : goal.returns
returns c vs x low is = sym (declared x low is (omega arith))
