-- `digits::hex_digit` meets its contract: each arm is the digit's own case.
use mathlib.Core.Path.{sym}
use Rattle.meaning.proofs.Digits.{low_digit, high_digit}
use Rattle.digits.proofs.hex_digit.Goals as goal

pub returns-then-low-lt10 : goal.returns-then-low-lt10
returns-then-low-lt10 c = sym (low_digit _ c.if-low-lt10.true)

pub returns-else-low-lt10 : goal.returns-else-low-lt10
returns-else-low-lt10 c = sym (high_digit _ c.if-low-lt10.false)
