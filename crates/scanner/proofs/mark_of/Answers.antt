-- `scanner::mark_of` meets its contract: in each arm the first byte is known, and the marks compute but for the test on
-- the second.
use native.Mathlib.Omega.{arith}
use mathlib.Core.Path.{sym}
use Rattle.syntax.specs.Bytes.{bytes}
use Rattle.syntax.specs.Decide.Leading.{starts_with}
use Rattle.syntax.specs.Decide.Scan.{mark_of}
use Rattle.syntax.specs.Token.{marks}
use Rattle.syntax.specs.Decide.Lexeme.{mark_number}
use Rattle.syntax.specs.Held.Kind.{kind_of}
use Rattle.scanner.specs.Step.{marked}
use Rattle.scanner.proofs.Marks.{not_61, not_46, not_38, not_124, none_two}
use Rattle.scanner.proofs.mark_of.Goals as goal

pub returns-in-123 : goal.returns-in-123
unfolding marked mark_of marks starts_with bytes kind_of mark_number
returns-in-123 c = rw c.in-123.is

pub returns-in-125 : goal.returns-in-125
unfolding marked mark_of marks starts_with bytes kind_of mark_number
returns-in-125 c = rw c.in-125.is

pub returns-in-40 : goal.returns-in-40
unfolding marked mark_of marks starts_with bytes kind_of mark_number
returns-in-40 c = rw c.in-40.is

pub returns-in-41 : goal.returns-in-41
unfolding marked mark_of marks starts_with bytes kind_of mark_number
returns-in-41 c = rw c.in-41.is

pub returns-in-59 : goal.returns-in-59
unfolding marked mark_of marks starts_with bytes kind_of mark_number
returns-in-59 c = rw c.in-59.is

pub returns-then-b-eq61 : goal.returns-then-b-eq61
unfolding marked mark_of marks starts_with bytes kind_of mark_number
returns-then-b-eq61 c = rw (c.in-61.is, c.if-b-eq61.true)

pub returns-else-b-eq61 : goal.returns-else-b-eq61
unfolding kind_of mark_number
returns-else-b-eq61 c = rw c.in-61.is (sym (not_61 _ c.if-b-eq61.false).0)

pub returns-then-b-eq46 : goal.returns-then-b-eq46
unfolding marked mark_of marks starts_with bytes kind_of mark_number
returns-then-b-eq46 c = rw (c.in-46.is, c.if-b-eq46.true)

pub returns-else-b-eq46 : goal.returns-else-b-eq46
returns-else-b-eq46 c = rw c.in-46.is (sym (not_46 _ c.if-b-eq46.false))

pub returns-then-b-eq61-2 : goal.returns-then-b-eq61-2
unfolding marked mark_of marks starts_with bytes kind_of mark_number
returns-then-b-eq61-2 c = rw (c.in-58.is, c.if-b-eq61-2.true)

pub returns-else-b-eq61-2 : goal.returns-else-b-eq61-2
returns-else-b-eq61-2 c = rw c.in-58.is (sym (not_61 _ c.if-b-eq61-2.false).1)

pub returns-then-b-eq61-3 : goal.returns-then-b-eq61-3
unfolding marked mark_of marks starts_with bytes kind_of mark_number
returns-then-b-eq61-3 c = rw (c.in-33.is, c.if-b-eq61-3.true)

pub returns-else-b-eq61-3 : goal.returns-else-b-eq61-3
unfolding kind_of mark_number
returns-else-b-eq61-3 c = rw c.in-33.is (sym (not_61 _ c.if-b-eq61-3.false).2)

pub returns-then-b-eq61-4 : goal.returns-then-b-eq61-4
unfolding marked mark_of marks starts_with bytes kind_of mark_number
returns-then-b-eq61-4 c = rw (c.in-60.is, c.if-b-eq61-4.true)

pub returns-else-b-eq61-4 : goal.returns-else-b-eq61-4
unfolding kind_of mark_number
returns-else-b-eq61-4 c = rw c.in-60.is (sym (not_61 _ c.if-b-eq61-4.false).3)

pub returns-then-b-eq61-5 : goal.returns-then-b-eq61-5
unfolding marked mark_of marks starts_with bytes kind_of mark_number
returns-then-b-eq61-5 c = rw (c.in-62.is, c.if-b-eq61-5.true)

pub returns-else-b-eq61-5 : goal.returns-else-b-eq61-5
unfolding kind_of mark_number
returns-else-b-eq61-5 c = rw c.in-62.is (sym (not_61 _ c.if-b-eq61-5.false).4)

pub returns-in-43 : goal.returns-in-43
unfolding marked mark_of marks starts_with bytes kind_of mark_number
returns-in-43 c = rw c.in-43.is

pub returns-in-45 : goal.returns-in-45
unfolding marked mark_of marks starts_with bytes kind_of mark_number
returns-in-45 c = rw c.in-45.is

pub returns-then-b-eq38 : goal.returns-then-b-eq38
unfolding marked mark_of marks starts_with bytes kind_of mark_number
returns-then-b-eq38 c = rw (c.in-38.is, c.if-b-eq38.true)

pub returns-else-b-eq38 : goal.returns-else-b-eq38
returns-else-b-eq38 c = rw c.in-38.is (sym (not_38 _ c.if-b-eq38.false))

pub returns-then-b-eq124 : goal.returns-then-b-eq124
unfolding marked mark_of marks starts_with bytes kind_of mark_number
returns-then-b-eq124 c = rw (c.in-124.is, c.if-b-eq124.true)

pub returns-else-b-eq124 : goal.returns-else-b-eq124
returns-else-b-eq124 c = rw c.in-124.is (sym (not_124 _ c.if-b-eq124.false))

pub returns-in_default : goal.returns-in_default
returns-in_default c = sym (none_two _ _ (omega arith) (omega arith) (omega arith) (omega arith) (omega arith)
    (omega arith) (omega arith) (omega arith) (omega arith) (omega arith) (omega arith) (omega arith) (omega arith)
    (omega arith) (omega arith))
