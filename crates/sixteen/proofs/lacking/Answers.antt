-- `sixteen::lacking` meets its contract: no lane, or all.
use borrow.Author.Tests.{lt-ltb, le-ltb}
use Rattle.sets.proofs.SetLaws.{member_none, member_full}
use Rattle.sixteen.proofs.lacking.Goals as goal

pub returns-then-less-by : goal.returns-then-less-by
returns-then-less-by c = λ j l. rw (lt-ltb _ _ c.if-less-by.true) (member_none j)

pub returns-else-less-by : goal.returns-else-less-by
returns-else-less-by c = λ j l. rw (le-ltb _ _ c.if-less-by.false) (member_full 16 j l)
