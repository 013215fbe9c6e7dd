-- `grammar::expect_among` meets its contract.
use Rattle.grammar.proofs.Readers.{passed, missed, missing}
use Rattle.grammar.proofs.expect_among.Goals as goal

pub returns-in-Some : goal.returns-in-Some
returns-in-Some c = passed c.in-Some.ensures

pub returns-in-None : goal.returns-in-None
returns-in-None c = missed (missing c.in-None.ensures)
