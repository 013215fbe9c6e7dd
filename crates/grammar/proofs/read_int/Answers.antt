-- `grammar::read_int` meets its contract.
use Rattle.grammar.proofs.Readers.{then, ends, yes, no, saw, missing, passed}
use Rattle.grammar.proofs.KindTests.{by_mark, took_mark, took_number}
use Rattle.syntax.specs.Decide.Reading.{read_int}
use Rattle.syntax.specs.Token.{minus}
use Rattle.syntax.specs.Decide.Lexeme.{mark_number}
use Rattle.syntax.specs.Held.Kind.{kind_of}
use Rattle.grammar.proofs.read_int.Goals as goal

pub returns-in-Some : goal.returns-in-Some
unfolding read_int kind_of mark_number
returns-in-Some c =
    yes _ (by_mark minus) (saw c.in-Some.ensures).0
    (then (took_mark minus (passed c.in-Some.ensures)) λ _. ends _ (took_number c.expect.ensures))

pub returns-in-None : goal.returns-in-None
unfolding read_int kind_of mark_number
returns-in-None c =
    no _ (by_mark minus) (missing c.in-None.ensures) (ends _ (took_number c.expect-in-None.ensures))
