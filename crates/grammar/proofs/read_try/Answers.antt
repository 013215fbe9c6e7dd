-- `grammar::read_try` meets its contract.
use Rattle.grammar.proofs.Readers.{then, stops, ends}
use Rattle.grammar.proofs.KindTests.{took_mark, took_key}
use Rattle.syntax.specs.Decide.Reading.{read_try}
use Rattle.syntax.specs.Token.{semicolon, k_try}
use Rattle.syntax.specs.Decide.Lexeme.{mark_number, keyword_number}
use Rattle.syntax.specs.Held.Kind.{kind_of}
use Rattle.grammar.proofs.read_try.Goals as goal

pub returns-in_err-word : goal.returns-in_err-word
unfolding read_try kind_of mark_number keyword_number
returns-in_err-word c =
    stops _ (took_key k_try c.in_err-word.ensures) c.from_residual.ensures

pub returns-in_err-cond : goal.returns-in_err-cond
unfolding read_try kind_of mark_number keyword_number
returns-in_err-cond c =
    then (took_key k_try c.in_ok-word.ensures) λ _.
    stops _ c.in_err-cond.ensures c.from_residual-in_err-cond.ensures

pub returns : goal.returns
unfolding read_try kind_of mark_number keyword_number
returns c =
    then (took_key k_try c.in_ok-word.ensures) λ _.
    then c.in_ok-cond.ensures λ _.
    ends _ (took_mark semicolon c.expect-2.ensures)
