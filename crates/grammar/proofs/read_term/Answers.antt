-- `grammar::read_term` meets its contract.
use Rattle.grammar.proofs.Readers.{then, stops, ends, done, yes, no, saw, missing, passed}
use Rattle.grammar.proofs.KindTests.{by_key, took_key}
use Rattle.syntax.specs.Decide.Reading.{read_term}
use Rattle.syntax.specs.Token.{k_mod}
use Rattle.syntax.specs.Decide.Lexeme.{keyword_number}
use Rattle.syntax.specs.Held.Kind.{kind_of}
use Rattle.grammar.proofs.read_term.Goals as goal

pub returns-in_err-atom : goal.returns-in_err-atom
unfolding read_term kind_of keyword_number
returns-in_err-atom c =
    stops _ c.in_err-atom.ensures c.from_residual.ensures

pub returns-in-Some : goal.returns-in-Some
unfolding read_term kind_of keyword_number
returns-in-Some c =
    then c.in_ok-atom.ensures λ _.
    yes _ (by_key k_mod) (saw c.in-Some.ensures).0
    (then (took_key k_mod (passed c.in-Some.ensures)) λ _. ends _ c.read_atom-in-Some.ensures)

pub returns-in-None : goal.returns-in-None
unfolding read_term kind_of keyword_number
returns-in-None c =
    then c.in_ok-atom.ensures λ _. no _ (by_key k_mod) (missing c.in-None.ensures) (done _)
