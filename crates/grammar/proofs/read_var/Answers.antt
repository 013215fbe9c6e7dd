-- `grammar::read_var` meets its contract.
use Rattle.grammar.proofs.Readers.{then, stops, ends}
use Rattle.grammar.proofs.KindTests.{took_mark, took_key, took_name}
use Rattle.syntax.specs.Decide.Reading.{read_var}
use Rattle.syntax.specs.Token.{k_var, equals, k_in, dots, semicolon}
use Rattle.syntax.specs.Decide.Lexeme.{mark_number, keyword_number}
use Rattle.syntax.specs.Held.Kind.{kind_of}
use Rattle.grammar.proofs.read_var.Goals as goal

pub returns-in_err-word : goal.returns-in_err-word
unfolding read_var kind_of mark_number keyword_number
returns-in_err-word c =
    stops _ (took_key k_var c.in_err-word.ensures) c.from_residual.ensures

pub returns-in_err-name : goal.returns-in_err-name
unfolding read_var kind_of mark_number keyword_number
returns-in_err-name c =
    then (took_key k_var c.in_ok-word.ensures) λ _.
    stops _ (took_name c.in_err-name.ensures) c.from_residual-in_err-name.ensures

pub returns-in_err-equals : goal.returns-in_err-equals
unfolding read_var kind_of mark_number keyword_number
returns-in_err-equals c =
    then (took_key k_var c.in_ok-word.ensures) λ _.
    then (took_name c.in_ok-name.ensures) λ _.
    stops _ (took_mark equals c.in_err-equals.ensures) c.from_residual-in_err-equals.ensures

pub returns-in_err-start : goal.returns-in_err-start
unfolding read_var kind_of mark_number keyword_number
returns-in_err-start c =
    then (took_key k_var c.in_ok-word.ensures) λ _.
    then (took_name c.in_ok-name.ensures) λ _.
    then (took_mark equals c.in_ok-equals.ensures) λ _.
    stops _ c.in_err-start.ensures c.from_residual-in_err-start.ensures

pub returns-in_err-within : goal.returns-in_err-within
unfolding read_var kind_of mark_number keyword_number
returns-in_err-within c =
    then (took_key k_var c.in_ok-word.ensures) λ _.
    then (took_name c.in_ok-name.ensures) λ _.
    then (took_mark equals c.in_ok-equals.ensures) λ _.
    then c.in_ok-start.ensures λ _.
    stops _ (took_key k_in c.in_err-within.ensures) c.from_residual-in_err-within.ensures

pub returns-in_err-low : goal.returns-in_err-low
unfolding read_var kind_of mark_number keyword_number
returns-in_err-low c =
    then (took_key k_var c.in_ok-word.ensures) λ _.
    then (took_name c.in_ok-name.ensures) λ _.
    then (took_mark equals c.in_ok-equals.ensures) λ _.
    then c.in_ok-start.ensures λ _.
    then (took_key k_in c.in_ok-within.ensures) λ _.
    stops _ c.in_err-low.ensures c.from_residual-in_err-low.ensures

pub returns-in_err-dots : goal.returns-in_err-dots
unfolding read_var kind_of mark_number keyword_number
returns-in_err-dots c =
    then (took_key k_var c.in_ok-word.ensures) λ _.
    then (took_name c.in_ok-name.ensures) λ _.
    then (took_mark equals c.in_ok-equals.ensures) λ _.
    then c.in_ok-start.ensures λ _.
    then (took_key k_in c.in_ok-within.ensures) λ _.
    then c.in_ok-low.ensures λ _.
    stops _ (took_mark dots c.in_err-dots.ensures) c.from_residual-in_err-dots.ensures

pub returns-in_err-high : goal.returns-in_err-high
unfolding read_var kind_of mark_number keyword_number
returns-in_err-high c =
    then (took_key k_var c.in_ok-word.ensures) λ _.
    then (took_name c.in_ok-name.ensures) λ _.
    then (took_mark equals c.in_ok-equals.ensures) λ _.
    then c.in_ok-start.ensures λ _.
    then (took_key k_in c.in_ok-within.ensures) λ _.
    then c.in_ok-low.ensures λ _.
    then (took_mark dots c.in_ok-dots.ensures) λ _.
    stops _ c.in_err-high.ensures c.from_residual-in_err-high.ensures

pub returns : goal.returns
unfolding read_var kind_of mark_number keyword_number
returns c =
    then (took_key k_var c.in_ok-word.ensures) λ _.
    then (took_name c.in_ok-name.ensures) λ _.
    then (took_mark equals c.in_ok-equals.ensures) λ _.
    then c.in_ok-start.ensures λ _.
    then (took_key k_in c.in_ok-within.ensures) λ _.
    then c.in_ok-low.ensures λ _.
    then (took_mark dots c.in_ok-dots.ensures) λ _.
    then c.in_ok-high.ensures λ _.
    ends _ (took_mark semicolon c.expect-6.ensures)
