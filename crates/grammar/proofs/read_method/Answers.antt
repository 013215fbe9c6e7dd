-- `grammar::read_method` meets its contract.
use Rattle.grammar.proofs.Readers.{then, halts, stops, ends}
use Rattle.grammar.proofs.KindTests.{took_mark, took_key, took_name}
use Rattle.syntax.specs.Decide.Reading.{read_some, read_method}
use Rattle.syntax.specs.Token.{lbrace, rbrace, k_method}
use Rattle.syntax.specs.Decide.Lexeme.{mark_number, keyword_number}
use Rattle.syntax.specs.Held.Kind.{kind_of}
use Rattle.grammar.proofs.read_method.Goals as goal

pub returns-in_err-word : goal.returns-in_err-word
unfolding read_method read_some kind_of mark_number keyword_number
returns-in_err-word c =
    stops _ (took_key k_method c.in_err-word.ensures) c.from_residual.ensures

pub returns-in_err-name : goal.returns-in_err-name
unfolding read_method read_some kind_of mark_number keyword_number
returns-in_err-name c =
    then (took_key k_method c.in_ok-word.ensures) λ _.
    stops _ (took_name c.in_err-name.ensures) c.from_residual-in_err-name.ensures

pub returns-in_err-begin : goal.returns-in_err-begin
unfolding read_method read_some kind_of mark_number keyword_number
returns-in_err-begin c =
    then (took_key k_method c.in_ok-word.ensures) λ _.
    then (took_name c.in_ok-name.ensures) λ _.
    stops _ (took_mark lbrace c.in_err-begin.ensures) c.from_residual-in_err-begin.ensures

pub returns-in_err-region : goal.returns-in_err-region
unfolding read_method read_some kind_of mark_number keyword_number
returns-in_err-region c =
    then (took_key k_method c.in_ok-word.ensures) λ _.
    then (took_name c.in_ok-name.ensures) λ _.
    then (took_mark lbrace c.in_ok-begin.ensures) λ _.
    stops _ (halts _ c.in_err-region.ensures) c.from_residual-in_err-region.ensures

pub returns-in_err-regions : goal.returns-in_err-regions
unfolding read_method read_some kind_of mark_number keyword_number
returns-in_err-regions c =
    then (took_key k_method c.in_ok-word.ensures) λ _.
    then (took_name c.in_ok-name.ensures) λ _.
    then (took_mark lbrace c.in_ok-begin.ensures) λ _.
    stops _ (then c.in_ok-region.ensures λ _. ends _ c.in_err-regions.ensures)
    c.from_residual-in_err-regions.ensures

pub returns : goal.returns
unfolding read_method read_some kind_of mark_number keyword_number
returns c =
    then (took_key k_method c.in_ok-word.ensures) λ _.
    then (took_name c.in_ok-name.ensures) λ _.
    then (took_mark lbrace c.in_ok-begin.ensures) λ _.
    then (then c.in_ok-region.ensures λ _. ends _ c.in_ok-regions.ensures) λ _.
    ends _ (took_mark rbrace c.expect-4.ensures)
