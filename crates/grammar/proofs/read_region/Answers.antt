-- `grammar::read_region` meets its contract.
use Rattle.grammar.proofs.Readers.{then, stops, ends}
use Rattle.grammar.proofs.KindTests.{took_mark, took_key}
use Rattle.syntax.specs.Decide.Reading.{read_region}
use Rattle.syntax.specs.Token.{lbrace, rbrace, lparen, rparen, k_waituntil}
use Rattle.syntax.specs.Decide.Lexeme.{mark_number, keyword_number}
use Rattle.syntax.specs.Held.Kind.{kind_of}
use Rattle.grammar.proofs.read_region.Goals as goal

pub returns-in_err-word : goal.returns-in_err-word
unfolding read_region kind_of mark_number keyword_number
returns-in_err-word c =
    stops _ (took_key k_waituntil c.in_err-word.ensures) c.from_residual.ensures

pub returns-in_err-open : goal.returns-in_err-open
unfolding read_region kind_of mark_number keyword_number
returns-in_err-open c =
    then (took_key k_waituntil c.in_ok-word.ensures) λ _.
    stops _ (took_mark lparen c.in_err-open.ensures) c.from_residual-in_err-open.ensures

pub returns-in_err-guard : goal.returns-in_err-guard
unfolding read_region kind_of mark_number keyword_number
returns-in_err-guard c =
    then (took_key k_waituntil c.in_ok-word.ensures) λ _.
    then (took_mark lparen c.in_ok-open.ensures) λ _.
    stops _ c.in_err-guard.ensures c.from_residual-in_err-guard.ensures

pub returns-in_err-shut : goal.returns-in_err-shut
unfolding read_region kind_of mark_number keyword_number
returns-in_err-shut c =
    then (took_key k_waituntil c.in_ok-word.ensures) λ _.
    then (took_mark lparen c.in_ok-open.ensures) λ _.
    then c.in_ok-guard.ensures λ _.
    stops _ (took_mark rparen c.in_err-shut.ensures) c.from_residual-in_err-shut.ensures

pub returns-in_err-begin : goal.returns-in_err-begin
unfolding read_region kind_of mark_number keyword_number
returns-in_err-begin c =
    then (took_key k_waituntil c.in_ok-word.ensures) λ _.
    then (took_mark lparen c.in_ok-open.ensures) λ _.
    then c.in_ok-guard.ensures λ _.
    then (took_mark rparen c.in_ok-shut.ensures) λ _.
    stops _ (took_mark lbrace c.in_err-begin.ensures) c.from_residual-in_err-begin.ensures

pub returns-in_err-block : goal.returns-in_err-block
unfolding read_region kind_of mark_number keyword_number
returns-in_err-block c =
    then (took_key k_waituntil c.in_ok-word.ensures) λ _.
    then (took_mark lparen c.in_ok-open.ensures) λ _.
    then c.in_ok-guard.ensures λ _.
    then (took_mark rparen c.in_ok-shut.ensures) λ _.
    then (took_mark lbrace c.in_ok-begin.ensures) λ _.
    stops _ c.in_err-block.ensures c.from_residual-in_err-block.ensures

pub returns : goal.returns
unfolding read_region kind_of mark_number keyword_number
returns c =
    then (took_key k_waituntil c.in_ok-word.ensures) λ _.
    then (took_mark lparen c.in_ok-open.ensures) λ _.
    then c.in_ok-guard.ensures λ _.
    then (took_mark rparen c.in_ok-shut.ensures) λ _.
    then (took_mark lbrace c.in_ok-begin.ensures) λ _.
    then c.in_ok-block.ensures λ _.
    ends _ (took_mark rbrace c.expect-5.ensures)
