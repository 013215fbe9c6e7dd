-- Blocks and statements meet their contracts: what is left falls.
use mathlib.Core.Path.{refl}
use Rattle.grammar.proofs.Readers.{then, stops, halts, ends, done, yes, no, saw, missing, passed, fuelled, spent}
use Rattle.grammar.proofs.KindTests.{by_mark, by_key, took_mark, took_key, took_name}
use Rattle.syntax.specs.Decide.Reading.{read_block, read_stmt}
use Rattle.syntax.specs.Token.{lbrace, rbrace, lparen, rparen, semicolon, becomes, k_if, k_else}
use Rattle.syntax.specs.Decide.Lexeme.{mark_number, keyword_number}
use Rattle.syntax.specs.Held.Kind.{kind_of}
use Rattle.grammar.proofs.+read_block_read_stmt.Goals as goal

pub read_block-returns-in_err-less : goal.read_block-returns-in_err-less
unfolding read_block
read_block-returns-in_err-less t c =
    spent read_block (λ ls. refl) c.in_err-less.ensures c.from_residual.ensures

pub read_block-returns-then-sees : goal.read_block-returns-then-sees
unfolding read_block kind_of mark_number keyword_number
read_block-returns-then-sees t c =
    fuelled read_block c.in_ok-less.ensures
    (yes _ (by_mark rbrace) (rw c.if-sees.true at c.sees.ensures) (done _))

pub read_block-returns-in-Err : goal.read_block-returns-in-Err
unfolding read_block kind_of mark_number keyword_number
read_block-returns-in-Err t c =
    fuelled read_block c.in_ok-less.ensures
    (no _ (by_mark rbrace) (rw c.if-sees.false at c.sees.ensures) (halts _ c.in-Err.ensures))

pub read_block-returns-in-Ok : goal.read_block-returns-in-Ok
unfolding read_block kind_of mark_number keyword_number
read_block-returns-in-Ok t c =
    fuelled read_block c.in_ok-less.ensures
    (no _ (by_mark rbrace) (rw c.if-sees.false at c.sees.ensures)
    (then c.in-Ok.ensures λ _. ends _ c.read_block.ensures))

pub read_stmt-returns-in_err-less : goal.read_stmt-returns-in_err-less
unfolding read_stmt
read_stmt-returns-in_err-less t c =
    spent read_stmt (λ ls. refl) c.in_err-less.ensures c.from_residual.ensures

pub read_stmt-returns-in_err-open : goal.read_stmt-returns-in_err-open
unfolding read_stmt kind_of mark_number keyword_number
read_stmt-returns-in_err-open t c =
    fuelled read_stmt c.in_ok-less.ensures
    (yes _ (by_key k_if) (saw c.in-Some.ensures).0
    (then (took_key k_if (passed c.in-Some.ensures)) λ _.
    stops _ (took_mark lparen c.in_err-open.ensures) c.from_residual-in_err-open.ensures))

pub read_stmt-returns-in_err-cond : goal.read_stmt-returns-in_err-cond
unfolding read_stmt kind_of mark_number keyword_number
read_stmt-returns-in_err-cond t c =
    fuelled read_stmt c.in_ok-less.ensures
    (yes _ (by_key k_if) (saw c.in-Some.ensures).0
    (then (took_key k_if (passed c.in-Some.ensures)) λ _.
    then (took_mark lparen c.in_ok-open.ensures) λ _.
    stops _ c.in_err-cond.ensures c.from_residual-in_err-cond.ensures))

pub read_stmt-returns-in_err-close : goal.read_stmt-returns-in_err-close
unfolding read_stmt kind_of mark_number keyword_number
read_stmt-returns-in_err-close t c =
    fuelled read_stmt c.in_ok-less.ensures
    (yes _ (by_key k_if) (saw c.in-Some.ensures).0
    (then (took_key k_if (passed c.in-Some.ensures)) λ _.
    then (took_mark lparen c.in_ok-open.ensures) λ _.
    then c.in_ok-cond.ensures λ _.
    stops _ (took_mark rparen c.in_err-close.ensures) c.from_residual-in_err-close.ensures))

pub read_stmt-returns-in_err-begin : goal.read_stmt-returns-in_err-begin
unfolding read_stmt kind_of mark_number keyword_number
read_stmt-returns-in_err-begin t c =
    fuelled read_stmt c.in_ok-less.ensures
    (yes _ (by_key k_if) (saw c.in-Some.ensures).0
    (then (took_key k_if (passed c.in-Some.ensures)) λ _.
    then (took_mark lparen c.in_ok-open.ensures) λ _.
    then c.in_ok-cond.ensures λ _.
    then (took_mark rparen c.in_ok-close.ensures) λ _.
    stops _ (took_mark lbrace c.in_err-begin.ensures) c.from_residual-in_err-begin.ensures))

pub read_stmt-returns-in_err-block : goal.read_stmt-returns-in_err-block
unfolding read_stmt kind_of mark_number keyword_number
read_stmt-returns-in_err-block t c =
    fuelled read_stmt c.in_ok-less.ensures
    (yes _ (by_key k_if) (saw c.in-Some.ensures).0
    (then (took_key k_if (passed c.in-Some.ensures)) λ _.
    then (took_mark lparen c.in_ok-open.ensures) λ _.
    then c.in_ok-cond.ensures λ _.
    then (took_mark rparen c.in_ok-close.ensures) λ _.
    then (took_mark lbrace c.in_ok-begin.ensures) λ _.
    stops _ c.in_err-block.ensures c.from_residual-in_err-block.ensures))

pub read_stmt-returns-in_err-end : goal.read_stmt-returns-in_err-end
unfolding read_stmt kind_of mark_number keyword_number
read_stmt-returns-in_err-end t c =
    fuelled read_stmt c.in_ok-less.ensures
    (yes _ (by_key k_if) (saw c.in-Some.ensures).0
    (then (took_key k_if (passed c.in-Some.ensures)) λ _.
    then (took_mark lparen c.in_ok-open.ensures) λ _.
    then c.in_ok-cond.ensures λ _.
    then (took_mark rparen c.in_ok-close.ensures) λ _.
    then (took_mark lbrace c.in_ok-begin.ensures) λ _.
    then c.in_ok-block.ensures λ _.
    stops _ (took_mark rbrace c.in_err-end.ensures) c.from_residual-in_err-end.ensures))

pub read_stmt-returns-in_err-begin2 : goal.read_stmt-returns-in_err-begin2
unfolding read_stmt kind_of mark_number keyword_number
read_stmt-returns-in_err-begin2 t c =
    fuelled read_stmt c.in_ok-less.ensures
    (yes _ (by_key k_if) (saw c.in-Some.ensures).0
    (then (took_key k_if (passed c.in-Some.ensures)) λ _.
    then (took_mark lparen c.in_ok-open.ensures) λ _.
    then c.in_ok-cond.ensures λ _.
    then (took_mark rparen c.in_ok-close.ensures) λ _.
    then (took_mark lbrace c.in_ok-begin.ensures) λ _.
    then c.in_ok-block.ensures λ _.
    then (took_mark rbrace c.in_ok-end.ensures) λ _.
    yes _ (by_key k_else) (saw c.in-Some-accept.ensures).0
    (then (took_key k_else (passed c.in-Some-accept.ensures)) λ _.
    stops _ (took_mark lbrace c.in_err-begin2.ensures) c.from_residual-in_err-begin2.ensures)))

pub read_stmt-returns-in_err-block2 : goal.read_stmt-returns-in_err-block2
unfolding read_stmt kind_of mark_number keyword_number
read_stmt-returns-in_err-block2 t c =
    fuelled read_stmt c.in_ok-less.ensures
    (yes _ (by_key k_if) (saw c.in-Some.ensures).0
    (then (took_key k_if (passed c.in-Some.ensures)) λ _.
    then (took_mark lparen c.in_ok-open.ensures) λ _.
    then c.in_ok-cond.ensures λ _.
    then (took_mark rparen c.in_ok-close.ensures) λ _.
    then (took_mark lbrace c.in_ok-begin.ensures) λ _.
    then c.in_ok-block.ensures λ _.
    then (took_mark rbrace c.in_ok-end.ensures) λ _.
    yes _ (by_key k_else) (saw c.in-Some-accept.ensures).0
    (then (took_key k_else (passed c.in-Some-accept.ensures)) λ _.
    then (took_mark lbrace c.in_ok-begin2.ensures) λ _.
    stops _ c.in_err-block2.ensures c.from_residual-in_err-block2.ensures)))

pub read_stmt-returns-in-Some-accept : goal.read_stmt-returns-in-Some-accept
unfolding read_stmt kind_of mark_number keyword_number
read_stmt-returns-in-Some-accept t c =
    fuelled read_stmt c.in_ok-less.ensures
    (yes _ (by_key k_if) (saw c.in-Some.ensures).0
    (then (took_key k_if (passed c.in-Some.ensures)) λ _.
    then (took_mark lparen c.in_ok-open.ensures) λ _.
    then c.in_ok-cond.ensures λ _.
    then (took_mark rparen c.in_ok-close.ensures) λ _.
    then (took_mark lbrace c.in_ok-begin.ensures) λ _.
    then c.in_ok-block.ensures λ _.
    then (took_mark rbrace c.in_ok-end.ensures) λ _.
    yes _ (by_key k_else) (saw c.in-Some-accept.ensures).0
    (then (took_key k_else (passed c.in-Some-accept.ensures)) λ _.
    then (took_mark lbrace c.in_ok-begin2.ensures) λ _.
    then c.in_ok-block2.ensures λ _.
    ends _ (took_mark rbrace c.expect-in-Some-accept-2.ensures))))

pub read_stmt-returns-in-Some : goal.read_stmt-returns-in-Some
unfolding read_stmt kind_of mark_number keyword_number
read_stmt-returns-in-Some t c =
    fuelled read_stmt c.in_ok-less.ensures
    (yes _ (by_key k_if) (saw c.in-Some.ensures).0
    (then (took_key k_if (passed c.in-Some.ensures)) λ _.
    then (took_mark lparen c.in_ok-open.ensures) λ _.
    then c.in_ok-cond.ensures λ _.
    then (took_mark rparen c.in_ok-close.ensures) λ _.
    then (took_mark lbrace c.in_ok-begin.ensures) λ _.
    then c.in_ok-block.ensures λ _.
    then (took_mark rbrace c.in_ok-end.ensures) λ _.
    no _ (by_key k_else) (missing c.in_default-accept.ensures) (done _)))

pub read_stmt-returns-in_err-name : goal.read_stmt-returns-in_err-name
unfolding read_stmt kind_of mark_number keyword_number
read_stmt-returns-in_err-name t c =
    fuelled read_stmt c.in_ok-less.ensures
    (no _ (by_key k_if) (missing c.in_default.ensures) (
    stops _ (took_name c.in_err-name.ensures) c.from_residual-in_err-name.ensures))

pub read_stmt-returns-in_err-becomes : goal.read_stmt-returns-in_err-becomes
unfolding read_stmt kind_of mark_number keyword_number
read_stmt-returns-in_err-becomes t c =
    fuelled read_stmt c.in_ok-less.ensures
    (no _ (by_key k_if) (missing c.in_default.ensures) (
    then (took_name c.in_ok-name.ensures) λ _.
    stops _ (took_mark becomes c.in_err-becomes.ensures) c.from_residual-in_err-becomes.ensures))

pub read_stmt-returns-in_err-value : goal.read_stmt-returns-in_err-value
unfolding read_stmt kind_of mark_number keyword_number
read_stmt-returns-in_err-value t c =
    fuelled read_stmt c.in_ok-less.ensures
    (no _ (by_key k_if) (missing c.in_default.ensures) (
    then (took_name c.in_ok-name.ensures) λ _.
    then (took_mark becomes c.in_ok-becomes.ensures) λ _.
    stops _ c.in_err-value.ensures c.from_residual-in_err-value.ensures))

pub read_stmt-returns : goal.read_stmt-returns
unfolding read_stmt kind_of mark_number keyword_number
read_stmt-returns t c =
    fuelled read_stmt c.in_ok-less.ensures
    (no _ (by_key k_if) (missing c.in_default.ensures) (
    then (took_name c.in_ok-name.ensures) λ _.
    then (took_mark becomes c.in_ok-becomes.ensures) λ _.
    then c.in_ok-value.ensures λ _.
    ends _ (took_mark semicolon c.expect-4.ensures)))
