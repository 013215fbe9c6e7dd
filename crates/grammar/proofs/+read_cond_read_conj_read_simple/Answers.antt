-- Conditions, conjunctions and simple conditions meet their contracts: what is left falls.
use mathlib.Core.Path.{refl}
use Rattle.grammar.proofs.Readers.{then, stops, ends, done, yes, no, saw, missing, passed, fuelled, spent}
use Rattle.grammar.proofs.KindTests.{by_mark, by_key, took_mark, took_key, took_comparison}
use Rattle.syntax.specs.Decide.Reading.{read_cond, read_conj, read_simple}
use Rattle.syntax.specs.Token.{lparen, rparen, bang, and_and, or_or, k_true, k_false}
use Rattle.syntax.specs.Decide.Lexeme.{mark_number, keyword_number}
use Rattle.syntax.specs.Held.Kind.{kind_of}
use Rattle.grammar.proofs.+read_cond_read_conj_read_simple.Goals as goal

pub read_cond-returns-in_err-less : goal.read_cond-returns-in_err-less
unfolding read_cond
read_cond-returns-in_err-less t c =
    spent read_cond (λ ls. refl) c.in_err-less.ensures c.from_residual.ensures

pub read_cond-returns-in_err-conj : goal.read_cond-returns-in_err-conj
unfolding read_cond kind_of mark_number keyword_number
read_cond-returns-in_err-conj t c =
    fuelled read_cond c.in_ok-less.ensures (stops _ c.in_err-conj.ensures c.from_residual-in_err-conj.ensures)

pub read_cond-returns-in-Some : goal.read_cond-returns-in-Some
unfolding read_cond kind_of mark_number keyword_number
read_cond-returns-in-Some t c =
    fuelled read_cond c.in_ok-less.ensures
    (then c.in_ok-conj.ensures λ _. yes _ (by_mark or_or) (saw c.in-Some.ensures).0
    (then (took_mark or_or (passed c.in-Some.ensures)) λ _. ends _ c.read_cond.ensures))

pub read_cond-returns-in-None : goal.read_cond-returns-in-None
unfolding read_cond kind_of mark_number keyword_number
read_cond-returns-in-None t c =
    fuelled read_cond c.in_ok-less.ensures
    (then c.in_ok-conj.ensures λ _. no _ (by_mark or_or) (missing c.in-None.ensures) (done _))

pub read_conj-returns-in_err-less : goal.read_conj-returns-in_err-less
unfolding read_conj
read_conj-returns-in_err-less t c =
    spent read_conj (λ ls. refl) c.in_err-less.ensures c.from_residual.ensures

pub read_conj-returns-in_err-simple : goal.read_conj-returns-in_err-simple
unfolding read_conj kind_of mark_number keyword_number
read_conj-returns-in_err-simple t c =
    fuelled read_conj c.in_ok-less.ensures (stops _ c.in_err-simple.ensures c.from_residual-in_err-simple.ensures)

pub read_conj-returns-in-Some : goal.read_conj-returns-in-Some
unfolding read_conj kind_of mark_number keyword_number
read_conj-returns-in-Some t c =
    fuelled read_conj c.in_ok-less.ensures
    (then c.in_ok-simple.ensures λ _. yes _ (by_mark and_and) (saw c.in-Some.ensures).0
    (then (took_mark and_and (passed c.in-Some.ensures)) λ _. ends _ c.read_conj.ensures))

pub read_conj-returns-in-None : goal.read_conj-returns-in-None
unfolding read_conj kind_of mark_number keyword_number
read_conj-returns-in-None t c =
    fuelled read_conj c.in_ok-less.ensures
    (then c.in_ok-simple.ensures λ _. no _ (by_mark and_and) (missing c.in-None.ensures) (done _))

pub read_simple-returns-in_err-less : goal.read_simple-returns-in_err-less
unfolding read_simple
read_simple-returns-in_err-less t c =
    spent read_simple (λ ls. refl) c.in_err-less.ensures c.from_residual.ensures

pub read_simple-returns-in-Some : goal.read_simple-returns-in-Some
unfolding read_simple kind_of mark_number keyword_number
read_simple-returns-in-Some t c =
    fuelled read_simple c.in_ok-less.ensures
    (yes _ (by_mark bang) (saw c.in-Some.ensures).0
    (then (took_mark bang (passed c.in-Some.ensures)) λ _. ends _ c.read_simple.ensures))

pub read_simple-returns-in_err-cond : goal.read_simple-returns-in_err-cond
unfolding read_simple kind_of mark_number keyword_number
read_simple-returns-in_err-cond t c =
    fuelled read_simple c.in_ok-less.ensures
    (no _ (by_mark bang) (missing c.in_default.ensures)
    (yes _ (by_mark lparen) (saw c.in-Some-accept.ensures).0
    (then (took_mark lparen (passed c.in-Some-accept.ensures)) λ _.
    stops _ c.in_err-cond.ensures c.from_residual-in_err-cond.ensures)))

pub read_simple-returns-in-Some-accept : goal.read_simple-returns-in-Some-accept
unfolding read_simple kind_of mark_number keyword_number
read_simple-returns-in-Some-accept t c =
    fuelled read_simple c.in_ok-less.ensures
    (no _ (by_mark bang) (missing c.in_default.ensures)
    (yes _ (by_mark lparen) (saw c.in-Some-accept.ensures).0
    (then (took_mark lparen (passed c.in-Some-accept.ensures)) λ _.
    then c.in_ok-cond.ensures λ _. ends _ (took_mark rparen c.expect.ensures))))

pub read_simple-returns-in-Some-accept-2 : goal.read_simple-returns-in-Some-accept-2
unfolding read_simple kind_of mark_number keyword_number
read_simple-returns-in-Some-accept-2 t c =
    fuelled read_simple c.in_ok-less.ensures
    (no _ (by_mark bang) (missing c.in_default.ensures)
    (no _ (by_mark lparen) (missing c.in_default-accept.ensures)
    (yes _ (by_key k_true) (saw c.in-Some-accept-2.ensures).0
    (ends _ (took_key k_true (passed c.in-Some-accept-2.ensures))))))

pub read_simple-returns-in-Some-accept-3 : goal.read_simple-returns-in-Some-accept-3
unfolding read_simple kind_of mark_number keyword_number
read_simple-returns-in-Some-accept-3 t c =
    fuelled read_simple c.in_ok-less.ensures
    (no _ (by_mark bang) (missing c.in_default.ensures)
    (no _ (by_mark lparen) (missing c.in_default-accept.ensures)
    (no _ (by_key k_true) (missing c.in_default-accept-2.ensures)
    (yes _ (by_key k_false) (saw c.in-Some-accept-3.ensures).0
    (ends _ (took_key k_false (passed c.in-Some-accept-3.ensures)))))))

pub read_simple-returns-in_err-one : goal.read_simple-returns-in_err-one
unfolding read_simple kind_of mark_number keyword_number
read_simple-returns-in_err-one t c =
    fuelled read_simple c.in_ok-less.ensures
    (no _ (by_mark bang) (missing c.in_default.ensures)
    (no _ (by_mark lparen) (missing c.in_default-accept.ensures)
    (no _ (by_key k_true) (missing c.in_default-accept-2.ensures)
    (no _ (by_key k_false) (missing c.in_default-accept-3.ensures)
    (stops _ c.in_err-one.ensures c.from_residual-in_err-one.ensures)))))

pub read_simple-returns-in_err-comparison : goal.read_simple-returns-in_err-comparison
unfolding read_simple kind_of mark_number keyword_number
read_simple-returns-in_err-comparison t c =
    fuelled read_simple c.in_ok-less.ensures
    (no _ (by_mark bang) (missing c.in_default.ensures)
    (no _ (by_mark lparen) (missing c.in_default-accept.ensures)
    (no _ (by_key k_true) (missing c.in_default-accept-2.ensures)
    (no _ (by_key k_false) (missing c.in_default-accept-3.ensures)
    (then c.in_ok-one.ensures λ _.
    stops _ (took_comparison c.in_err-comparison.ensures) c.from_residual-in_err-comparison.ensures)))))

pub read_simple-returns : goal.read_simple-returns
unfolding read_simple kind_of mark_number keyword_number
read_simple-returns t c =
    fuelled read_simple c.in_ok-less.ensures
    (no _ (by_mark bang) (missing c.in_default.ensures)
    (no _ (by_mark lparen) (missing c.in_default-accept.ensures)
    (no _ (by_key k_true) (missing c.in_default-accept-2.ensures)
    (no _ (by_key k_false) (missing c.in_default-accept-3.ensures)
    (then c.in_ok-one.ensures λ _. then (took_comparison c.in_ok-comparison.ensures) λ _.
    ends _ c.read_expr-2.ensures)))))
