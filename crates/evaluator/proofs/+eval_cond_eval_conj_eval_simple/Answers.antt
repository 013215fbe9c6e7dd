-- The proof of the cycle of calls {eval_cond, eval_conj, eval_simple}. The measure is three times the count of tokens
-- left, with a rank for calls at the same place. A condition and a conjunction are chains: in both loops what is read
-- from the place on, joined with what is held, is the whole. Each return is a law, by the kind at the place or behind.
use native.Mathlib.Omega.{arith}
use mathlib.Core.Path.{sym, refl, ◌∙◌}
use mathlib.Core.Bool.{true, false}
use Rattle.syntax.specs.Token.{mark, lparen, bang, and_and, or_or}
use Rattle.syntax.specs.Decide.Lexeme.{mark_number, keyword_number}
use Rattle.syntax.specs.Held.Kind.{kind_of}
use Rattle.evaluator.proofs.Places.{kind_within}
use Rattle.evaluator.proofs.Readings.{simple_not, simple_bracketed, simple_constant, constant_kind}
use Rattle.evaluator.proofs.Readings.{simple_compare, conj_chain, cond_chain, chain_first, chain_last}
use Rattle.evaluator.proofs.Readings.{chain_more}
use Rattle.evaluator.proofs.+eval_cond_eval_conj_eval_simple.Goals as goal

pub eval_cond-loop-holds-init : goal.eval_cond-loop-holds-init
eval_cond-loop-holds-init t c = chain_first cond_chain c.requires.within

pub eval_cond-eval_conj-conj-requires : goal.eval_cond-eval_conj-conj-requires
eval_cond-eval_conj-conj-requires t c =
    let inv = c.loop-holds.invariant in
    (omega (arith, inv.from, inv.to, c.decreases), record { within = inv.to; short = c.requires.short })

pub eval_cond-loop-holds-smaller : goal.eval_cond-loop-holds-smaller
unfolding kind_of mark_number keyword_number
eval_cond-loop-holds-smaller t c =
    let step = kind_within (kind_of (mark or_or)) c.after-place.ensures
    (sym c.kind_at.ensures ∙ c.if-kind_at-ne-OR_OR.false) refl in
    omega (arith, step, c.eval_conj-conj.ensures, c.after-place.ensures)

pub eval_cond-loop-holds-preserved : goal.eval_cond-loop-holds-preserved
unfolding kind_of mark_number keyword_number
eval_cond-loop-holds-preserved t c =
    chain_more cond_chain c.loop-holds.invariant c.eval_conj-conj.ensures c.union-all.ensures
    c.union-lacks.ensures (sym c.kind_at.ensures ∙ c.if-kind_at-ne-OR_OR.false) c.after-place.ensures

pub eval_cond-returns-then-kind_at-ne-OR_OR : goal.eval_cond-returns-then-kind_at-ne-OR_OR
unfolding kind_of mark_number keyword_number
eval_cond-returns-then-kind_at-ne-OR_OR t c =
    chain_last cond_chain c.loop-holds.invariant c.eval_conj-conj.ensures c.union-all.ensures
    c.union-lacks.ensures (λ e. c.if-kind_at-ne-OR_OR.true (c.kind_at.ensures ∙ e))

pub eval_conj-loop-holds-init : goal.eval_conj-loop-holds-init
eval_conj-loop-holds-init t c = chain_first conj_chain c.requires.within

pub eval_conj-eval_simple-simple-requires : goal.eval_conj-eval_simple-simple-requires
eval_conj-eval_simple-simple-requires t c =
    let inv = c.loop-holds.invariant in
    (omega (arith, inv.from, inv.to, c.decreases), record { within = inv.to; short = c.requires.short })

pub eval_conj-loop-holds-smaller : goal.eval_conj-loop-holds-smaller
unfolding kind_of mark_number keyword_number
eval_conj-loop-holds-smaller t c =
    let step = kind_within (kind_of (mark and_and)) c.after-place.ensures
    (sym c.kind_at.ensures ∙ c.if-kind_at-ne-AND_AND.false) refl in
    omega (arith, step, c.eval_simple-simple.ensures, c.after-place.ensures)

pub eval_conj-loop-holds-preserved : goal.eval_conj-loop-holds-preserved
unfolding kind_of mark_number keyword_number
eval_conj-loop-holds-preserved t c =
    chain_more conj_chain c.loop-holds.invariant c.eval_simple-simple.ensures c.both-all.ensures
    c.union-lacks.ensures (sym c.kind_at.ensures ∙ c.if-kind_at-ne-AND_AND.false) c.after-place.ensures

pub eval_conj-returns-then-kind_at-ne-AND_AND : goal.eval_conj-returns-then-kind_at-ne-AND_AND
unfolding kind_of mark_number keyword_number
eval_conj-returns-then-kind_at-ne-AND_AND t c =
    chain_last conj_chain c.loop-holds.invariant c.eval_simple-simple.ensures c.both-all.ensures
    c.union-lacks.ensures (λ e. c.if-kind_at-ne-AND_AND.true (c.kind_at.ensures ∙ e))

pub eval_simple-eval_simple-simple-requires : goal.eval_simple-eval_simple-simple-requires
unfolding kind_of mark_number keyword_number
eval_simple-eval_simple-simple-requires t c =
    let step = kind_within (kind_of (mark bang)) c.after-next.ensures
    (sym c.kind_at-kind.ensures ∙ c.if-kind-eq-BANG.true) refl in (
      omega (arith, step, c.after-next.ensures, c.requires, c.decreases),
      record { within = c.after-next.ensures.to; short = c.requires.short },
    )

pub eval_simple-returns-then-kind-eq-BANG : goal.eval_simple-returns-then-kind-eq-BANG
unfolding kind_of mark_number keyword_number
eval_simple-returns-then-kind-eq-BANG t c =
    simple_not (sym c.kind_at-kind.ensures ∙ c.if-kind-eq-BANG.true) c.after-next.ensures
    c.eval_simple-simple.ensures c.other.ensures

pub eval_simple-eval_cond-cond-requires : goal.eval_simple-eval_cond-cond-requires
unfolding kind_of mark_number keyword_number
eval_simple-eval_cond-cond-requires t c =
    let step = kind_within (kind_of (mark lparen)) c.after-next.ensures
    (sym c.kind_at-kind.ensures ∙ c.if-kind-eq-LPAREN.true) refl in (
      omega (arith, step, c.after-next.ensures, c.requires, c.decreases),
      record { within = c.after-next.ensures.to; short = c.requires.short },
    )

pub eval_simple-returns-then-kind-eq-LPAREN : goal.eval_simple-returns-then-kind-eq-LPAREN
unfolding kind_of mark_number keyword_number
eval_simple-returns-then-kind-eq-LPAREN t c =
    simple_bracketed (sym c.kind_at-kind.ensures ∙ c.if-kind-eq-LPAREN.true) c.after-next.ensures
    c.eval_cond-cond.ensures c.after.ensures

pub eval_simple-returns-then-kind-eq-KEY_TRUE : goal.eval_simple-returns-then-kind-eq-KEY_TRUE
unfolding constant_kind kind_of mark_number keyword_number
eval_simple-returns-then-kind-eq-KEY_TRUE t c =
    simple_constant true (sym c.kind_at-kind.ensures ∙ c.if-kind-eq-KEY_TRUE.true) c.after-next.ensures

pub eval_simple-returns-then-kind-eq-KEY_FALSE : goal.eval_simple-returns-then-kind-eq-KEY_FALSE
unfolding constant_kind kind_of mark_number keyword_number
eval_simple-returns-then-kind-eq-KEY_FALSE t c =
    simple_constant false (sym c.kind_at-kind.ensures ∙ c.if-kind-eq-KEY_FALSE.true) c.after-next.ensures

pub eval_simple-returns : goal.eval_simple-returns
unfolding kind_of mark_number keyword_number
eval_simple-returns t c =
    let kind = c.kind_at-kind.ensures in
    simple_compare (λ e. c.if-kind-eq-BANG.false (kind ∙ e)) (λ e. c.if-kind-eq-LPAREN.false (kind ∙ e))
    (λ e. c.if-kind-eq-KEY_TRUE.false (kind ∙ e)) (λ e. c.if-kind-eq-KEY_FALSE.false (kind ∙ e)) c.eval_compare.ensures
