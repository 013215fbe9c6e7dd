-- The proof of the cycle of calls {run_block, run_branch, run_stmt}. The measure is three times the count of tokens
-- left, with a rank for calls at the same place: a block's statement begins where the block does, and an if's blocks
-- begin behind it. In a block's loop, what is run from the place on is the rest of the whole run. Each return is a law on
-- blocks, statements or branches, by the kind at the place.
use native.Mathlib.Omega.{arith}
use mathlib.Core.Path.{sym, refl, ◌∙◌}
use Rattle.syntax.specs.Token.{key, mark, rbrace, k_if}
use Rattle.syntax.specs.Decide.Lexeme.{mark_number, keyword_number}
use Rattle.syntax.specs.Held.Kind.{kind_of, name_kind, no_kind}
use Rattle.evaluator.proofs.Places.{apart, kind_here}
use Rattle.evaluator.proofs.Readings.{near_more}
use Rattle.sixteen.proofs.Fill.{none_lack}
use Rattle.evaluator.proofs.Runs.{begun_first, begun_last, begun_more, stmt_assign, stmt_if}
use Rattle.evaluator.proofs.Runs.{branch_one, branch_two}
use Rattle.evaluator.proofs.+run_block_run_branch_run_stmt.Goals as goal

pub run_block-loop-on-init : goal.run_block-loop-on-init
run_block-loop-on-init t c = begun_first c.requires.placed.within c.requires.vars_len

pub run_block-returns-then-kind-eq-RBRACE : goal.run_block-returns-then-kind-eq-RBRACE
unfolding kind_of mark_number keyword_number
run_block-returns-then-kind-eq-RBRACE t c =
    let kind = sym c.kind_at-kind.ensures ∙ c.if-kind-eq-RBRACE.true in
    begun_last c.loop-on.invariant (λ e. apart (kind_of (mark rbrace)) name_kind refl kind e)
    (λ e. apart (kind_of (mark rbrace)) (kind_of (key k_if)) refl kind e)

pub run_block-returns-then-kind : goal.run_block-returns-then-kind
unfolding kind_of mark_number keyword_number
run_block-returns-then-kind t c =
    let kind = sym c.kind_at-kind.ensures ∙ c.if-kind.true in
    begun_last c.loop-on.invariant (λ e. apart no_kind name_kind refl kind e)
    (λ e. apart no_kind (kind_of (key k_if)) refl kind e)

pub run_block-run_stmt-one-requires : goal.run_block-run_stmt-one-requires
run_block-run_stmt-one-requires t c =
    let inv = c.loop-on.invariant in (
      omega (arith, inv.from, inv.to, c.decreases),
      (record { within = inv.to; short = c.requires.placed.short }, (inv.long, kind_here c.args.file.now.text.kinds.now c.loop-on.place (λ e. c.if-kind.false (c.kind_at-kind.ensures ∙ e)))),
    )

pub run_block-loop-on-smaller : goal.run_block-loop-on-smaller
run_block-loop-on-smaller t c = omega (arith, c.run_stmt-one.ensures)

pub run_block-loop-on-preserved : goal.run_block-loop-on-preserved
unfolding kind_of mark_number keyword_number
run_block-loop-on-preserved t c =
    begun_more c.loop-on.invariant c.run_stmt-one.ensures
    (λ e. c.if-kind-eq-RBRACE.false (c.kind_at-kind.ensures ∙ e)) c.both-all.ensures

pub run_branch-run_block-ok-requires : goal.run_branch-run_block-ok-requires
run_branch-run_block-ok-requires t c = (
  omega (arith, c.after-first.ensures, c.requires, c.decreases),
  (record { within = c.after-first.ensures.to; short = c.requires.placed.short }, c.requires.vars_len),
)

pub run_branch-run_block-more-requires : goal.run_branch-run_block-more-requires
run_branch-run_block-more-requires t c = (
  omega (
    arith,
    c.after-second.ensures,
    c.after-open.ensures,
    c.after-next.ensures,
    c.close_of-close.ensures,
    c.requires,
    c.decreases,
  ),
  (record { within = c.after-second.ensures.to; short = c.requires.placed.short }, c.run_block-ok.ensures.long),
)

pub run_branch-returns-then-kind_at-eq-KEY_ELSE : goal.run_branch-returns-then-kind_at-eq-KEY_ELSE
unfolding kind_of mark_number keyword_number
run_branch-returns-then-kind_at-eq-KEY_ELSE t c =
    branch_two c.args.on c.args.holds c.close_of-close.ensures c.after-next.ensures c.after-first.ensures
    c.both.ensures c.run_block-ok.ensures (sym c.kind_at.ensures ∙ c.if-kind_at-eq-KEY_ELSE.true)
    c.after-open.ensures c.close_of-last.ensures c.after-behind.ensures c.after-second.ensures
    c.unless.ensures c.run_block-more.ensures c.both-then-kind_at-eq-KEY_ELSE.ensures

pub run_branch-returns : goal.run_branch-returns
unfolding kind_of mark_number keyword_number
run_branch-returns t c =
    branch_one c.args.on c.args.holds c.close_of-close.ensures c.after-next.ensures c.after-first.ensures
    c.both.ensures c.run_block-ok.ensures (λ e. c.if-kind_at-eq-KEY_ELSE.false (c.kind_at.ensures ∙ e))

pub run_stmt-run_branch-step-requires : goal.run_stmt-run_branch-step-requires
run_stmt-run_branch-step-requires t c = (
  omega (
    arith,
    c.after-second.ensures.one_more c.requires.at_in_bounds,
    c.after-third.ensures,
    c.eval_cond-cond.ensures,
    c.after-open.ensures,
    c.requires,
    c.decreases,
  ),
  (record { within = c.after-open.ensures.to; short = c.requires.placed.short }, c.requires.vars_len),
)

pub run_stmt-returns-then-kind_at-eq-KEY_IF : goal.run_stmt-returns-then-kind_at-eq-KEY_IF
unfolding kind_of mark_number keyword_number
run_stmt-returns-then-kind_at-eq-KEY_IF t c =
    stmt_if (sym c.kind_at.ensures ∙ c.if-kind_at-eq-KEY_IF.true) c.requires.at_in_bounds c.after-second.ensures
    c.after-third.ensures c.eval_cond-cond.ensures c.after-open.ensures c.run_branch-step.ensures c.faulted.ensures

pub run_stmt-assign_mod-requires-clause-no_if : goal.run_stmt-assign_mod-requires-clause-no_if
unfolding kind_of mark_number keyword_number
run_stmt-assign_mod-requires-clause-no_if t c = λ e. c.if-kind_at-eq-KEY_IF.false (c.kind_at.ensures ∙ e)

pub run_stmt-store-requires-clause-near : goal.run_stmt-store-requires-clause-near
run_stmt-store-requires-clause-near t c =
    let expr = c.in-Some.ensures.plain in
    near_more expr.near (omega (arith, expr, c.requires.placed))

pub run_stmt-returns : goal.run_stmt-returns
unfolding kind_of mark_number keyword_number
run_stmt-returns t c =
    stmt_assign (λ e. c.if-kind_at-eq-KEY_IF.false (c.kind_at.ensures ∙ e)) c.requires.at_in_bounds
    c.after-second.ensures c.after-third.ensures c.in-Some.ensures.plain c.after.ensures
    (c.from-assigned.ensures ∙ c.value_at.ensures) c.store.ensures (λ j l. none_lack c.args.on c.store.result j)
