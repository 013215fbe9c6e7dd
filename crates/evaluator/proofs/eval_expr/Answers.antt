-- `evaluator::eval_expr` meets its contract. The invariant: what is read from the term on is the whole expression.
-- The measure is the count of tokens left: a sign is one, so it falls.
use native.Mathlib.Omega.{arith}
use mathlib.Core.Path.{◌≡◌, sym, ◌∙◌}
use lib.ListN.{get_or}
use Rattle.syntax.specs.Held.Kind.{kind_of, no_kind}
use Rattle.syntax.specs.Decide.Lexeme.{mark_number, keyword_number}
use Rattle.syntax.specs.Token.{mark}
use Rattle.syntax.specs.Tree.{sign_mark}
use Rattle.evaluator.specs.Promises.{sign_of}
use Rattle.evaluator.proofs.Readings.{open_first, open_last, open_more}
use Rattle.evaluator.proofs.eval_expr.Goals as goal
use Rattle.evaluator.proofs.eval_expr.Goals.{in-16, in-17, Joined-kind_at}

pub loop-sum-init : goal.loop-sum-init
loop-sum-init = λ c. open_first c.requires.within

pub eval_term-sum-requires : goal.eval_term-sum-requires
eval_term-sum-requires c =
    let inv = c.loop-sum.invariant in
    record { placed = record { within = inv.to; short = c.requires.short }; near = inv.near }

pub returns-in_default : goal.returns-in_default
unfolding kind_of mark_number keyword_number
returns-in_default c =
    open_last c.loop-sum.invariant c.eval_term-sum.ensures (λ e. omega (arith, c.in_default, c.kind_at.ensures, e))
    (λ e. omega (arith, c.in_default, c.kind_at.ensures, e))

-- the sign behind a term
sign : (c : Joined-kind_at)
    → get_or c.args.text.now.kinds.now
    c.eval_term-sum.result.next no_kind ≡ kind_of (mark (sign_mark (sign_of c.match-kind_at.taken)))
unfolding mark_number sign_mark sign_of kind_of keyword_number
sign c =
    sym c.kind_at.ensures
    ∙ elim c.match-kind_at.branch [
      | in-16 w ↦ rw w.taken-is w.in-16.is
      | in-17 w ↦ rw w.taken-is w.in-17.is
    ]

pub loop-sum-preserved : goal.loop-sum-preserved
loop-sum-preserved c =
    open_more c.loop-sum.invariant c.eval_term-sum.ensures c.match-kind_at.taken (sign (goal.at.loop-sum-preserved c).Joined-kind_at)
    c.after-place.ensures
