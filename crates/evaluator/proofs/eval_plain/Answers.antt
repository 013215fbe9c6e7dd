-- `evaluator::eval_plain` meets its contract. The invariant: what is read from the atom on is the whole expression. The
-- measure is the count of tokens left: a sign is one, so it falls.
use native.Mathlib.Omega.{arith}
use mathlib.Core.Path.{◌≡◌, sym, ◌∙◌}
use lib.ListN.{get_or}
use Rattle.syntax.specs.Held.Kind.{kind_of, no_kind}
use Rattle.syntax.specs.Decide.Lexeme.{mark_number, keyword_number}
use Rattle.syntax.specs.Token.{mark}
use Rattle.syntax.specs.Tree.{sign_mark}
use Rattle.evaluator.specs.Promises.{sign_of}
use Rattle.evaluator.proofs.Readings.{past_sign, sign_no_mod, open_first, open_last, open_more}
use Rattle.evaluator.proofs.eval_plain.Goals as goal
use Rattle.evaluator.proofs.eval_plain.Goals.{in-16, in-17, Joined-kind_at}

pub loop-taken-init : goal.loop-taken-init
loop-taken-init = λ c. open_first c.requires.within

pub eval_atom-sum-requires : goal.eval_atom-sum-requires
eval_atom-sum-requires c =
    let inv = c.loop-taken.invariant in
    record { placed = record { within = inv.to; short = c.requires.short }; near = inv.near }

pub returns-in_default-clause-plain : goal.returns-in_default-clause-plain
unfolding kind_of mark_number keyword_number
returns-in_default-clause-plain c =
    open_last c.loop-taken.invariant (c.eval_atom-sum.ensures (λ e. omega (arith, c.in_default, c.kind_at.ensures, e)))
    (λ e. omega (arith, c.in_default, c.kind_at.ensures, e)) (λ e. omega (arith, c.in_default, c.kind_at.ensures, e))

pub returns-in-43-clause-none : goal.returns-in-43-clause-none
unfolding kind_of mark_number keyword_number
returns-in-43-clause-none c = (c.eval_atom-sum.result.next, (sym c.kind_at.ensures ∙ c.in-43.is))

-- the sign behind an atom, which is then alone
sign : (c : Joined-kind_at)
    → get_or c.args.text.now.kinds.now
    c.eval_atom-sum.result.next no_kind ≡ kind_of (mark (sign_mark (sign_of c.match-kind_at.taken)))
unfolding mark_number sign_mark sign_of kind_of keyword_number
sign c =
    sym c.kind_at.ensures
    ∙ elim c.match-kind_at.branch [
      | in-16 w ↦ rw w.taken-is w.in-16.is
      | in-17 w ↦ rw w.taken-is w.in-17.is
    ]

pub after-place-requires : goal.after-place-requires
after-place-requires c =
    (c.eval_atom-sum.ensures (sign_no_mod (sign_of c.match-kind_at.taken) (sign (goal.at.after-place-requires c).Joined-kind_at))).to

pub loop-taken-smaller : goal.loop-taken-smaller
loop-taken-smaller c =
    let s = sign (goal.at.loop-taken-smaller c).Joined-kind_at in
    omega (
      arith,
      past_sign (sign_of c.match-kind_at.taken) c.after-place.ensures s,
      c.eval_atom-sum.ensures (sign_no_mod (sign_of c.match-kind_at.taken) s),
    )

pub loop-taken-preserved : goal.loop-taken-preserved
loop-taken-preserved c =
    let s = sign (goal.at.loop-taken-preserved c).Joined-kind_at in
    open_more c.loop-taken.invariant (c.eval_atom-sum.ensures (sign_no_mod (sign_of c.match-kind_at.taken) s))
    c.match-kind_at.taken s c.after-place.ensures
