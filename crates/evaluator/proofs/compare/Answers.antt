-- `evaluator::compare` meets its contract: each arm's mark chooses the case of `test_of`.
use native.Mathlib.Omega.{arith}
use borrow.Author.Tests.{ne_eqb}
use Rattle.syntax.specs.Held.Kind.{kind_of}
use Rattle.syntax.specs.Decide.Lexeme.{mark_number, keyword_number}
use Rattle.evaluator.specs.Promises.{test_of}
use Rattle.evaluator.proofs.compare.Goals as goal

pub returns-in-12 : goal.returns-in-12
unfolding test_of kind_of mark_number keyword_number
returns-in-12 c = λ j l. rw c.in-12.is (c.below.ensures j l)

pub returns-in-14 : goal.returns-in-14
unfolding test_of kind_of mark_number keyword_number
returns-in-14 c = λ j l. rw c.in-14.is (c.below-in-14.ensures j l)

pub returns-in-13 : goal.returns-in-13
unfolding test_of kind_of mark_number keyword_number
returns-in-13 c = λ j l. rw (c.in-13.is, c.other.ensures j l, c.below-in-13.ensures j l)

pub returns-in-15 : goal.returns-in-15
unfolding test_of kind_of mark_number keyword_number
returns-in-15 c = λ j l. rw (c.in-15.is, c.other-in-15.ensures j l, c.below-in-15.ensures j l)

pub returns-in-11 : goal.returns-in-11
unfolding test_of kind_of mark_number keyword_number
returns-in-11 c = λ j l. rw (c.in-11.is, c.union.ensures j l, c.below-in-11.ensures j l, c.below-in-11-2.ensures j l)

pub returns-in_default : goal.returns-in_default
unfolding test_of kind_of mark_number keyword_number
returns-in_default c = λ j l. rw (
  c.other-in_default.ensures j l,
  c.union-in_default.ensures j l,
  c.below-in_default.ensures j l,
  c.below-in_default-2.ensures j l,
  ne_eqb c.args.kind 12 (λ e. omega (arith, c.in_default, e)),
  ne_eqb c.args.kind 14 (λ e. omega (arith, c.in_default, e)),
  ne_eqb c.args.kind 13 (λ e. omega (arith, c.in_default, e)),
  ne_eqb c.args.kind 15 (λ e. omega (arith, c.in_default, e)),
  ne_eqb c.args.kind 11 (λ e. omega (arith, c.in_default, e)),
)
