-- `passes::exceeds` is the test of `past_limit` at a token: a kind is at most one of the four keywords.
use mathlib.Core.Bool.{or-false}
use native.Mathlib.Omega.{arith}
use borrow.Author.Tests.{ne_eqb}
use Rattle.syntax.specs.Decide.Lexeme.{keyword_number}
use Rattle.syntax.specs.Held.Kind.{kind_of}
use Rattle.syntax.proofs.ByKind.{kind_key}
use Rattle.passes.proofs.exceeds.Goals as goal

pub returns-in-33 : goal.returns-in-33
unfolding kind_of keyword_number
returns-in-33 c l e = simp (kind_key, ← e, c.in-33.is, or-false)

pub returns-in-36 : goal.returns-in-36
unfolding kind_of keyword_number
returns-in-36 c l e = simp (kind_key, ← e, c.in-36.is, or-false)

pub returns-in-37 : goal.returns-in-37
unfolding kind_of keyword_number
returns-in-37 c l e = simp (kind_key, ← e, c.in-37.is, or-false)

pub returns-in-42 : goal.returns-in-42
unfolding kind_of keyword_number
returns-in-42 c l e = simp (kind_key, ← e, c.in-42.is)

pub returns-in_default : goal.returns-in_default
unfolding kind_of keyword_number
returns-in_default c l e =
    let kind = c.args.kind in
    simp (
      kind_key,
      ← e,
      ne_eqb kind 33 (omega arith),
      ne_eqb kind 36 (omega arith),
      ne_eqb kind 37 (omega arith),
      ne_eqb kind 42 (omega arith),
    )
