-- `grammar::read_tries` meets its contract: what is read from here on is read from the beginning.
use native.Mathlib.Omega.{arith}
use Rattle.grammar.proofs.Readers.{many_none, many_more, many_stops, many_over}
use Rattle.grammar.proofs.KindTests.{by_key}
use Rattle.syntax.specs.Token.{k_try}
use Rattle.syntax.specs.Decide.Lexeme.{keyword_number}
use Rattle.syntax.specs.Held.Kind.{kind_of}
use Rattle.grammar.proofs.read_tries.Goals as goal

pub returns-then-not-sees : goal.returns-then-not-sees
unfolding kind_of keyword_number
returns-then-not-sees c =
    many_none c.loop-round.invariant (omega arith) (by_key k_try) (rw c.if-not-sees.true at c.sees.ensures)

pub returns-in_err-at : goal.returns-in_err-at
unfolding kind_of keyword_number
returns-in_err-at c =
    many_stops c.loop-round.invariant (omega arith) (by_key k_try) (rw c.if-not-sees.false at c.sees.ensures) c.in_err-at.ensures
    c.from_residual.ensures

pub loop-round-preserved : goal.loop-round-preserved
unfolding kind_of keyword_number
loop-round-preserved c =
    many_more c.loop-round.invariant (omega arith) (by_key k_try) (rw c.if-not-sees.false at c.sees.ensures) c.in_ok-at.ensures

pub returns : goal.returns
returns c =
    many_over c.loop-round.invariant (omega arith)
