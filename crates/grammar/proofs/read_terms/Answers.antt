-- `grammar::read_terms` meets its contract: what is read from here on is read from the beginning.
use native.Mathlib.Omega.{arith}
use Rattle.grammar.proofs.Readers.{then, ends, saw, missing, passed, many_none, many_more, many_stops, many_over}
use Rattle.grammar.proofs.KindTests.{by_sign, took_sign}
use Rattle.syntax.specs.Decide.Reading.{read_signed}
use Rattle.syntax.specs.Decide.Lexeme.{mark_number}
use Rattle.syntax.specs.Held.Kind.{kind_of}
use Rattle.grammar.proofs.read_terms.Goals as goal

pub returns-in-None : goal.returns-in-None
unfolding read_signed kind_of mark_number
returns-in-None c =
    many_none c.loop-round.invariant (omega arith) by_sign (missing c.in-None.ensures)

pub returns-in_err-at-in-Some : goal.returns-in_err-at-in-Some
unfolding read_signed kind_of mark_number
returns-in_err-at-in-Some c =
    many_stops c.loop-round.invariant (omega arith) by_sign (saw c.in-Some.ensures).0
    (then (took_sign (passed c.in-Some.ensures)) λ _. ends _ c.in_err-at-in-Some.ensures) c.from_residual.ensures

pub loop-round-preserved : goal.loop-round-preserved
unfolding read_signed kind_of mark_number
loop-round-preserved c =
    many_more c.loop-round.invariant (omega arith) by_sign (saw c.in-Some.ensures).0
    (then (took_sign (passed c.in-Some.ensures)) λ _. ends _ c.in_ok-at-in-Some.ensures)

pub returns : goal.returns
returns c =
    many_over c.loop-round.invariant (omega arith)
