-- `divisors::Held::low_divisor` meets its contract: each return is a law on the atom in front, by its kind.
use native.Mathlib.Omega.{arith}
use mathlib.Core.Path.{sym, ◌∙◌}
use Rattle.syntax.specs.Decide.Lexeme.{mark_number}
use Rattle.syntax.specs.Held.Kind.{kind_of}
use Rattle.divisors.proofs.Divisor.{at_end_lem, operands_long, at_name, at_number, at_minus, at_other}
use Rattle.divisors.proofs.Held.low_divisor.Goals as goal

pub returns-then-self-at : goal.returns-then-self-at
returns-then-self-at c vs ls coded = sym (at_end_lem coded _ c.if-self-at.true)

pub returns-then-self-at-2 : goal.returns-then-self-at-2
returns-then-self-at-2 c vs ls coded = absurd (omega (arith, operands_long coded 0))

pub returns-in-0 : goal.returns-in-0
returns-in-0 c vs ls coded =
    let t = at_name coded _ (omega arith) c.in-0.is in
    c.low_variable.ensures vs t.0 coded.lowest (c.from.ensures ∙ t.1) ∙ sym t.2

pub returns-in-1 : goal.returns-in-1
returns-in-1 c vs ls coded = sym (at_number coded _ (omega arith) c.in-1.is)

pub returns-in-17 : goal.returns-in-17
unfolding kind_of mark_number
returns-in-17 c vs ls coded = c.is_number.ensures ∙ sym (at_minus coded _ (omega arith) c.in-17.is)

pub returns-in_default : goal.returns-in_default
unfolding kind_of mark_number
returns-in_default c vs ls coded =
    sym (at_other coded _ (omega arith) (omega arith) (omega arith) (omega arith))
