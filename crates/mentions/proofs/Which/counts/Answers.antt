-- `mentions::Which::counts` meets its contract, by the kinds of the token and of the next.
use mathlib.Core.Path.{refl}
use borrow.Author.Tests.{eq-eqb, ne_eqb}
use Rattle.syntax.specs.Held.Kind.{kind_of}
use Rattle.syntax.specs.Decide.Lexeme.{mark_number}
use Rattle.mentions.specs.Gathered.{only_left, counts_at}
use Rattle.mentions.proofs.Which.counts.Goals as goal

pub returns-in-Named : goal.returns-in-Named
unfolding counts_at only_left
returns-in-Named c =
    rw (c.in-Named.is, ← c.kind_at.ensures, eq-eqb _ _ c.if-kind_at-eq-NAME.true) refl

pub returns-in-Assigned : goal.returns-in-Assigned
unfolding counts_at only_left kind_of mark_number
returns-in-Assigned c =
    rw (c.in-Assigned.is, ← c.kind_at.ensures, eq-eqb _ _ c.if-kind_at-eq-NAME.true, ← c.kind_at-in-Assigned.ensures) refl

pub returns-else-kind_at-eq-NAME : goal.returns-else-kind_at-eq-NAME
unfolding counts_at
returns-else-kind_at-eq-NAME c =
    rw (← c.kind_at.ensures, ne_eqb _ _ c.if-kind_at-eq-NAME.false) refl
