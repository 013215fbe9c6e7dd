-- `entries::States::may_run` meets its contract: the two tests are those of `runs_at`.
use mathlib.Core.Path.{◌∙◌}
use borrow.Author.Tests.{eq-eqb, ne_eqb}
use Rattle.entries.specs.Slices.{runs_at}
use Rattle.entries.proofs.States.may_run.Goals as goal

pub returns-then-self-at-eq1 : goal.returns-then-self-at-eq1
unfolding runs_at
returns-then-self-at-eq1 c = c.has.ensures ∙ rw (← c.from-at.ensures, eq-eqb _ _ c.if-self-at-eq1.true)

pub returns-else-self-at-eq1 : goal.returns-else-self-at-eq1
unfolding runs_at
returns-else-self-at-eq1 c = rw (← c.from-at.ensures, ne_eqb _ _ c.if-self-at-eq1.false)
