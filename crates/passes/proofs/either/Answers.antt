-- `passes::either` is the join of its two tests.
use borrow.Author.Tests.{eq-eqb, ne_eqb}
use Rattle.passes.proofs.either.Goals as goal

pub returns-then-kind-a : goal.returns-then-kind-a
returns-then-kind-a c = rw (eq-eqb _ _ c.if-kind-a.true)

pub returns-else-kind-a : goal.returns-else-kind-a
returns-else-kind-a c = rw (ne_eqb _ _ c.if-kind-a.false)
