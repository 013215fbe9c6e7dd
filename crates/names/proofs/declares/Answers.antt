-- `names::declares` is the join of its two tests.
use borrow.Author.Tests.{eq-eqb, ne_eqb}
use Rattle.syntax.specs.Held.Kind.{name_kind}
use Rattle.names.proofs.declares.Goals as goal

pub returns-then-kind-eq-NAME : goal.returns-then-kind-eq-NAME
returns-then-kind-eq-NAME c = rw (eq-eqb _ name_kind c.if-kind-eq-NAME.true)

pub returns-else-kind-eq-NAME : goal.returns-else-kind-eq-NAME
returns-else-kind-eq-NAME c = rw (ne_eqb _ name_kind c.if-kind-eq-NAME.false)
