-- `truths::put` meets its contract.
use mathlib.Core.Path.{refl, sym, ◌∙◌}
use borrow.Author.Tests.{eq-eqb, ne_eqb}
use Rattle.states.proofs.Held.{with_here, with_other}
use Rattle.truths.proofs.put.Goals as goal

pub returns-then-holds : goal.returns-then-holds
returns-then-holds c =
    let a = c.args in (
      with_here _ _ a.g c.with.ensures c.requires ∙ sym c.if-holds.true,
      with_other _ _ a.g c.with.ensures,
    )

pub returns-else-holds : goal.returns-else-holds
returns-else-holds c =
    let a = c.args in (
      rw (c.without.ensures a.g, eq-eqb a.g a.g refl) (sym c.if-holds.false),
      λ u n. rw (c.without.ensures u, ne_eqb u a.g n) refl,
    )
