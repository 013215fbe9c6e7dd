-- `entries::States::visit` meets its contract: a state from which the body may not run adds nothing.
use Prim.Native.Nat.{ℕ}
use mathlib.Core.Path.{sym, ap, ◌∙◌}
use lib.ListN.{get_or}
use Rattle.entries.proofs.Sweeps.{swept_skip, swept_more}
use Rattle.entries.proofs.States.visit.Goals as goal

pub returns-then-not-may_run : goal.returns-then-not-may_run
returns-then-not-may_run c = swept_skip _ _ _ _ _ _ _ (sym c.may_run.ensures ∙ c.if-not-may_run.true) c.requires.1

pub returns : goal.returns
returns c =
    let there = rw c.from-at.ensures at c.from.ensures in
    rw c.from-at.ensures
    (swept_more _ _ _ _ _ _ _ (ap (λ (t : ℕ). get_or c.args.self.holds.now t 0) there)
    (sym c.may_run.ensures ∙ c.if-not-may_run.false) _ c.requires.1)
