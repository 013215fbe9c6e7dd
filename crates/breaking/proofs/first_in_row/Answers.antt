-- `breaking::first_in_row` meets its contract. The loop's invariant: the region breaks at no state below s.
use native.Mathlib.Omega.{arith}
use mathlib.Core.Path.{◌≡◌, sym, ◌∙◌}
use mathlib.Core.Bool.{false}
use lib.ListN.{get_or}
use Rattle.states.specs.Promises.{runs_by}
use Rattle.breaking.specs.Broken.{Lowest, breaks_by}
use Rattle.logic.proofs.Lists.{passed}
use Rattle.breaking.proofs.first_in_row.Goals as goal
use Rattle.breaking.proofs.first_in_row.Goals.{After-breaks_at}

-- the answer of the call is whether the region breaks at s
asked : (c : After-breaks_at) →
    let i = c.loop-s in
    let a = c.args in
    breaks_by a.kept.now a.holds.now a.guard i.s (get_or a.row.now i.s 0) ≡ c.breaks_at.result
unfolding breaks_by runs_by
asked c = rw (sym c.from-at.ensures) (sym c.breaks_at.ensures)

pub returns-then-breaks_at : goal.returns-then-breaks_at
unfolding Lowest
returns-then-breaks_at c =
    record {
      within = omega arith;
      passes = asked (goal.at.returns-then-breaks_at c).After-breaks_at ∙ c.if-breaks_at.true;
      lower = c.loop-s.invariant;
    }

pub loop-s-preserved : goal.loop-s-preserved
loop-s-preserved c =
    passed (λ k. _ ≡ false) c.loop-s.s c.loop-s.invariant
    (asked (goal.at.loop-s-preserved c).After-breaks_at ∙ c.if-breaks_at.false)

pub returns : goal.returns
unfolding Lowest
returns c = λ k low. c.loop-s.invariant k (omega arith)
