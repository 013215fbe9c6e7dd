-- `entries::fill_regions` meets its contract. The first loop's invariant: what is found of the regions passed, and the
-- guards that these leave true; the second's: the entries of the regions passed are in place,
-- and all others are as they were.
use mathlib.Core.Path.{◌≡◌, refl, ◌∙◌}
use native.Mathlib.Omega.{arith}
use borrow.Author.Count.{below_more}
use lib.ListN.{length-set}
use lib.Seq.{get_or-set_same, get_or-set_other}
use Rattle.sets.proofs.SetLaws.{member_none}
use Rattle.logic.specs.Tests.{any}
use Rattle.entries.specs.Slices.{wide_at}
use Rattle.entries.proofs.Sweeps.{wide_more, found_code}
use Rattle.entries.proofs.fill_regions.Invariants.{nothing}
use Rattle.entries.proofs.fill_regions.Goals as goal

pub loop-r-init : goal.loop-r-init
unfolding wide_at any
loop-r-init c = (refl, λ k h. absurd (omega arith), member_none)

pub loop-r-preserved : goal.loop-r-preserved
loop-r-preserved c =
    let r = c.loop-r.r in
    let ws = c.loop-r.sweeps in
    let w = c.sweep-sweep.result in
    let found = rw c.from-own.ensures at c.sweep-sweep.ensures in (
      length-set ws r w ∙ c.loop-r.invariant.0,
      below_more _ _ (λ k h. rw (get_or-set_other ws r k w nothing (λ e. omega arith)) (c.loop-r.invariant.1 k h))
          (rw (get_or-set_same ws r w nothing (omega arith)) found),
      rw c.from-own.ensures (wide_more _ _ _ _ _ _ r _ _ w refl (omega arith) found c.loop-r.invariant.2),
    )

pub loop-r-2-preserved : goal.loop-r-2-preserved
loop-r-2-preserved c =
    let r = c.loop-r-2.r in
    let all : c.loop-r.r ≡ c.args.regions = omega arith in (
      omega arith,
      below_more _ _ (λ k h g hg. c.fill.ensures.others k g (omega arith) (λ p _. omega arith)
          ∙ c.loop-r-2.invariant.1 k h g hg)
          (λ g hg. c.fill.ensures.own g (omega arith)
          ∙ found_code _ _ _ _ _ _ _ r _ g _ (c.loop-r.invariant.1 r (omega arith)) (rw all at (c.loop-r.invariant.2 g))
          (omega arith)),
      λ k g hg other. c.fill.ensures.others k g hg (λ p small. other (omega arith) (omega arith))
          ∙ c.loop-r-2.invariant.2 k g hg other,
    )
