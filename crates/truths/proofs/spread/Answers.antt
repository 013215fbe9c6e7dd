-- `truths::spread` meets its contract. The loop's invariant: the sets of the lanes below j are as they are to be, and the
-- others as they were.
use native.Mathlib.Omega.{arith}
use mathlib.Core.Path.{refl, ap, ◌∙◌}
use lib.ListN.{get_or, length-set}
use lib.Seq.{get_or-set_other}
use Rattle.sets.specs.Set.{member}
use Rattle.logic.proofs.Lists.{stored}
use Rattle.truths.proofs.spread.Goals as goal
use Rattle.truths.proofs.spread.Invariants.{Done}

pub loop-j-init : goal.loop-j-init
loop-j-init c = (omega arith, refl, λ k h. absurd (omega arith), λ k h. refl)

pub loop-j-preserved : goal.loop-j-preserved
loop-j-preserved c =
    let i = c.loop-j in
    let a = c.args in
    let e = c.put.ensures in (
      omega arith,
      simp length-set i.invariant.1,
      stored (λ k x. Done a.known a.g (get_or a.sets.now k 0) k x) i.sets i.j c.put.result (omega arith)
          i.invariant.2
          (e.0 ∙ c.has.ensures, λ u n. e.1 u n ∙ ap (λ x. member x u) (i.invariant.3 i.j (omega arith))),
      λ k h. get_or-set_other i.sets i.j k c.put.result 0 (λ d. omega arith) ∙ i.invariant.3 k (omega arith),
    )

pub shape_of-sets : goal.shape_of-sets
shape_of-sets c = c.loop-j.invariant.1

pub returns : goal.returns
returns c =
    let i = c.loop-j in
    record { here = λ j h. (i.invariant.2 j (omega arith)).0; others = λ j u h n. (i.invariant.2 j (omega arith)).1 u n }
