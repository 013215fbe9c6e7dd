-- `truths::put_sets` meets its contract. The loop's invariant: the sets below j stand, and what stands before them is as
-- it was.
use Prim.Native.Nat.{◌+◌}
use native.Mathlib.Omega.{arith}
use mathlib.Core.Path.{◌≡◌, refl, ◌∙◌}
use lib.ListN.{get_or, set, length-set}
use lib.Seq.{get_or-set_same, get_or-set_other}
use Rattle.logic.proofs.Lists.{passed}
use Rattle.truths.proofs.put_sets.Goals as goal

pub loop-j-init : goal.loop-j-init
loop-j-init c = (omega arith, refl, λ k h. absurd (omega arith), λ n h. refl)

pub loop-j-preserved : goal.loop-j-preserved
loop-j-preserved c =
    let i = c.loop-j in
    let a = c.args in
    let at = a.from + i.j in
    let x = get_or a.sets.now i.j 0 in (
      omega arith,
      simp length-set i.invariant.1,
      passed (λ k. get_or (set i.row at x) (a.from + k) 0 ≡ get_or a.sets.now k 0) i.j
          (λ k h. get_or-set_other i.row at (a.from + k) x 0 (λ d. omega arith) ∙ i.invariant.2 k h)
          (get_or-set_same i.row at x 0 (omega arith)),
      λ n h. get_or-set_other i.row at n x 0 (λ d. omega arith) ∙ i.invariant.3 n h,
    )

pub shape_of-row : goal.shape_of-row
shape_of-row c = c.loop-j.invariant.1

pub returns : goal.returns
returns c =
    let i = c.loop-j in
    record { here = λ j h. i.invariant.2 j (omega arith); others = i.invariant.3 }
