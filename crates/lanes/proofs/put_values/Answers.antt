-- `lanes::put_values` meets its contract. The loop's invariant: the values below k stand at their places, and all else
-- is as it was.
use Prim.Native.Nat.{ℕ, ◌+◌, ◌*◌}
use native.Mathlib.Omega.{arith}
use mathlib.Core.Path.{◌≡◌, refl, ◌∙◌}
use lib.ListN.{get_or, set, length-set}
use lib.Seq.{get_or-set_same, get_or-set_other}
use borrow.Author.Count.{below_more}
use Rattle.lanes.proofs.put_values.Goals as goal

pub loop-k-init : goal.loop-k-init
loop-k-init c = (omega arith, refl, λ i h. absurd (omega arith), λ n o. refl)

pub loop-k-preserved : goal.loop-k-preserved
loop-k-preserved c =
    let i = c.loop-k in
    let a = c.args in
    let p = a.at + i.k * 16 in
    let v = get_or a.values i.k 0 in (
      omega arith,
      simp length-set i.invariant.1,
      below_more (λ j. (n : ℕ) → n ≡ a.at + j * 16 → get_or (set i.all p v) n 0 ≡ get_or a.values j 0) i.k
          (λ j h n e. get_or-set_other i.all p n v 0 (λ d. omega arith) ∙ i.invariant.2 j h n e)
          (λ n e. rw (e, get_or-set_same i.all p v 0 (omega arith)) refl),
      λ n o. get_or-set_other i.all p n v 0 (λ d. o i.k (omega arith) d) ∙ i.invariant.3 n (λ j h. o j (omega arith)),
    )

pub shape_of-all : goal.shape_of-all
shape_of-all c = c.loop-k.invariant.1

pub returns : goal.returns
returns c =
    let i = c.loop-k in
    record {
      here = λ k h. i.invariant.2 k (omega arith);
      others = λ n o. i.invariant.3 n (λ k h. o k (omega arith));
    }
