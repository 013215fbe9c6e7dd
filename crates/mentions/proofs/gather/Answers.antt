-- `mentions::gather` meets its contract. The loop's invariant: the set has the slots of the tokens before i.
use Prim.Native.Nat.{◌+◌, ◌-◌}
use native.Mathlib.Omega.{arith}
use mathlib.Core.Path.{◌≡◌, sym, ◌∙◌}
use Rattle.mentions.proofs.Growing.{gather_none, gather_over, gather_more}
use Rattle.mentions.specs.Gathered.{only_left}
use Rattle.mentions.proofs.gather.Goals as goal
use Rattle.mentions.proofs.gather.Goals.{then-counts, else-counts}

pub loop-i-init : goal.loop-i-init
loop-i-init c =
    let a = c.args in
    let e : a.from - a.from ≡ 0 = omega arith in
    (omega arith, omega arith, λ k. rw e (gather_none a.kinds.now a.values.now (only_left a.which) a.from k))

pub loop-i-preserved : goal.loop-i-preserved
loop-i-preserved c =
    let i = c.loop-i in
    let a = c.args in
    let here : i.i ≡ a.from + (i.i - a.from) = omega arith in
    let next : i.i + 1 - a.from ≡ i.i - a.from + 1 = omega arith in
    let is = c.counts.ensures in (
      omega arith,
      omega arith,
      λ k. rw next (elim c.if-counts.branch [
        | then-counts w ↦ rw w.set-is (gather_more _ _ _ _ _ _ _ here i.invariant.2 _ _ (sym is ∙ w.if-counts.true) w.slot_at.ensures
            w.with-set.ensures k)
        | else-counts w ↦ rw w.set-is (gather_over _ _ _ _ _ _ _ here i.invariant.2 (sym is ∙ w.if-counts.false) k)
      ]),
    )

pub returns : goal.returns
returns c k =
    let i = c.loop-i in
    let a = c.args in
    let e : a.to - a.from ≡ i.i - a.from = omega arith in
    rw e (i.invariant.2 k)
