-- `lanes::first_lanes` meets its contract. The loop's invariant: the values of the states before s stand in their
-- lanes.
use Prim.Native.Nat.{ℕ, ◌<◌}
use native.Mathlib.Omega.{arith}
use native.Mathlib.Nat.{zero-add}
use mathlib.Core.Path.{refl, ◌∙◌}
use borrow.Author.Count.{below_more}
use Rattle.meaning.specs.State.{count}
use Rattle.lanes.specs.Promises.{InLane}
use Rattle.lanes.proofs.Lane.{lane_is}
use Rattle.lanes.proofs.first_lanes.Goals as goal

pub loop-s-init : goal.loop-s-init
loop-s-init c = (omega arith, refl, λ vs b u h. absurd (omega arith))

pub loop-s-preserved : goal.loop-s-preserved
loop-s-preserved c =
    let put = c.put_values in
    let values = c.values_of-values in
    let i = c.loop-s in (
      omega arith,
      put.auto.all ∙ i.invariant.1,
      λ vs b.
          below_more (λ (u : ℕ). u < count vs → InLane vs put.new.all u u) i.s
          (λ u h low.
          let t = i.invariant.2 vs b u h low in
          record {
            values = t.values;
            biased = t.biased;
            places = λ k l n e. put.ensures.others n (λ k' l' e'. omega arith) ∙ t.places k l n e;
          })
          (λ low. record { values = values.result; biased = values.ensures.are vs b low; places = λ k l n e. put.ensures.here k l n (omega (arith, c.from.ensures)) }),
    )

pub returns : goal.returns
returns c vs b =
    record {
      each =
          λ j h low.
          let t = c.loop-s.invariant.2 vs b j (omega arith) (omega arith) in
          rw (zero-add j, lane_is _ t.values j t.biased.slots (λ k l n e. t.places k l n (omega arith))) t.biased;
    }
