-- `bodies::numbers` meets its contract. The loop's invariant: in each lane the sum is the number that the first k
-- variables make.
use Prim.Native.Nat.{ℕ, ◌+◌}
use native.Mathlib.Omega.{arith}
use mathlib.Core.Path.{sym, ap, ap₂, ◌∙◌}
use lib.ListN.{get_or, get_or-replicate}
use Rattle.meaning.specs.SixteenBits.{wrapped, share, number_in}
use Rattle.meaning.proofs.SixteenBits.{number_more}
use Rattle.evaluator.specs.Coding.{lane}
use Rattle.evaluator.proofs.Lanes.{lane_at}
use Rattle.variables.proofs.States.{number_from}
use Rattle.bodies.proofs.numbers.Goals as goal

pub loop-k-init : goal.loop-k-init
unfolding number_in
loop-k-init c = (omega arith, omega arith, λ j l. get_or-replicate {A = ℕ} 16 j 0 0 l)

pub returns-then-bounds-k : goal.returns-then-bounds-k
returns-then-bounds-k c j l =
    let a = c.args in
    number_from a.bounds (lane a.lanes.now j)
    (λ _. c.loop-k.invariant.2 j l ∙ ap (number_in wrapped _ _ _) (omega (arith, c.if-bounds-k.true, c.loop-k.invariant.1)))

pub with_shares-more-requires : goal.with_shares-more-requires
with_shares-more-requires c = let i = c.loop-k in omega arith

pub loop-k-preserved : goal.loop-k-preserved
loop-k-preserved c =
    let a = c.args in
    let k = c.loop-k.k in
    let low = get_or a.bounds.lows k 0 in
    let weight = get_or a.bounds.weights k 0 in
    let inside = c.if-bounds-k.false in (
      omega arith,
      omega arith,
      λ j l.
          c.with_shares-more.ensures j l
          ∙ ap₂ (λ (x y : ℕ). wrapped (x + share wrapped y low weight)) (c.loop-k.invariant.2 j l)
          (sym (lane_at a.lanes.now j k (omega arith)))
          ∙ sym (number_more wrapped a.bounds.lows a.bounds.weights (lane a.lanes.now j) k),
    )

pub returns : goal.returns
returns c j l =
    let a = c.args in
    number_from a.bounds (lane a.lanes.now j)
    (λ few. c.loop-k.invariant.2 j l ∙ ap (number_in wrapped _ _ _) (omega (arith, few, c.loop-k-test.false, c.loop-k.invariant.1)))
