-- `lookup::within` meets its contract. The invariant: the values are a state's exactly where those from k on are.
use Prim.Native.Nat.{◌<◌}
use native.Mathlib.Omega.{arith}
use mathlib.Core.Path.{refl}
use lib.ListN.{length}
use Rattle.logic.proofs.Bools.{different}
use Rattle.lookup.specs.Slices.{Within}
use Rattle.lookup.proofs.Ranges.{from_end, from_less, from_more}
use Rattle.lookup.proofs.within.Goals as goal

pub loop-k-init : goal.loop-k-init
loop-k-init c = (omega arith, λ vs b six. (λ s. s, λ s. s))

pub returns-then-values-k : goal.returns-then-values-k
unfolding Within
returns-then-values-k c vs b =
    let l = c.loop-k in
    let h : l.k < length vs = omega (arith, b.counted) in
    let s = from_more vs _ b _ l.invariant.0 l.k h in (
      λ e. different (cc),
      λ f. absurd (omega (arith, (s ((l.invariant.1 vs b l.invariant.0).0 f)).0, c.if-values-k.true)),
    )

pub returns-then-bounds-k : goal.returns-then-bounds-k
unfolding Within
returns-then-bounds-k c vs b =
    let l = c.loop-k in
    let h : l.k < length vs = omega (arith, b.counted) in
    let s = from_more vs _ b _ l.invariant.0 l.k h in (
      λ e. different (cc),
      λ f. absurd (omega (arith, (s ((l.invariant.1 vs b l.invariant.0).0 f)).1, c.if-bounds-k.true)),
    )

pub loop-k-preserved : goal.loop-k-preserved
loop-k-preserved c =
    let l = c.loop-k in (
      l.invariant.0,
      λ vs b six.
          let h : l.k < length vs = omega (arith, b.counted) in (
            λ f. (from_more vs _ b _ six l.k h ((l.invariant.1 vs b six).0 f)).2,
            λ f. (l.invariant.1 vs b six).1 (from_less vs _ b _ six l.k h (omega (arith, c.if-values-k.false))
                (omega (arith, c.if-bounds-k.false)) f),
          ),
    )

pub returns : goal.returns
unfolding Within
returns c vs b =
    let l = c.loop-k in
    (λ e. (l.invariant.1 vs b l.invariant.0).1 (from_end vs _ b _ l.invariant.0 l.k (omega (arith, b.counted, b.few_vars))), λ s. refl)
