-- `variables::values_of` meets its contract. The loop's invariant: the values below k are those of the number, and the
-- rest is what the first k variables leave of it.
use Rattle.std.proofs.Common.{◌≡◌, ℕ, ◌+◌, ◌/◌, ◌%◌, ◌<◌, ◌≤◌, get_or, sym, refl, ap, ◌∙◌, arith, length-set}
use Rattle.logic.proofs.Indices.{set_each, six_at}
use Rattle.meaning.specs.SixteenBits.{wrapped, rest_in, value_in}
use Rattle.meaning.proofs.SixteenBits.{rest_more}
use Rattle.variables.proofs.States.{values_from}
use Rattle.variables.proofs.values_of.Goals as goal

pub loop-k-init : goal.loop-k-init
unfolding rest_in
loop-k-init c = (omega arith, omega arith, refl, refl, λ j l. absurd (omega arith), λ j l _. six_at 128 j l)

pub returns-then-bounds-k : goal.returns-then-bounds-k
returns-then-bounds-k c =
    let g = c in
    let a = g.args in
    let i = g.loop-k.invariant in
    values_from a.bounds a.state i.2 (λ _ j l. i.4 j (omega (arith, c.if-bounds-k.true)))
    (λ _ j l m. i.5 j l (omega (arith, i.1)))

pub loop-k-preserved : goal.loop-k-preserved
unfolding value_in
loop-k-preserved c =
    let g = c in
    let a = g.args in
    let i = g.loop-k.invariant in
    let k = g.loop-k.k in
    let d = c.digit_of-digit.ensures in
    let weight = get_or a.bounds.weights k 0 in
    let here : c.digit_of-digit.result.value ≡ value_in wrapped a.bounds.lows a.bounds.weights a.state k =
    d.value ∙ ap (λ (x : ℕ). wrapped (get_or a.bounds.lows k 0 + x / weight)) i.3 in
    let inside = c.if-bounds-k.false in (
      omega arith,
      omega arith,
      simp length-set i.2,
      d.left ∙ ap (λ (x : ℕ). x % weight) i.3 ∙ sym (rest_more a.bounds.weights a.state k),
      set_each (λ j x. j < k + 1 → x ≡ value_in wrapped a.bounds.lows a.bounds.weights a.state j) g.loop-k.values k _
          (omega arith) (λ _. here) (λ j q l. i.4 j (omega arith)),
      set_each (λ j x. j < 6 → k + 1 ≤ j → x ≡ 128) g.loop-k.values k _ (omega arith) (λ _ l. absurd (omega arith))
          (λ j q l m. i.5 j l (omega arith)),
    )

pub returns : goal.returns
returns c =
    let g = c in
    let a = g.args in
    let i = g.loop-k.invariant in
    values_from a.bounds a.state i.2 (λ few j l. i.4 j (omega (arith, few, c.loop-k-test.false)))
    (λ few j l m. i.5 j l (omega (arith, i.1)))
