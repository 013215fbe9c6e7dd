-- `variables::number_of` meets its contract. The loop's invariant: the number is the one that the first k variables
-- make.
use Rattle.std.proofs.Common.{ℕ, ◌+◌, sym, refl, ap, ◌∙◌, ap₂, arith}
use Rattle.meaning.specs.SixteenBits.{wrapped, number_in}
use Rattle.meaning.proofs.SixteenBits.{number_more}
use Rattle.variables.proofs.States.{number_from}
use Rattle.variables.proofs.number_of.Goals as goal

pub loop-k-init : goal.loop-k-init
unfolding number_in
loop-k-init c = (omega arith, omega arith, refl)

pub returns-then-bounds-k : goal.returns-then-bounds-k
returns-then-bounds-k c =
    let g = c in
    let a = g.args in
    number_from a.bounds a.values
    (λ _. g.loop-k.invariant.2 ∙ ap (number_in wrapped _ _ _) (omega (arith, c.if-bounds-k.true, g.loop-k.invariant.1)))

pub loop-k-preserved : goal.loop-k-preserved
loop-k-preserved c =
    let g = c in
    let a = g.args in
    let inside = c.if-bounds-k.false in (
      omega arith,
      omega arith,
      c.plus-number.ensures
          ∙ ap₂ (λ (a b : ℕ). wrapped (a + b)) g.loop-k.invariant.2 c.share_of-more.ensures
          ∙ sym (number_more wrapped a.bounds.lows a.bounds.weights a.values g.loop-k.k),
    )

pub returns : goal.returns
returns c =
    let g = c in
    let a = g.args in
    number_from a.bounds a.values
    (λ few. g.loop-k.invariant.2 ∙ ap (number_in wrapped _ _ _) (omega (arith, few, c.loop-k-test.false, g.loop-k.invariant.1)))
