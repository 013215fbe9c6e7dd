-- `variables::weights_of` meets its contract. The loop's invariant: the weights below k stand, and the weight is that
-- of all variables from k on together.
use Rattle.std.proofs.Common.{◌≡◌, ℕ, suc, ◌+◌, ◌/◌, ◌<◌, List, length, get_or, set, refl, ap₂, add-one, arith, length-set}
use Rattle.logic.proofs.Indices.{set_each}
use Rattle.meaning.specs.SixteenBits.{weight_in}
use Rattle.variables.specs.Promises.{Ordered, SizeOf}
use Rattle.variables.proofs.weights_of.Goals as goal

pub loop-k-init : goal.loop-k-init
unfolding weight_in
loop-k-init c = (omega arith, omega arith, refl, λ o. (refl, λ j l. absurd (omega arith)))

-- one variable more
weight_more : (lows highs : List ℕ) (n states k s weight : ℕ) (ws : List ℕ) → k < n → k < length ws
    → SizeOf (get_or lows k 0) (get_or highs k 0) s → Ordered lows highs n → weight ≡ weight_in lows highs states k
    → ((j : ℕ) → j < k → get_or ws j 0 ≡ weight_in lows highs states (suc j))
    → (weight / s ≡ weight_in lows highs states (k + 1))
    × ((j : ℕ) → j < k + 1 → get_or (set ws k (weight / s)) j 0 ≡ weight_in lows highs states (suc j))
unfolding weight_in Ordered
weight_more lows highs n states k s weight ws h room sized o w done =
    let range = o k h in
    let next : weight / s ≡ weight_in lows highs states (suc k) =
    ap₂ (λ (a b : ℕ). a / b) w (sized.is range.0 range.1) in (
      rw add-one next,
      set_each (λ j x. j < k + 1 → x ≡ weight_in lows highs states (suc j)) ws k (weight / s) room (λ _. next)
          (λ j d l. done j (omega arith)),
    )

pub loop-k-preserved : goal.loop-k-preserved
loop-k-preserved c =
    let g = c in
    let a = g.args in (
      omega arith,
      omega arith,
      simp length-set g.loop-k.invariant.2,
      λ o. let i = g.loop-k.invariant.3 o in
          weight_more a.lows a.highs a.count a.states g.loop-k.k c.size_of-weight.result g.loop-k.weight
          g.loop-k.weights (omega arith) (omega arith) c.size_of-weight.ensures o i.0 i.1,
    )

pub returns : goal.returns
returns c = record { weigh = λ o k h. (c.loop-k.invariant.3 o).1 k (omega arith) }
