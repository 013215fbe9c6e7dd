-- States in sixteen bits, as the loops work them out: the weights, the values of a number, the number of some values.
use Rattle.std.proofs.Common.{◌≡◌, ℕ, ◌<◌, ◌≤◌, List, length, get_or, ℤ, ap, ◌∙◌, arith}
use Rattle.syntax.specs.Tree.{Var}
use Rattle.meaning.specs.State.{count, state_at, number_of}
use Rattle.meaning.specs.Accepted.{GoodRanges}
use Rattle.meaning.specs.Runs.{State}
use Rattle.meaning.specs.Held.{Biased, Ranges}
use Rattle.meaning.specs.SixteenBits.{wrapped, number_in, value_in}
use Rattle.meaning.proofs.SixteenBits.{Weighing, place, wrapped_keeps, number_kept, value_is, digits_held}
use Rattle.variables.specs.Bounded.{Bounded, NumberOf, ValuesOf}
use Rattle.variables.specs.Promises.{Ordered}
use Rattle.variables.specs.declared.Bounds.{Bounds}

pub ranges_ordered : {vs : List Var} {lows highs : List ℕ} → Ranges vs lows highs → GoodRanges vs
    → Ordered lows highs (length vs)
unfolding Ordered
ranges_ordered r g k h = let p = place r g k h in (p.ordered, p.high_small)

module _ {vs : List Var} {b : Bounds} (bounded : Bounded vs b) where
  pub weighing : Weighing vs b.lows b.highs b.weights
  weighing =
      record {
        ranges = bounded.ranges;
        good = bounded.good;
        few = bounded.few_states;
        weigh = bounded.weigh;
      }

  -- the number of a state
  pub number_held : {as' : List ℤ} {xs : List ℕ} → Biased vs as' xs → State vs as'
      → number_in wrapped b.lows b.weights xs (length vs) ≡ number_of vs as'
  number_held x s = number_kept weighing (record { state = s; biased = x }) wrapped wrapped_keeps

  -- the values of a state
  pub values_held : (state : ℕ) (xs : List ℕ) → state < count vs → length xs ≡ 6
      → ((k : ℕ) → k < length vs → get_or xs k 0 ≡ value_in wrapped b.lows b.weights state k)
      → ((k : ℕ) → k < 6 → length vs ≤ k → get_or xs k 0 ≡ 128) → Biased vs (state_at vs state) xs
  values_held state xs h six each rest =
      digits_held bounded.ranges bounded.good state h xs bounded.few_vars six
      (λ k l. each k l ∙ value_is weighing state h wrapped wrapped_keeps k l) rest

-- what `number_of` and `values_of` promise, from what their loops work out
pub number_from : (b : Bounds) (xs : List ℕ) {r : ℕ}
    → (b.count ≤ 6 → r ≡ number_in wrapped b.lows b.weights xs b.count) → NumberOf b xs r
number_from b xs e =
    record {
      worked_out = e;
      is = λ vs as' bounded x s.
          e (omega (arith, bounded.counted, bounded.few_vars))
          ∙ ap (number_in wrapped b.lows b.weights xs) bounded.counted ∙ number_held bounded x s;
    }

pub values_from : (b : Bounds) (state : ℕ) {xs : List ℕ} → length xs ≡ 6
    → (b.count ≤ 6 → (k : ℕ) → k < b.count → get_or xs k 0 ≡ value_in wrapped b.lows b.weights state k)
    → (b.count ≤ 6 → (k : ℕ) → k < 6 → b.count ≤ k → get_or xs k 0 ≡ 128) → ValuesOf b state xs
values_from b state {xs} six each rest =
    record {
      worked_out = each;
      are = λ vs bounded h.
          let few : b.count ≤ 6 = omega (arith, bounded.counted, bounded.few_vars) in
          values_held bounded state xs h six (λ k l. each few k (omega (arith, bounded.counted)))
          (λ k l m. rest few k l (omega (arith, bounded.counted)));
    }
