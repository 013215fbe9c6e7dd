-- Sixteen states and the next sixteen have the same values of the variables that a text names, where none of these is
-- among those that changed.
use Prim.Native.Nat.{ℕ, ◌+◌, ◌*◌, ◌<◌}
use native.Mathlib.Omega.{arith}
use native.Mathlib.Decide.{dec_lt}
use mathlib.Core.Path.{◌≡◌, sym, ap, ◌∙◌}
use mathlib.Core.Bool.{false}
use mathlib.Core.List.{List}
use lib.ListN.{length, get_or, get_or-eq_default}
use lib.IntN.{ℤ, pos, ◌-ℤ◌}
use Rattle.sets.specs.Set.{member}
use Rattle.syntax.specs.Tree.{Var}
use Rattle.meaning.specs.State.{count, state_at}
use Rattle.meaning.specs.Held.{Offset, Biased}
use Rattle.meaning.proofs.Alike.{Alike}
use Rattle.evaluator.specs.Coding.{slot_of}
use Rattle.evaluator.proofs.Lanes.{lane_at}
use Rattle.evaluator.proofs.Slots.{slot_value}
use Rattle.lanes.specs.Promises.{Sixteen, Values, Apart}

-- two states have the same value of each variable that is named, where those whose values changed are not
module _ {vs : List Var} {as' bs : List ℤ} {xs ys : List ℕ} (b : Biased vs as' xs) (c : Biased vs bs ys)
    {named changed : ℕ} (apart : Apart named changed)
    (same : (k : ℕ) → k < 6 → member changed k ≡ false → get_or ys k 0 ≡ get_or xs k 0) where
  same_at : (k : ℕ) → member changed k ≡ false → get_or as' k (pos 0) ≡ get_or bs k (pos 0)
  unfolding Offset
  same_at k h = elim (dec_lt k (length vs)) [
    | yes i ↦ b.held k i ∙ ap (λ (n : ℕ). pos n -ℤ pos 128) (sym (same k (omega (arith, b.few)) h))
        ∙ sym (c.held k i)
    | no o ↦ get_or-eq_default as' (pos 0) (omega (arith, b.each_value))
        ∙ sym (get_or-eq_default bs (pos 0) (omega (arith, c.each_value)))
  ]

  alike : Alike (λ x. member named (slot_of vs x)) vs as' bs
  alike = record {
    same_value = λ x p.
        slot_value vs as' x b.each_value ∙ same_at (slot_of vs x) (apart.lacks (slot_of vs x) p)
        ∙ sym (slot_value vs bs x c.each_value);
  }

pub alike_next : {vs : List Var} (lanes next : List ℕ) (changed s : ℕ) → Sixteen vs (Values vs lanes) s
    → Sixteen vs (Values vs next) (s + 16)
    → ((k j : ℕ) → k < 6 → j < 16 → member changed k ≡ false → get_or next (k * 16 + j) 0 ≡ get_or lanes (k * 16 + j) 0)
    → {named : ℕ} → Apart named changed → (j : ℕ) → j < 16 → s + 16 + j < count vs
    → Alike (λ x. member named (slot_of vs x)) vs (state_at vs (s + j)) (state_at vs (s + 16 + j))
alike_next lanes next changed s v w same apart j h low =
    alike (v.each j h (omega arith)) (w.each j h low) apart
    (λ k l n. lane_at next j k l ∙ same k j l h n ∙ sym (lane_at lanes j k l))
