-- What is known of a condition is its truth at the next sixteen states too, where the variables that it names have the
-- same values there.
use Prim.Native.Nat.{ℕ, ◌+◌, ◌-◌, ◌*◌, ◌<◌}
use Rattle.std.specs.Prelude.{Some, None}
use native.Mathlib.Omega.{arith}
use native.Mathlib.Decide.{dec_lt}
use mathlib.Core.Path.{◌≡◌, subst, ◌∙◌}
use mathlib.Core.Bool.{Bool, false}
use mathlib.Core.List.{List}
use lib.ListN.{length, get_or}
use Rattle.sets.specs.Set.{member}
use Rattle.syntax.specs.Tree.{Var, Cond, spell_cond}
use Rattle.meaning.specs.Value.{truth}
use Rattle.meaning.specs.State.{count, state_at}
use Rattle.meaning.specs.Model.{no_guard}
use Rattle.meaning.proofs.Alike.{truth_alike}
use Rattle.evaluator.specs.Coding.{Covers}
use Rattle.lanes.specs.Promises.{Sixteen, Values, SomeApart}
use Rattle.lanes.proofs.Named.{alike_next}
use Rattle.truths.specs.Carried.{Carried, CarriedAll, Truths}

module _ {vs : List Var} (lanes next : List ℕ) (changed s : ℕ) (v : Sixteen vs (Values vs lanes) s)
    (w : Sixteen vs (Values vs next) (s + 16))
    (same : (k j : ℕ) → k < 6 → j < 16 → member changed k ≡ false
    → get_or next (k * 16 + j) 0 ≡ get_or lanes (k * 16 + j) 0)
  where
    pub carried_next : (c : Cond) {named : ℕ} (known : ℕ → Bool) → Covers vs (spell_cond c) named
        → ((j : ℕ) → j < 16 → s + j < count vs → known j ≡ truth c vs (state_at vs (s + j)))
        → Carried vs c named (Some changed) known (s + 16)
    unfolding Covers SomeApart
    carried_next c known covers now = record {
      each = λ apart j h low.
          now j h (omega arith)
          ∙ truth_alike c covers (alike_next lanes next changed s v w same apart j h low);
    }

    pub all_next : (cs : List Cond) (named sets : List ℕ)
        → ((g : ℕ) → g < length cs → Covers vs (spell_cond (get_or cs g no_guard)) (get_or named g 0))
        → Sixteen vs (Truths vs cs sets) s → CarriedAll vs cs named (Some changed) sets (s + 16)
    unfolding CarriedAll
    all_next cs named sets covers now g h =
        carried_next (get_or cs g no_guard) (λ j. member (get_or sets j 0) g) (covers g h)
        (λ j l low. now.each j l low g h)

-- the first sixteen need nothing
pub carried_first : {vs : List Var} (c : Cond) (named : ℕ) (known : ℕ → Bool) → Carried vs c named None known 0
unfolding SomeApart
carried_first c named known = record { each = λ e. absurd e }

-- what stands below s, and the sixteen behind, stand below s + 16
pub sixteen_more : (P : ℕ → ℕ → Type 0) (row row' : List ℕ) (s : ℕ) → ((n : ℕ) → n < s → P n (get_or row n 0))
    → ((n : ℕ) → n < s → get_or row' n 0 ≡ get_or row n 0) → ((j : ℕ) → j < 16 → P (s + j) (get_or row' (s + j) 0))
    → (n : ℕ) → n < s + 16 → P n (get_or row' n 0)
sixteen_more P row row' s before same here n h = elim (dec_lt n s) [
  | yes l ↦ rw (same n l) (before n l)
  | no o ↦ let e : s + (n - s) ≡ n = omega arith in subst (λ k. P k (get_or row' k 0)) e (here (n - s) (omega arith))
]
