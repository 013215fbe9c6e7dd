-- Searches find the first that passes: a number from some place on, and the lowest region and then the lowest state.
use Prim.Native.Nat.{ℕ, zero, suc, ◌+◌, ◌≤◌, ◌<◌}
use native.Mathlib.Omega.{arith}
use native.Mathlib.Nat.{zero-add, add-zero}
use mathlib.Core.Path.{◌≡◌, refl, sym, ap, subst, subst₂, ◌∙◌}
use mathlib.Core.Bool.{Bool, true, false}
use mathlib.Core.Logic.{◌⊎◌, inl, inr, ⊎_elim, ◌↔◌}
use mathlib.Core.List.{List, [], ◌∷◌}
use mathlib.Core.Option.{none, some, some-injective}
use lib.ListN.{get_elem?}
use lib.Dec.{eqb}
use lib.IntN.{ℤ}
use borrow.Author.Tests.{eqb-true, eqb-false}
use Rattle.syntax.specs.Tree.{Region, Var}
use Rattle.meaning.specs.State.{count, state_at}
use Rattle.meaning.specs.Decide.First.{first_from, first_where}
use Rattle.logic.proofs.Bools.{split, no_some}

-- The first number that passes a test

-- the test fails from k up to n
abbrev FailsFrom : (ℕ → Bool) → ℕ → ℕ → Type 0
FailsFrom p k n = (i : ℕ) → k ≤ i → i < n → p i ≡ false

one_more : (p : ℕ → Bool) (k n : ℕ) → p k ≡ false → FailsFrom p (k + 1) n → FailsFrom p k n
one_more p k n f h i low high =
    split (eqb k i) (λ e. rw (← eqb-true k i e) f)
    (λ e. let ne : (k ≡ i → ⊥) = eqb-false k i e in h i (omega arith) high)

first_none_of : (n k : ℕ) (p : ℕ → Bool) → FailsFrom p k (k + n) → first_from n k p ≡ none
unfolding first_from
first_none_of zero k p h = refl
first_none_of (suc n) k p h =
    cc (h k (omega arith) (omega arith), first_none_of n (k + 1) p (λ i low high. h i (omega arith) (omega arith)))

first_some_of : (n k : ℕ) (p : ℕ → Bool) (j : ℕ) → k ≤ j → j < k + n → p j ≡ true → FailsFrom p k j → first_from n k p
    ≡ some j
unfolding first_from
first_some_of zero k p j low high t h = absurd (omega arith)
first_some_of (suc n) k p j low high t h =
    split (eqb k j) (λ e. cc (eqb-true k j e))
    (λ e. let ne : (k ≡ j → ⊥) = eqb-false k j e in
    cc (
      h k (omega arith) (omega arith),
      first_some_of n (k + 1) p j (omega arith) (omega arith) t (λ i below above. h i (omega arith) above),
    ))

first_cases : (n k : ℕ) (p : ℕ → Bool)
    → FailsFrom p k (k + n) ⊎ ((j : ℕ) × (k ≤ j) × (j < k + n) × (p j ≡ true) × FailsFrom p k j)
first_cases zero k p = inl (λ i low high. absurd (omega arith))
first_cases (suc n) k p =
    split (p k) (λ t. inr (k, omega arith, omega arith, t, λ i low high. absurd (omega arith)))
    (λ f. ⊎_elim
    (λ h. inl (one_more p k (k + suc n) f (λ i low high. h i low (omega arith))))
    (λ t. inr (t.0, omega arith, omega arith, t.3, one_more p k t.0 f t.4)) (first_cases n (k + 1) p))

-- no number below n passes; j is the first that does
abbrev pub NoneBelow : (ℕ → Bool) → ℕ → Type 0
NoneBelow p n = (i : ℕ) → i < n → p i ≡ false

abbrev pub FirstBelow : (ℕ → Bool) → ℕ → ℕ → Type 0
FirstBelow p n j = (j < n) × (p j ≡ true) × NoneBelow p j

none_first : (n : ℕ) (p : ℕ → Bool) → NoneBelow p n → first_from n 0 p ≡ none
none_first n p h = first_none_of n 0 p (λ i low high. h i (omega arith))

some_first : (n : ℕ) (p : ℕ → Bool) (j : ℕ) → FirstBelow p n j → first_from n 0 p ≡ some j
some_first n p j t = first_some_of n 0 p j (omega arith) (omega arith) t.1 (λ i low high. t.2 i high)

none_or_first : (n : ℕ) (p : ℕ → Bool) → NoneBelow p n ⊎ ((j : ℕ) × FirstBelow p n j)
none_or_first n p =
    ⊎_elim (λ h. inl (λ i high. h i (omega arith) (omega arith)))
    (λ t. inr (t.0, (omega arith, t.3, λ i high. t.4 i (omega arith) high))) (first_cases n 0 p)

-- The first region, and the first state by number, that pass a test

module _ (vs : List Var) (p : Region → List ℤ → Bool) where
  unfoldable pub passes_at : Region → ℕ → Bool
  passes_at r n = p r (state_at vs n)

  -- no state passes in a region; state n is the first that does
  abbrev pub Quiet : Region → Type 0
  Quiet r = NoneBelow (passes_at r) (count vs)

  abbrev pub FirstAt : Region → ℕ → Type 0
  FirstAt r n = FirstBelow (passes_at r) (count vs) n

  where_step : (k : ℕ) (r : Region) (rs : List Region) → Quiet r
      → first_where vs p k (r ∷ rs) ≡ first_where vs p (k + 1) rs
  unfolding first_where passes_at
  where_step k r rs q = cc (none_first (count vs) (passes_at r) q)

  where_stop : (k : ℕ) (r : Region) (rs : List Region) (n : ℕ) → FirstAt r n
      → first_where vs p k (r ∷ rs) ≡ some (k, n)
  unfolding first_where passes_at
  where_stop k r rs n f = cc (some_first (count vs) (passes_at r) n f)

  -- all regions of a list are quiet; those below number i are
  abbrev pub AllQuiet : List Region → Type 0
  AllQuiet rs = (j : ℕ) (q : Region) → get_elem? rs j ≡ some q → Quiet q

  abbrev pub QuietBelow : List Region → ℕ → Type 0
  QuietBelow rs i = (j : ℕ) (q : Region) → j < i → get_elem? rs j ≡ some q → Quiet q

  all_quiet : (r : Region) (rs : List Region) → Quiet r → AllQuiet rs → AllQuiet (r ∷ rs)
  all_quiet r rs quiet h zero q e = subst Quiet (some-injective _ _ e) quiet
  all_quiet r rs quiet h (suc j) q e = h j q e

  quiet_below : (r : Region) (rs : List Region) (i : ℕ) → Quiet r → QuietBelow rs i → QuietBelow (r ∷ rs) (suc i)
  quiet_below r rs i quiet h zero q low e = subst Quiet (some-injective _ _ e) quiet
  quiet_below r rs i quiet h (suc j) q low e = h j q (omega arith) e

  where_none_of : (k : ℕ) (rs : List Region) → AllQuiet rs → first_where vs p k rs ≡ none
  unfolding first_where
  where_none_of k [] h = refl
  where_none_of k (r ∷ rs) h = where_step k r rs (h 0 r refl) ∙ where_none_of (k + 1) rs (λ j. h (suc j))

  where_some_of : (k : ℕ) (rs : List Region) (i : ℕ) (r : Region) (n : ℕ) → get_elem? rs i ≡ some r → FirstAt r n
      → QuietBelow rs i
      → first_where vs p k rs ≡ some (k + i, n)
  where_some_of k [] i r n e f h = no_some e
  where_some_of k (q ∷ rs) zero r n e f h =
      let same : q ≡ r = some-injective _ _ e in
      rw (add-zero, same) (where_stop k r rs n f)
  where_some_of k (q ∷ rs) (suc i) r n e f h =
      let sums : k + suc i ≡ k + 1 + i = omega arith in
      rw sums (where_step k q rs (h 0 q (omega arith) refl)
      ∙ where_some_of (k + 1) rs i r n e f (λ j u low. h (suc j) u (omega arith)))

  abbrev pub FirstIn : List Region → ℕ → ℕ → Type 0
  FirstIn rs i n = (r : Region) × (get_elem? rs i ≡ some r) × FirstAt r n × QuietBelow rs i

  pub quiet_or_first : (rs : List Region) → AllQuiet rs ⊎ ((i n : ℕ) × FirstIn rs i n)
  quiet_or_first [] = inl (λ j q e. no_some e)
  quiet_or_first (r ∷ rs) =
      ⊎_elim
      (λ quiet. ⊎_elim (λ h. inl (all_quiet r rs quiet h))
      (λ t. let (q, e, f, h) = t.2 in inr (suc t.0, t.1, (q, e, f, quiet_below r rs t.0 quiet h)))
      (quiet_or_first rs))
      (λ t. inr (0, t.0, (r, refl, t.1, λ j q low. absurd (omega arith)))) (none_or_first (count vs) (passes_at r))

  pub none_where : (rs : List Region) → AllQuiet rs → first_where vs p 0 rs ≡ none
  none_where rs h = where_none_of 0 rs h

  pub some_where : (rs : List Region) (i n : ℕ) → FirstIn rs i n → first_where vs p 0 rs ≡ some (i, n)
  some_where rs i n (r, e, f, h) = rw (zero-add) at (where_some_of 0 rs i r n e f h)

  pub where_none_iff : (rs : List Region)
      → (first_where vs p 0 rs ≡ none)
      ↔ ((j : ℕ) (q : Region) → get_elem? rs j ≡ some q → (n : ℕ) → n < count vs
      → p q (state_at vs n) ≡ false)
  unfolding passes_at
  where_none_iff rs = (
    λ e. ⊎_elim (λ h. h) (λ t. no_some (sym e ∙ some_where rs t.0 t.1 t.2)) (quiet_or_first rs),
    none_where rs,
  )

  -- region i passes at state n, at no lower state, and no lower region does
  pub where_some_iff : (rs : List Region) (i n : ℕ)
      → (first_where vs p 0 rs ≡ some (i, n))
      ↔ ((r : Region) × (get_elem? rs i ≡ some r)
      × ((n < count vs) × (p r (state_at vs n) ≡ true)
      × ((k : ℕ) → k < n → p r (state_at vs k) ≡ false))
      × ((j : ℕ) (q : Region) → j < i → get_elem? rs j ≡ some q → (k : ℕ) → k < count vs
      → p q (state_at vs k) ≡ false))
  unfolding passes_at
  where_some_iff rs i n = (
    λ e. ⊎_elim (λ h. no_some (sym (none_where rs h) ∙ e))
        (λ t. let same = some-injective _ _ (sym (some_where rs t.0 t.1 t.2) ∙ e) in
        subst₂ (FirstIn rs) (ap (λ z. z.0) same) (ap (λ z. z.1) same) t.2) (quiet_or_first rs),
    some_where rs i n,
  )
