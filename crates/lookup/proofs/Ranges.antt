-- The values that numbers hold are a state's exactly where each number is between its variable's bounds; a variable at a
-- time.
use Prim.Native.Nat.{ℕ, zero, suc, ◌+◌, ◌<◌, ◌≤◌}
use native.Mathlib.Omega.{arith}
use native.Mathlib.Numerals.{add-one}
use mathlib.Core.Path.{◌≡◌, refl, sym, ap, ◌∙◌}
use mathlib.Core.Bool.{true, not}
use mathlib.Core.List.{List, [], ◌∷◌}
use mathlib.Core.Option.{some}
use lib.ListN.{length, get_or, drop, take, get_elem?, drop_of_length-le, length-map, get_or-eq_default}
use lib.Dec.{ltb}
use borrow.Author.Tests.{ltb-true, ltb-false, lt-ltb, le-ltb}
use lib.IntN.{ℤ, pos, ◌-ℤ◌}
use Rattle.syntax.specs.Tree.{Var}
use Rattle.logic.proofs.Bools.{split, both, not_true, true_not, and}
use Rattle.meaning.specs.Value.{int_of, less, in_range}
use Rattle.meaning.specs.Runs.{State, no_values, one_value}
use Rattle.meaning.specs.Held.{Shifted, Offset, Biased}
use Rattle.meaning.specs.Outline.{held_values}
use Rattle.variables.specs.Bounded.{Bounded}
use Rattle.variables.specs.declared.Bounds.{Bounds}
use Rattle.logic.proofs.Indices.{at_index}
use Rattle.meaning.proofs.Offsets.{shifted_le, le_shifted}
use Rattle.lookup.specs.Slices.{slot_of, Trimmed}

take_length : (n : ℕ) (xs : List ℕ) → n ≤ length xs → length (take n xs) ≡ n
take_length zero xs h = refl
take_length (suc n) [] h = absurd (omega arith)
take_length (suc n) (x ∷ xs) h = ap suc (take_length n xs (omega arith))

-- the values held from an index on, with the first of them
held_from : (n : ℕ) (xs : List ℕ) (k : ℕ) → k < n → n ≤ length xs
    → drop k (held_values n xs) ≡ (pos (get_or xs k 0) -ℤ pos 128) ∷ drop (suc k) (held_values n xs)
unfolding held_values
held_from zero xs k h l = absurd (omega arith)
held_from (suc n) [] k h l = absurd (omega arith)
held_from (suc n) (x ∷ xs) zero h l = refl
held_from (suc n) (x ∷ xs) (suc k) h l = held_from n xs k (omega arith) (omega arith)

-- all of them
pub held_count : (n : ℕ) (xs : List ℕ) → n ≤ length xs → length (held_values n xs) ≡ n
unfolding held_values
held_count n xs h = length-map (take n xs) (λ x. pos x -ℤ pos 128) ∙ take_length n xs h

pub held_at : (n : ℕ) (xs : List ℕ) (k : ℕ) → k < n → n ≤ length xs
    → get_or (held_values n xs) k (pos 0) ≡ pos (get_or xs k 0) -ℤ pos 128
unfolding held_values
held_at zero xs k h l = absurd (omega arith)
held_at (suc n) [] k h l = absurd (omega arith)
held_at (suc n) (x ∷ xs) zero h l = refl
held_at (suc n) (x ∷ xs) (suc k) h l = held_at n xs k (omega arith) (omega arith)

pub slot_value : (n : ℕ) (xs : List ℕ) (k : ℕ) → k < n → get_or xs k 0 ≡ slot_of n xs k
unfolding slot_of
slot_value n xs k h = rw (slot_of, lt-ltb k n h)

pub slot_behind : (n : ℕ) (xs : List ℕ) (k : ℕ) → n ≤ k → 128 ≡ slot_of n xs k
unfolding slot_of
slot_behind n xs k h = rw (slot_of, le-ltb k n h)

first_of : {v : Var} {vs : List Var} {a : ℤ} {as' : List ℤ} → State (v ∷ vs) (a ∷ as')
    → (in_range v a ≡ true) × State vs as'
first_of (one_value r s) = (r, s)

module _ (vs : List Var) (b : Bounds) (bounded : Bounded vs b) (xs : List ℕ) (six : length xs ≡ 6) where
  -- the variables from k on have values that are a state's
  abbrev pub From : ℕ → Type 0
  From k = State (drop k vs) (drop k (held_values (length vs) xs))

  pub from_end : (k : ℕ) → length vs ≤ k → From k
  from_end k h =
      let a : drop k vs ≡ [] = drop_of_length-le vs h in
      let e : drop k (held_values (length vs) xs) ≡ [] =
      drop_of_length-le (held_values (length vs) xs) {i = k}
      (omega (arith, held_count (length vs) xs (omega (arith, bounded.few_vars)))) in
      rw (a, e) no_values

  module _ (k : ℕ) (h : k < length vs) where
    held : Shifted 128 (pos (get_or xs k 0) -ℤ pos 128) (get_or xs k 0)
    held = record { is = refl }

    module _ (v : Var) (e : get_elem? vs k ≡ some v) where
      lowest : Shifted 128 (int_of v.low) (get_or b.lows k 0)
      unfolding Offset
      lowest = record { is = bounded.ranges.lows_held k v e }

      highest : Shifted 128 (int_of v.high) (get_or b.highs k 0)
      unfolding Offset
      highest = record { is = bounded.ranges.highs_held k v e }

      pub in_range_lem : get_or b.lows k 0 ≤ get_or xs k 0 → get_or xs k 0 ≤ get_or b.highs k 0
          → in_range v (pos (get_or xs k 0) -ℤ pos 128) ≡ true
      unfolding in_range
      in_range_lem p q = and (true_not (shifted_le lowest held p)) (true_not (shifted_le held highest q))

      pub of_range : in_range v (pos (get_or xs k 0) -ℤ pos 128) ≡ true
          → (get_or b.lows k 0 ≤ get_or xs k 0) × (get_or xs k 0 ≤ get_or b.highs k 0)
      unfolding in_range
      of_range t =
          let (p, q) = both (not (less (pos (get_or xs k 0) -ℤ pos 128) (int_of v.low)))
          (not (less (int_of v.high) (pos (get_or xs k 0) -ℤ pos 128))) t in
          (le_shifted lowest held (not_true p), le_shifted held highest (not_true q))

    rest : drop k (held_values (length vs) xs)
        ≡ (pos (get_or xs k 0) -ℤ pos 128) ∷ drop (suc k) (held_values (length vs) xs)
    rest = held_from (length vs) xs k h (omega (arith, bounded.few_vars))

    pub from_less : get_or b.lows k 0 ≤ get_or xs k 0 → get_or xs k 0 ≤ get_or b.highs k 0 → From (k + 1) → From k
    from_less p q s =
        let (v, e, parts) = at_index vs k h in
        rw (parts, rest) (one_value (in_range_lem v e p q) (rw add-one at s))

    pub from_more : From k
        → (get_or b.lows k 0 ≤ get_or xs k 0) × (get_or xs k 0 ≤ get_or b.highs k 0) × From (k + 1)
    from_more s =
        let (v, e, parts) = at_index vs k h in
        let (r, t) = first_of (rw (parts, rest) at s) in
        let (p, q) = of_range v e r in
        (p, q, rw add-one t)

  same : (ns : List ℕ) → Trimmed (length vs) xs ns → (k : ℕ) → k < 6 → k < length vs → get_or ns k 0 ≡ get_or xs k 0
  same ns t k l h = t.each k l ∙ sym (slot_value (length vs) xs k h)

  unused : (ns : List ℕ) → Trimmed (length vs) xs ns → (k : ℕ) → k < 6 → length vs ≤ k → get_or ns k 0 ≡ 128
  unused ns t k l h = t.each k l ∙ sym (slot_behind (length vs) xs k h)

  -- what is in range is held as the states' numbers ask
  pub trimmed_biased : (ns : List ℕ) → Trimmed (length vs) xs ns → State vs (held_values (length vs) xs)
      → Biased vs (held_values (length vs) xs) ns
  unfolding Offset
  trimmed_biased ns t s =
      record {
        few = bounded.few_vars;
        each_value = held_count (length vs) xs (omega (arith, bounded.few_vars));
        slots = t.slots;
        held = λ k h.
            held_at (length vs) xs k h (omega (arith, bounded.few_vars))
            ∙ ap (λ (n : ℕ). pos n -ℤ pos 128) (sym (same ns t k (omega (arith, bounded.few_vars)) h));
        small = λ k. small k;
        unused = λ k h l. unused ns t k h l;
      }
    where
      reached : (k : ℕ) → k ≤ length vs → From k
      reached zero h = s
      reached (suc k) h = rw add-one at (from_more k (omega arith) (reached k (omega arith))).2

      small : (k : ℕ) → get_or ns k 0 ≤ 255
      small k =
          split (ltb k 6)
          (λ a. let l = ltb-true k 6 a in
          split (ltb k (length vs))
          (λ c. let h = ltb-true k (length vs) c in
          omega (arith, same ns t k l h, (from_more k h (reached k (omega arith))).1, bounded.ranges.highs_small k))
          (λ c. omega (arith, unused ns t k l (ltb-false k (length vs) c))))
          (λ a. let h = ltb-false k 6 a in
          omega (arith, get_or-eq_default ns 0 {n = k} (omega (arith, t.slots))))
