-- Laws of lists by index and of products with bounds, which the functions' proofs cite.
use Prim.Native.Nat.{ℕ, zero, suc, ◌+◌, ◌*◌, ◌<◌, ◌≤◌}
use native.Mathlib.Omega.{arith}
use native.Mathlib.Nat.{mul-le-mul_left, mul-le-mul_right, le_trans}
use native.Mathlib.Numerals.{add-one}
use mathlib.Core.Path.{◌≡◌, refl, ap}
use mathlib.Core.Logic.{◌⊎◌, inl, inr, ⊎_elim}
use mathlib.Core.List.{List, [], ◌∷◌, ◌++◌, map}
use mathlib.Core.Option.{some, some-injective}
use lib.ListN.{length, get_or, drop, set, get_elem?, replicate, get_or-replicate, get_or-eq_default}
use lib.Seq.{get_or-set_same, get_or-set_other}
use lib.Dec.{ltb, eqb}
use borrow.Author.Tests.{ltb-true, ltb-false, eqb-true, eqb-false}
use Rattle.logic.proofs.Bools.{split, no_some}

pub mul_at_most : (a b m n : ℕ) → a ≤ m → b ≤ n → a * b ≤ m * n
mul_at_most a b m n h k = le_trans (mul-le-mul_left a k) (mul-le-mul_right n h)

-- six equal numbers
pub six_at : (e k : ℕ) → k < 6 → get_or (replicate 6 e) k 0 ≡ e
six_at e k h = get_or-replicate 6 k e 0 h

pub six_at_most : (e n : ℕ) → e ≤ n → (k : ℕ) → get_or (replicate 6 e) k 0 ≤ n
six_at_most e n h k =
    split (ltb k 6) (λ t. omega (arith, six_at e k (ltb-true k 6 t)))
    (λ t. omega (arith, get_or-eq_default (replicate 6 e) 0 (ltb-false k 6 t)))

-- what holds of the number that is set, and at each other index, holds at every index
pub set_each : (P : ℕ → ℕ → Type 0) (xs : List ℕ) (k n : ℕ) → k < length xs → P k n
    → ((j : ℕ) → (j ≡ k → ⊥) → P j (get_or xs j 0)) → (j : ℕ) → P j (get_or (set xs k n) j 0)
set_each P xs k n h here other j =
    split (eqb j k) (λ t. rw (eqb-true j k t, get_or-set_same xs k n 0 h) here)
    (λ t. let d = eqb-false j k t in rw (get_or-set_other xs k j n 0 d) (other j d))

-- a number that is not 0 stands inside the list
pub inside : (xs : List ℕ) (k : ℕ) → 0 < get_or xs k 0 → k < length xs
inside xs k h =
    split (ltb k (length xs)) (λ t. ltb-true k (length xs) t)
    (λ t. absurd (omega (arith, h, get_or-eq_default xs 0 (ltb-false k (length xs) t))))

module _ {A : Type 0} where
  -- an index has an element, and what is left from there begins with it
  pub at_index : (xs : List A) (k : ℕ) → k < length xs → (x : A) × (get_elem? xs k ≡ some x)
      × (drop k xs ≡ x ∷ drop (suc k) xs)
  at_index [] k h = absurd (omega arith)
  at_index (x ∷ xs) zero h = (x, refl, refl)
  at_index (x ∷ xs) (suc k) h = at_index xs k (omega arith)

  pub elem_left : (xs : List A) (k : ℕ) (x : A) (rest : List A) → drop k xs ≡ x ∷ rest → get_elem? xs k ≡ some x
  elem_left [] zero x rest e = absurd (let z : ◌≡◌ {A = ℕ} 0 1 = cc in omega arith)
  elem_left [] (suc k) x rest e = absurd (let z : ◌≡◌ {A = ℕ} 0 1 = cc in omega arith)
  elem_left (y ∷ xs) zero x rest e = cc
  elem_left (y ∷ xs) (suc k) x rest e = elem_left xs k x rest e

  drop_suc : (xs : List A) (k : ℕ) (x : A) (rest : List A) → drop k xs ≡ x ∷ rest → drop (suc k) xs ≡ rest
  drop_suc [] zero x rest e = absurd (let z : ◌≡◌ {A = ℕ} 0 1 = cc in omega arith)
  drop_suc [] (suc k) x rest e = absurd (let z : ◌≡◌ {A = ℕ} 0 1 = cc in omega arith)
  drop_suc (y ∷ xs) zero x rest e = cc
  drop_suc (y ∷ xs) (suc k) x rest e = drop_suc xs k x rest e

  pub drop_next : (xs : List A) (k : ℕ) (x : A) (rest : List A) → drop k xs ≡ x ∷ rest → drop (k + 1) xs ≡ rest
  drop_next xs k x rest e = rw add-one (drop_suc xs k x rest e)

  pub get_d_elem : (xs : List A) (k : ℕ) (x d : A) → get_elem? xs k ≡ some x → get_or xs k d ≡ x
  get_d_elem [] k x d e = no_some e
  get_d_elem (y ∷ xs) zero x d e = cc
  get_d_elem (y ∷ xs) (suc k) x d e = get_d_elem xs k x d e

  pub elem_inside : (xs : List A) (k : ℕ) (x : A) → get_elem? xs k ≡ some x → k < length xs
  elem_inside [] k x e = no_some e
  elem_inside (y ∷ xs) zero x e = omega arith
  elem_inside (y ∷ xs) (suc k) x e = omega (arith, elem_inside xs k x e)

  -- of one element more
  pub elem_snoc : (xs : List A) (y : A) (k : ℕ) (x : A) → get_elem? (xs ++ (y ∷ [])) k ≡ some x
      → (get_elem? xs k ≡ some x) ⊎ ((k ≡ length xs) × (x ≡ y))
  elem_snoc [] y zero x e = inr (refl, cc)
  elem_snoc [] y (suc k) x e = no_some e
  elem_snoc (z ∷ xs) y zero x e = inl e
  elem_snoc (z ∷ xs) y (suc k) x e =
      ⊎_elim (λ h. inl h) (λ t. inr (ap suc t.0, t.1)) (elem_snoc xs y k x e)

pub elem_map : {A : Type 0} (f : A → ℕ) (xs : List A) (k : ℕ) (x : A) (d : ℕ) → get_elem? xs k ≡ some x
    → get_or (map f xs) k d ≡ f x
elem_map f [] k x d e = no_some e
elem_map f (y ∷ xs) zero x d e = ap f (some-injective y x e)
elem_map f (y ∷ xs) (suc k) x d e = elem_map f xs k x d e
