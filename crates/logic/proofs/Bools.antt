-- Tests taken apart: the two cases of a test, what a true or false conjunction, disjunction and negation say, and tests
-- that decide a proposition, closed under these.
use Prim.Native.Nat.{ℕ, ◌≤◌}
use native.Mathlib.Omega.{arith}
use mathlib.Core.Path.{◌≡◌, refl, sym, ap, ◌∙◌}
use mathlib.Core.Bool.{Bool, true, false, not, ◌&&◌, beq, true≢false, false≢true, and-eq-true_iff, ◌||◌}
use mathlib.Core.Logic.Iff
use mathlib.Core.Logic.{◌⊎◌, inl, inr, ⊎_elim, ◌↔◌}
use mathlib.Core.Option.{Option, none, some}
use lib.Dec.{eqb, leb}
use borrow.Author.Tests.{eqb-true, eqb-false, eq-eqb, leb-true, le-leb}

-- The cases of a test

pub split {ℓ} : {C : Type ℓ} (b : Bool) → (b ≡ true → C) → (b ≡ false → C) → C
split true f g = f refl
split false f g = g refl

pub clash {ℓ} : {C : Type ℓ} {b : Bool} → b ≡ true → b ≡ false → C
clash p q = absurd (true≢false (sym p ∙ q))

pub split_eq {ℓ} : {C : Type ℓ} (u t : ℕ) → (u ≡ t → C) → ((u ≡ t → ⊥) → C) → C
split_eq u t f g = split (eqb u t) (λ q. f (eqb-true u t q)) (λ q. g (eqb-false u t q))

-- a test that cannot be true is false, and the other way round
pub is_false : {b : Bool} → (b ≡ true → ⊥) → b ≡ false
is_false {b} h = split b (λ q. absurd (h q)) (λ q. q)

pub is_true_lem : {b : Bool} → (b ≡ false → ⊥) → b ≡ true
is_true_lem {b} h = split b (λ q. q) (λ q. absurd (h q))

-- Joins

pub both : (a b : Bool) → a && b ≡ true → (a ≡ true) × (b ≡ true)
both a b = (and-eq-true_iff a b).0

pub and : {a b : Bool} → a ≡ true → b ≡ true → a && b ≡ true
and {a} {b} p q = (and-eq-true_iff a b).1 (p, q)

pub either : (a b : Bool) → a || b ≡ true → (a ≡ true) ⊎ (b ≡ true)
either true b h = inl refl
either false b h = inr h

pub or_left : (a b : Bool) → a ≡ true → a || b ≡ true
or_left true b h = refl
or_left false b h = absurd (false≢true h)

pub or_right : (a b : Bool) → b ≡ true → a || b ≡ true
or_right true b h = refl
or_right false b h = h

pub neither : (a b : Bool) → a || b ≡ false → (a ≡ false) × (b ≡ false)
neither true b h = absurd (true≢false h)
neither false b h = (refl, h)

pub or_none : (a b : Bool) → a ≡ false → b ≡ false → a || b ≡ false
or_none true b e d = absurd (true≢false e)
or_none false b e d = d

pub not_true : {b : Bool} → not b ≡ true → b ≡ false
not_true {b = true} h = absurd (false≢true h)
not_true {b = false} h = refl

pub true_not : {b : Bool} → b ≡ false → not b ≡ true
true_not {b = true} h = absurd (true≢false h)
true_not {b = false} h = refl

-- two tests that pass alike are equal
pub tests_equal : (a b : Bool) → (a ≡ true → b ≡ true) → (b ≡ true → a ≡ true) → a ≡ b
tests_equal true b f g = sym (f refl)
tests_equal false true f g = g refl
tests_equal false false f g = refl

pub beq_equal : (a b : Bool) → beq a b ≡ true → a ≡ b
beq_equal true true h = refl
beq_equal true false h = absurd (false≢true h)
beq_equal false true h = absurd (false≢true h)
beq_equal false false h = refl

pub equal_beq : (a b : Bool) → a ≡ b → beq a b ≡ true
equal_beq true b e = ap (beq true) (sym e)
equal_beq false b e = ap (beq false) (sym e)

-- What a test says, from what its parts say

-- a test is true exactly when something holds
abbrev pub Decides : Bool → Type 0 → Type 0
Decides b A = (b ≡ true) ↔ A

pub decides_and : {A B : Type 0} (a b : Bool) → Decides a A → Decides b B → Decides (a && b) (A × B)
decides_and a b h k = Iff.trans (and-eq-true_iff a b) (Iff.and h k)

pub decides_or : {A B : Type 0} (a b : Bool) → Decides a A → Decides b B → Decides (a || b) (A ⊎ B)
decides_or a b h k = (
  λ x. ⊎_elim (λ y. inl (h.0 y)) (λ y. inr (k.0 y)) (either a b x),
  ⊎_elim (λ y. or_left a b (h.1 y)) (λ y. or_right a b (k.1 y)),
)

pub decides_not : {A : Type 0} (b : Bool) → Decides b A → Decides (not b) (A → ⊥)
decides_not b k = (λ h x. clash (k.1 x) (not_true h), λ h. ap not (is_false (λ q. h (k.0 q))))

pub decides_by : {A B : Type 0} {b : Bool} → A ↔ B → Decides b A → Decides b B
decides_by e d = (λ h. e.0 (d.0 h), λ p. d.1 (e.1 p))

pub decides_leb : (m n : ℕ) → Decides (leb m n) (m ≤ n)
decides_leb m n = (leb-true m n, le-leb m n)

pub decides_eqb : (u t : ℕ) → Decides (eqb u t) (u ≡ t)
decides_eqb u t = (eqb-true u t, eq-eqb u t)

-- Constructors

-- what follows from constructors that differ, for which `cc` proves 0 ≡ 1
pub different {ℓ} : {C : Type ℓ} → ◌≡◌ {A = ℕ} 0 1 → C
different e = absurd (omega arith)

-- nothing is not something
pub no_some {ℓ} : {A : Type 0} {C : Type ℓ} {a : A} → ◌≡◌ {A = Option A} none (some a) → C
no_some e = different (cc)
