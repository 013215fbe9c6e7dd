-- `any` as a fact about which number passes, by induction on the bound.
use Prim.Native.Nat.{ℕ, zero, suc, ◌+◌, ◌<◌}
use native.Mathlib.Numerals.{add-one}
use native.Mathlib.Omega.{arith}
use mathlib.Core.Path.{◌≡◌, refl, subst}
use mathlib.Core.Bool.{Bool, true, false, not, ◌||◌, false≢true}
use mathlib.Core.Logic.Iff
use mathlib.Core.Logic.{inl, inr, ◌↔◌}
use Rattle.logic.specs.Tests.{any}
use Rattle.logic.proofs.Bools.{split_eq, either, or_left, or_right, or_none, decides_not}

pub any_intro : (n : ℕ) (f : ℕ → Bool) (u : ℕ) → u < n → f u ≡ true → any n f ≡ true
unfolding any
any_intro zero f u h e = absurd (omega arith)
any_intro (suc n) f u h e =
    split_eq u n (λ q. or_left (f n) (any n f) (subst (λ (k : ℕ). f k ≡ true) q e))
    (λ q. or_right (f n) (any n f) (any_intro n f u (omega arith) e))

pub any_false : (n : ℕ) (f : ℕ → Bool) → ((k : ℕ) → k < n → f k ≡ false) → any n f ≡ false
unfolding any
any_false zero f e = refl
any_false (suc n) f e = or_none (f n) (any n f) (e n (omega arith)) (any_false n f (λ k h. e k (omega arith)))

any_elim : (n : ℕ) (f : ℕ → Bool) → any n f ≡ true → (u : ℕ) × (u < n) × (f u ≡ true)
unfolding any
any_elim zero f h = absurd (false≢true h)
any_elim (suc n) f h =
    elim (either (f n) (any n f) h) [
      | inl q ↦ (n, omega arith, q)
      | inr q ↦ let r = any_elim n f q in (r.0, omega arith, r.2)
    ]

-- of the numbers that a test f tells, some is below n, or none
module _ (n : ℕ) (f : ℕ → Bool) {P : ℕ → Type 0} (tells : (u : ℕ) → (f u ≡ true) ↔ P u) where
  pub any_iff : (any n f ≡ true) ↔ ((u : ℕ) × (u < n) × P u)
  any_iff = (
    λ h. let r = any_elim n f h in (r.0, r.1, (tells r.0).0 r.2),
    λ x. any_intro n f x.0 x.1 ((tells x.0).1 x.2),
  )

  pub none_iff : (not (any n f) ≡ true) ↔ ((u : ℕ) → u < n → P u → ⊥)
  none_iff = Iff.trans (decides_not (any n f) any_iff) (λ h u l x. h (u, l, x), λ h x. h x.0 x.1 x.2)

-- one number more, and tests that pass alike
pub any_next : (n : ℕ) (f : ℕ → Bool) → any (n + 1) f ≡ (f n || any n f)
unfolding any
any_next n f = rw add-one

pub any_same : (n : ℕ) (f g : ℕ → Bool) → ((k : ℕ) → k < n → f k ≡ g k) → any n f ≡ any n g
unfolding any
any_same zero f g e = refl
any_same (suc n) f g e =
    let rest : any n f ≡ any n g = any_same n f g (λ k h. e k (omega arith)) in
    rw (e n (omega arith), rest)
