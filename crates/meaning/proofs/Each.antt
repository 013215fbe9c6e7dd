-- Lists of what a function gives: their length and what stands at each place; a set as a list and as a number; and of two
-- lists of Booleans of which one is within the other.
use Prim.Native.Nat.{ℕ, zero, suc, ◌+◌, ◌*◌, ◌/◌, ◌%◌, ◌^◌, ◌≤◌, ◌<◌}
use native.Mathlib.Omega.{arith}
use mathlib.Core.Path.{◌≡◌, refl, sym, ap, ◌∙◌}
use mathlib.Core.Bool.{Bool, true, false, false≢true}
use mathlib.Core.Logic.{◌⊎◌, inl, inr}
use mathlib.Core.List.{List, [], ◌∷◌}
use lib.ListN.{length, get_or}
use native.Mathlib.Nat.{pow-suc}
use lib.Dec.{eqb}
use borrow.Author.Tests.{eq-eqb}
use Rattle.sets.specs.Set.{member}
use Rattle.sets.proofs.SetLaws.{member_none, member_zero, member_suc}
use Rattle.meaning.specs.Bits.{each_from, bits, ones}

pub each_length : {A : Type 0} (n t : ℕ) (f : ℕ → A) → length (each_from n t f) ≡ n
unfolding each_from
each_length zero t f = refl
each_length (suc n) t f = ap suc (each_length n (t + 1) f)

pub each_at : {A : Type 0} (n t : ℕ) (f : ℕ → A) (i : ℕ) (d : A) → i < n → get_or (each_from n t f) i d ≡ f (t + i)
unfolding each_from
each_at zero t f i d h = absurd (omega arith)
each_at (suc n) t f zero d h = let e : t ≡ t + 0 = omega arith in ap f e
each_at (suc n) t f (suc i) d h =
    let e : t + 1 + i ≡ t + suc i = omega arith in each_at n (t + 1) f i d (omega arith) ∙ ap f e

pub each_first : {A : Type 0} (n : ℕ) (f : ℕ → A) (i : ℕ) (d : A) → i < n → get_or (each_from n 0 f) i d ≡ f i
each_first n f i d h = let e : 0 + i ≡ i = omega arith in each_at n 0 f i d h ∙ ap f e

pub each_past : {A : Type 0} (n t : ℕ) (f : ℕ → A) (i : ℕ) (d : A) → n ≤ i → get_or (each_from n t f) i d ≡ d
unfolding each_from
each_past zero t f i d h = refl
each_past (suc n) t f zero d h = absurd (omega arith)
each_past (suc n) t f (suc i) d h = each_past n (t + 1) f i d (omega arith)

-- a set as a number has the members that the list has
pub bits_member : (xs : List Bool) (i : ℕ) → member (bits xs) i ≡ get_or xs i false
unfolding bits
bits_member [] i = member_none i
bits_member (true ∷ xs) zero =
    let one : (1 + 2 * bits xs) % 2 ≡ 1 = omega arith in member_zero (1 + 2 * bits xs) ∙ eq-eqb _ 1 one
bits_member (false ∷ xs) zero =
    let none : 2 * bits xs % 2 ≡ 0 = omega arith in member_zero (2 * bits xs) ∙ ap (λ (x : ℕ). eqb x 1) none
bits_member (true ∷ xs) (suc i) =
    let half : (1 + 2 * bits xs) / 2 ≡ bits xs = omega arith in
    member_suc (1 + 2 * bits xs) i ∙ ap (λ (x : ℕ). member x i) half ∙ bits_member xs i
bits_member (false ∷ xs) (suc i) =
    let half : 2 * bits xs / 2 ≡ bits xs = omega arith in
    member_suc (2 * bits xs) i ∙ ap (λ (x : ℕ). member x i) half ∙ bits_member xs i

pub bits_small : (xs : List Bool) → bits xs < 2 ^ length xs
unfolding bits
bits_small [] = omega arith
bits_small (true ∷ xs) = omega (arith, bits_small xs, pow-suc 2 (length xs))
bits_small (false ∷ xs) = omega (arith, bits_small xs, pow-suc 2 (length xs))

pub bits_none : (xs : List Bool) → ((i : ℕ) → get_or xs i false ≡ false) → bits xs ≡ 0
unfolding bits
bits_none [] h = refl
bits_none (true ∷ xs) h = absurd (false≢true (sym (h 0)))
bits_none (false ∷ xs) h = let rest = bits_none xs (λ i. h (suc i)) in omega arith

pub ones_few : (xs : List Bool) → ones xs ≤ length xs
unfolding ones
ones_few [] = omega arith
ones_few (true ∷ xs) = omega (arith, ones_few xs)
ones_few (false ∷ xs) = omega (arith, ones_few xs)

one_in_front : (x y : Bool) (xs ys : List Bool) → (y ≡ true → x ≡ true) → (ys ≡ xs) ⊎ (ones ys < ones xs)
    → (◌≡◌ {A = List Bool} (y ∷ ys) (x ∷ xs)) ⊎ (ones (y ∷ ys) < ones (x ∷ xs))
unfolding ones
one_in_front true true xs ys k (inl e) = inl (ap (λ (z : List Bool). true ∷ z) e)
one_in_front true true xs ys k (inr h) = inr (omega arith)
one_in_front true false xs ys k (inl e) = inr (omega (arith, ap ones e))
one_in_front true false xs ys k (inr h) = inr (omega arith)
one_in_front false true xs ys k o = absurd (false≢true (k refl))
one_in_front false false xs ys k (inl e) = inl (ap (λ (z : List Bool). false ∷ z) e)
one_in_front false false xs ys k (inr h) = inr h

-- a list within another of its length is that list, or has fewer members
pub same_or_fewer : (xs ys : List Bool) → length ys ≡ length xs
    → ((i : ℕ) → get_or ys i false ≡ true → get_or xs i false ≡ true)
    → (ys ≡ xs) ⊎ (ones ys < ones xs)
same_or_fewer [] [] l h = inl refl
same_or_fewer [] (y ∷ ys) l h = absurd (omega arith)
same_or_fewer (x ∷ xs) [] l h = absurd (omega arith)
same_or_fewer (x ∷ xs) (y ∷ ys) l h =
    one_in_front x y xs ys (h 0) (same_or_fewer xs ys (omega arith) (λ i. h (suc i)))
