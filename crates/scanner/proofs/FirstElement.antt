-- Laws of the definitions that the scanner's code goes by, each at the first element of what is left of a list.
use Prim.Native.Nat.{ℕ, zero, suc, ◌+◌, ◌*◌, ◌-◌, ◌^◌, ◌≤◌, ◌<◌}
use mathlib.Core.Path.{◌≡◌, refl, ap, ◌∙◌}
use mathlib.Core.Bool.{Bool, true, false, ◌&&◌, ◌||◌, false≢true}
use mathlib.Core.List.{List, [], ◌∷◌}
use native.Mathlib.Numerals.{add-one}
use native.Mathlib.Omega.{arith}
use lib.ListN.{length, take, drop, get_or, drop_of_length-le}
use lib.Seq.{drop-cons}
use lib.Dec.{leb, eqb}
use borrow.Author.Tests.{leb-true}
use Rattle.std.specs.Char.{is_ascii_alphabetic, is_ascii_alphanumeric}
use Rattle.syntax.specs.Decide.Leading.{leading}
use Rattle.syntax.specs.Bytes.{letter, digit, word_byte, between, decimal}

-- a case distinction on a Boolean that keeps the equation
pub by_cases : {A : Type 0} (b : Bool) → (b ≡ true → A) → (b ≡ false → A) → A
by_cases true f g = f refl
by_cases false f g = g refl

module _ (p : ℕ → Bool) where
  pub leading_stop : (b : ℕ) (bs : List ℕ) → p b ≡ false → leading p (b ∷ bs) ≡ 0
  unfolding leading
  leading_stop b bs e = simp (leading, e)

  pub leading_more : (b : ℕ) (bs : List ℕ) → p b ≡ true → leading p (b ∷ bs) ≡ suc (leading p bs)
  unfolding leading
  leading_more b bs e = simp (leading, e)

  pub leading_none : leading p [] ≡ 0
  unfolding leading
  leading_none = refl

  pub leading_le : (bs : List ℕ) → leading p bs ≤ length bs
  leading_le [] = omega (arith, leading_none)
  leading_le (b ∷ bs) =
      by_cases (p b) (λ e. omega (arith, leading_more b bs e, leading_le bs)) (λ e. omega (arith, leading_stop b bs e))

  -- the bytes that lead are all of themselves
  pub leading_take : (bs : List ℕ) → leading p (take (leading p bs) bs) ≡ leading p bs
  leading_take [] = rw leading_none leading_none
  leading_take (b ∷ bs) =
      by_cases (p b)
      (λ e. rw (leading_more b bs e) (leading_more b (take (leading p bs) bs) e ∙ ap suc (leading_take bs)))
      (λ e. rw (leading_stop b bs e) leading_none)

  pub leading_end : (file : List ℕ) (i : ℕ) → length file ≤ i → leading p (drop i file) ≡ 0
  leading_end file i h = rw drop_of_length-le leading_none

  module _ (file : List ℕ) (i : ℕ) (h : i < length file) where
    pub leading_stop_at : p (get_or file i 0) ≡ false → leading p (drop i file) ≡ 0
    leading_stop_at e = rw (drop-cons file i 0) (leading_stop (get_or file i 0) (drop (suc i) file) e)

    pub leading_more_at : p (get_or file i 0) ≡ true → leading p (drop i file) ≡ suc (leading p (drop (i + 1) file))
    leading_more_at e = rw (drop-cons file i 0, add-one) (leading_more (get_or file i 0) (drop (suc i) file) e)

    -- where all that is left passes, so does the first of it
    pub passes_at : i + leading p (drop i file) ≡ length file → p (get_or file i 0) ≡ true
    passes_at e =
        by_cases (p (get_or file i 0)) (λ t. t)
        (λ f. absurd (omega (arith, e, h, leading_stop_at f)))

pub and_true : (a b : Bool) → a && b ≡ true → (a ≡ true) × (b ≡ true)
and_true true b e = (refl, e)
and_true false b e = absurd (false≢true e)

-- a word's bytes are the kit's letters and digits, and `_`
turned : (d u l s : Bool) → (u || l) || d || s ≡ (((d || u) || l) || s)
turned true true l s = refl
turned true false true s = refl
turned true false false s = refl
turned false true l s = refl
turned false false true s = refl
turned false false false s = refl

pub alphanumeric : (b : ℕ) → word_byte b ≡ (is_ascii_alphanumeric b || eqb b 95)
unfolding word_byte letter digit between
alphanumeric b = turned (digit b) (between "A" "Z" b) (between "a" "z" b) (eqb b 95)

pub letters : (b : ℕ) → letter b ≡ is_ascii_alphabetic b
unfolding letter between
letters b = refl

pub digit_bounds : (b : ℕ) → digit b ≡ true → (48 ≤ b) × (b ≤ 57)
unfolding digit between
digit_bounds b e =
    let h = and_true (leb 48 b) (leb b 57) e in
    (leb-true _ _ h.0, leb-true _ _ h.1)

pub decimal_at : (n : ℕ) (bs : List ℕ) (i : ℕ) → i < length bs
    → decimal n (drop i bs) ≡ decimal (n * 10 + (get_or bs i 0 - 48)) (drop (i + 1) bs)
unfolding decimal
decimal_at n bs i h = rw (drop-cons bs i 0, add-one)

pub decimal_end : (n : ℕ) (bs : List ℕ) (i : ℕ) → length bs ≤ i → decimal n (drop i bs) ≡ n
unfolding decimal
decimal_end n bs i h = rw drop_of_length-le

pub power_at_most : (i : ℕ) → i < 3 → 10 ^ i ≤ 100
power_at_most zero h = omega arith
power_at_most (suc zero) h = omega arith
power_at_most (suc (suc zero)) h = omega arith
power_at_most (suc (suc (suc i))) h = omega arith
