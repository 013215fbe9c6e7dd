-- Hexadecimal digits: what a number's two digits are, and that they tell the number, both ways.
use Prim.Native.Nat.{ℕ, zero, suc, ◌+◌, ◌*◌, ◌-◌, ◌/◌, ◌%◌, ◌≤◌, ◌<◌}
use native.Mathlib.Omega.{arith}
use mathlib.Core.Path.{◌≡◌, refl, ◌∙◌}
use mathlib.Core.Bool.{Bool, true, false}
use mathlib.Core.Logic.{◌⊎◌, inl, inr, ⊎_elim}
use mathlib.Core.List.{[], ◌∷◌}
use lib.Dec.{eqb, ltb}
use borrow.Author.Tests.{ne_eqb, ltb-true, ltb-false, lt-ltb, le-ltb, le-leb, lt-leb}
use Rattle.meaning.specs.Hex.{hex_digit, hex2, hex_bool}
use Rattle.meaning.specs.Decide.Frames.{is_hex, hex_value}
use Rattle.logic.proofs.Bools.{split}
use Rattle.logic.proofs.Bools.{Decides, decides_and, decides_or, decides_leb}
use Rattle.logic.specs.Tests.{bit}

pub decides_hex : (b : ℕ) → Decides (is_hex b) (((48 ≤ b) × (b ≤ 57)) ⊎ ((65 ≤ b) × (b ≤ 70)))
unfolding is_hex
decides_hex b =
    decides_or _ _ (decides_and _ _ (decides_leb 48 b) (decides_leb b 57))
    (decides_and _ _ (decides_leb 65 b) (decides_leb b 70))

pub low_value : (b : ℕ) → b ≤ 57 → hex_value b ≡ b - 48
unfolding hex_value
low_value b h = rw (le-leb b 57 h, hex_value)

pub high_value : (b : ℕ) → 57 < b → hex_value b ≡ b - 55
unfolding hex_value
high_value b h = rw (lt-leb b 57 h, hex_value)

pub low_digit : (n : ℕ) → n < 10 → hex_digit n ≡ n + 48
unfolding hex_digit
low_digit n h = rw (lt-ltb n 10 h, hex_digit)

pub high_digit : (n : ℕ) → 10 ≤ n → hex_digit n ≡ n + 55
unfolding hex_digit
high_digit n h = rw (le-ltb n 10 h, hex_digit)

-- a digit's value, and a digit is no 0A
digit_value : (n : ℕ) → n < 16 → (is_hex (hex_digit n) ≡ true) × (hex_value (hex_digit n) ≡ n)
    × (eqb (hex_digit n) 10 ≡ false)
digit_value n h = split (ltb n 10)
    (λ e. let l = ltb-true n 10 e in rw (low_digit n l) (
      (decides_hex (n + 48)).1 (inl (omega arith, omega arith)),
      low_value (n + 48) (omega arith) ∙ omega arith,
      ne_eqb (n + 48) 10 (omega arith),
    ))
    (λ e. let l = ltb-false n 10 e in rw (high_digit n l) (
      (decides_hex (n + 55)).1 (inr (omega arith, omega arith)),
      high_value (n + 55) (omega arith) ∙ omega arith,
      ne_eqb (n + 55) 10 (omega arith),
    ))

-- the digit of a value
value_digit : (b : ℕ) → is_hex b ≡ true → (hex_value b < 16) × (hex_digit (hex_value b) ≡ b)
value_digit b h = ⊎_elim
    (λ p. rw (low_value b p.1) (omega arith, low_digit (b - 48) (omega arith) ∙ omega arith))
    (λ p. rw (high_value b (omega arith)) (omega arith, high_digit (b - 55) (omega arith) ∙ omega arith))
    ((decides_hex b).0 h)

-- the two digits of a number: digits, no 0A, and its value
pub record TwoDigits (n : ℕ) : Type 0 where
  pub high_hex : is_hex (hex_digit (n / 16)) ≡ true
  pub low_hex : is_hex (hex_digit (n % 16)) ≡ true
  pub high_free : eqb (hex_digit (n / 16)) 10 ≡ false
  pub low_free : eqb (hex_digit (n % 16)) 10 ≡ false
  pub value : hex_value (hex_digit (n / 16)) * 16 + hex_value (hex_digit (n % 16)) ≡ n

pub two_digits : (n : ℕ) → n < 256 → TwoDigits n
two_digits n h =
    let a = digit_value (n / 16) (omega arith) in
    let b = digit_value (n % 16) (omega arith) in
    record { high_hex = a.0; low_hex = b.0; high_free = a.2; low_free = b.2; value = rw (a.1, b.1) (omega arith) }

-- the number of two digits
pub pair_digits : (b c : ℕ) → is_hex b ≡ true → is_hex c ≡ true → (hex_value b * 16 + hex_value c < 256)
    × (hex2 (hex_value b * 16 + hex_value c) ≡ b ∷ c ∷ [])
unfolding hex2
pair_digits b c h g =
    let v = value_digit b h in
    let w = value_digit c g in
    let high : (hex_value b * 16 + hex_value c) / 16 ≡ hex_value b = omega arith in
    let low : (hex_value b * 16 + hex_value c) % 16 ≡ hex_value c = omega arith in
    (omega arith, rw (high, low, v.1, w.1))

-- A truth value as a number

pub bit_digits : (b : Bool) → hex_bool b ≡ hex2 (bit b)
unfolding hex_bool bit
bit_digits true = refl
bit_digits false = refl

pub bit_back : (b : Bool) → (bit b < 2) × (eqb (bit b) 1 ≡ b)
unfolding bit
bit_back true = (omega arith, refl)
bit_back false = (omega arith, refl)

pub back_bit : (n : ℕ) → n < 2 → bit (eqb n 1) ≡ n
unfolding bit
back_bit zero h = refl
back_bit (suc zero) h = refl
back_bit (suc (suc n)) h = absurd (omega arith)
