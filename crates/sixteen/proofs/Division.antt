-- Division by a product: where the code multiplies or compares in the place of a division, that is exact.
use Prim.Native.Nat.{ℕ, suc, ◌+◌, ◌-◌, ◌*◌, ◌/◌, ◌%◌, ◌≤◌, ◌<◌}
use native.Mathlib.Omega.{arith}
use native.Mathlib.Nat.{div-add-mod', mod-lt, mul-add-mod_self_right, mod-eq_of_lt, div-eq_of_lt-le, mul-le-mul_right}
use native.Mathlib.Nat.{mul-le-mul, mul-le-mul_left, lt_of_mul-lt-mul_right, div-le_self}
use mathlib.Core.Path.{◌≡◌, refl, sym, ap, ◌∙◌}
use mathlib.Core.Bool.{Bool, true, false, cond}
use lib.Dec.{ltb}
use borrow.Author.Tests.{ltb-true, ltb-false, lt-ltb, le-ltb}
use Rattle.sixteen.specs.Rest.{rest, remainder_of}

-- a multiple and a number below the divisor
pub divided : (x b q r : ℕ) → x ≡ q * b + r → r < b → x % b ≡ r
divided x b q r e h = ap (λ (n : ℕ). n % b) e ∙ mul-add-mod_self_right q b r ∙ mod-eq_of_lt h

pub mod_most : (n : ℕ) {m : ℕ} → 0 < m → n % m ≤ m
mod_most n h = omega (arith, mod-lt n h)

pub rest_below : (p m b : ℕ) → 0 < b → rest p m b < b
unfolding rest
rest_below p m b h = mod-lt (p + (b - m % b)) h

-- of what is left of both
pub rest_left : (p m b : ℕ) → 0 < b → m % b ≤ p % b → p % b - m % b ≡ rest p m b
unfolding rest
rest_left p m b h l =
    let s = mod-lt p h in
    sym (divided (p + (b - m % b)) b (p / b + 1) (p % b - m % b) (omega (arith, div-add-mod' p b, mod-lt m h)) (omega arith))

pub rest_over : (p m b : ℕ) → 0 < b → p % b < m % b → p % b + (b - m % b) ≡ rest p m b
unfolding rest
rest_over p m b h l =
    let s = mod-lt m h in
    sym (divided (p + (b - m % b)) b (p / b) (p % b + (b - m % b)) (omega (arith, div-add-mod' p b)) (omega arith))

-- by a number that is above another, or not
pub remainder_some : (p m b l : ℕ) → l < b → remainder_of p m b l ≡ rest p m (b - l)
unfolding remainder_of
remainder_some p m b l h = rw (lt-ltb l b h)

pub remainder_none : (p m b l : ℕ) → b ≤ l → remainder_of p m b l ≡ 0
unfolding remainder_of
remainder_none p m b l h = rw (le-ltb l b h)

-- A multiplication in the place of a division

-- m is a 65,536th of e more than 65,536 by b, and x small enough that q of these are less than one more
module _ (x b m e q s : ℕ) (parts : x ≡ q * b + s) (below : s < b) (times : b * m ≡ 65536 + e) (some' : 0 < e)
    (few : e ≤ b) (small : (x + b) * b ≤ 65536) where
  whole : x * m ≡ q * 65536 + (q * e + s * m)
  whole =
      let qs : q * (b * m) ≡ q * (65536 + e) = ap (λ (n : ℕ). q * n) times in
      let xs : x * m ≡ (q * b + s) * m = ap (λ (n : ℕ). n * m) parts in
      omega arith

  left : q * e + s * m < 65536
  left =
      let a : suc s * m ≤ b * m = mul-le-mul_right m below in
      let c : suc q * e ≤ suc q * b = mul-le-mul_left (suc q) few in
      let d : x + b < m = lt_of_mul-lt-mul_right b (omega arith) in
      omega arith

  quotient : x * m / 65536 ≡ q
  quotient = div-eq_of_lt-le 65536 (omega (arith, whole)) (omega (arith, whole, left))

exact : (x b : ℕ) → 0 < b → (x + b) * b ≤ 65536 → x * (65536 / b + 1) / 65536 ≡ x / b
exact x b h small =
    let r = mod-lt 65536 h in
    quotient x b (65536 / b + 1) (b - 65536 % b) (x / b) (x % b) (sym (div-add-mod' x b)) (mod-lt x h)
    (omega (arith, div-add-mod' 65536 b)) (omega arith) (omega arith) small

-- of numbers up to 255 with up to the divisor added
module _ (x b m : ℕ) (pre : (0 < b) × (b ≤ 128) × (x ≤ 255 + b) × (m ≡ 65536 / b + 1)) where
  pub product_fits : x * m < 4294967296
  product_fits =
      let xs : x ≤ 383 = omega arith in
      let ms : m ≤ 65537 = omega (arith, div-le_self 65536 b) in
      omega (arith, mul-le-mul xs ms)

  pub product_exact : x * m / 65536 ≡ x / b
  product_exact =
      let sums : x + b ≤ 511 = omega arith in
      ap (λ (n : ℕ). x * n / 65536) pre.3 ∙ exact x b pre.0 (omega (arith, mul-le-mul sums pre.1))

-- A divisor above 128

pub large : (v b : ℕ) → 128 < b
    → rest (v % 256) 128 b ≡ cond (ltb (v % 256) 128) (v % 256 + (b - 128)) (v % 256 - 128)
unfolding rest
large v b l = rw (mod-eq_of_lt l) (go (v % 256) (omega arith) (ltb (v % 256) 128) refl)
  where
    go : (x : ℕ) → x ≤ 255 → (t : Bool) → ltb x 128 ≡ t → (x + (b - 128)) % b ≡ cond t (x + (b - 128)) (x - 128)
    go x h true e = mod-eq_of_lt (omega (arith, ltb-true x 128 e))
    go x h false e = divided (x + (b - 128)) b 1 (x - 128) (omega (arith, ltb-false x 128 e)) (omega arith)
