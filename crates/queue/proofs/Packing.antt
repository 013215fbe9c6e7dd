-- A queue in one number: that shifting by four bits a thread joins, leaves and goes behind as `Packed` says digit by digit.
-- By induction over the place, where 2 ^ (k * 4) stands for itself.
use Prim.Native.Nat.{ℕ, zero, suc, ◌+◌, ◌-◌, ◌*◌, ◌/◌, ◌%◌, ◌^◌, ◌≤◌, ◌<◌}
use native.Mathlib.Nat.{div-one, mul-one, mul_comm, mul_assoc, div-mul-le_self, mod-eq_of_lt, mul-le-mul_right}
use native.Mathlib.Nat.{div-le_self, lt-div-mul-add, lt_of_le_of_lt, le_trans}
use native.Mathlib.Omega.{arith}
use mathlib.Core.Path.{◌≡◌, sym, ap, ap₂, ◌∙◌}
use lib.Pow.{pow-add, pow_pos, pow_mono, shr-shr}
use Rattle.queue.specs.Packed.{behind_of, joined_to, left_by}

-- one digit of 16 more
unit : (k : ℕ) → 2 ^ (suc k * 4) ≡ 16 * 2 ^ (k * 4)
unit k = ap (λ (n : ℕ). 2 ^ n) (omega arith) ∙ pow-add 2 4 (k * 4)

shift : (n k : ℕ) → n / 2 ^ (suc k * 4) ≡ n / 16 / 2 ^ (k * 4)
shift n k = ap (λ (x : ℕ). n / 2 ^ x) (omega arith) ∙ sym (shr-shr n 4 (k * 4))

swap : (a p : ℕ) → a * (16 * p) ≡ 16 * (a * p)
swap a p = sym (mul_assoc a 16 p) ∙ ap (λ (x : ℕ). x * p) (mul_comm a 16) ∙ mul_assoc 16 a p

pub behind_is : (n k : ℕ) → n / 2 ^ (k * 4) ≡ behind_of n k
unfolding behind_of
behind_is n zero = div-one n
behind_is n (suc k) = shift n k ∙ behind_is (n / 16) k

-- what stands below 2 ^ (k * 4), and x in its place and above
abbrev replaced : ℕ → ℕ → ℕ → ℕ
replaced n k x = n - n / 2 ^ (k * 4) * 2 ^ (k * 4) + x * 2 ^ (k * 4)

replaced_next : (n k x : ℕ) → replaced n (suc k) x ≡ n % 16 + 16 * replaced (n / 16) k x
replaced_next n k x =
    let p = 2 ^ (k * 4) in
    let a = n / 16 / p in
    let e : n / 2 ^ (suc k * 4) * 2 ^ (suc k * 4) ≡ 16 * (a * p) =
    ap₂ (λ (y z : ℕ). y * z) (shift n k) (unit k) ∙ swap a p in
    let d : x * 2 ^ (suc k * 4) ≡ 16 * (x * p) = ap (λ (z : ℕ). x * z) (unit k) ∙ swap x p in
    let low : a * p ≤ n / 16 = div-mul-le_self (n / 16) p in
    ap₂ (λ (y z : ℕ). n - y + z) e d ∙ omega arith

pub joined_is : (n k t : ℕ) → replaced n k t ≡ joined_to n k t
unfolding joined_to
joined_is n zero t =
    let e : n / 2 ^ 0 * 2 ^ 0 ≡ n = mul-one (n / 1) ∙ div-one n in
    let d : t * 2 ^ 0 ≡ t = mul-one t in omega arith
joined_is n (suc k) t = replaced_next n k t ∙ ap (λ (x : ℕ). n % 16 + 16 * x) (joined_is (n / 16) k t)

pub left_is : (n k : ℕ) → replaced n k (n / 2 ^ (k * 4) / 16) ≡ left_by n k
unfolding left_by
left_is n zero =
    let e : n / 2 ^ 0 * 2 ^ 0 ≡ n = mul-one (n / 1) ∙ div-one n in
    let d : n / 2 ^ 0 / 16 * 2 ^ 0 ≡ n / 16 = mul-one (n / 1 / 16) ∙ ap (λ (x : ℕ). x / 16) (div-one n) in omega arith
left_is n (suc k) =
    ap (λ (x : ℕ). replaced n (suc k) (x / 16)) (shift n k)
    ∙ replaced_next n k (n / 16 / 2 ^ (k * 4) / 16) ∙ ap (λ (x : ℕ). n % 16 + 16 * x) (left_is (n / 16) k)

-- In sixty-four bits nothing is lost

module _ (n : ℕ) (small : n < 2 ^ 64) (p : ℕ) where
  pub back_fits : (n / p * p) % 2 ^ 64 ≡ n / p * p
  back_fits = mod-eq_of_lt (lt_of_le_of_lt (div-mul-le_self n p) small)

  closed : n / p / 16 * p ≤ n / p * p
  closed = mul-le-mul_right p (div-le_self (n / p) 16)

  pub closed_fits : (n / p / 16 * p) % 2 ^ 64 ≡ n / p / 16 * p
  closed_fits = mod-eq_of_lt (lt_of_le_of_lt (le_trans closed (div-mul-le_self n p)) small)

  pub left_fits : n - n / p * p + n / p / 16 * p ≤ n
  left_fits = let a = closed in let b = div-mul-le_self n p in omega arith

module _ (n k t : ℕ) (few : k < 16) (thread : t < 16) where
  -- sixteen times the unit is within sixty-four bits
  room : 16 * 2 ^ (k * 4) ≤ 2 ^ 64
  room = let e = unit k in let h : 2 ^ (suc k * 4) ≤ 2 ^ 64 = pow_mono {i = suc k * 4} {j = 64} (omega arith) in omega arith

  above : t * 2 ^ (k * 4) ≤ 15 * 2 ^ (k * 4)
  above = mul-le-mul_right (2 ^ (k * 4)) (omega arith)

  pub thread_fits : (t * 2 ^ (k * 4)) % 2 ^ 64 ≡ t * 2 ^ (k * 4)
  thread_fits = let a = above in let r = room in let p = pow_pos (k * 4) in mod-eq_of_lt (omega arith)

  pub joined_fits : n - n / 2 ^ (k * 4) * 2 ^ (k * 4) + t * 2 ^ (k * 4) < 2 ^ 64
  joined_fits =
      let a = above in
      let r = room in
      let b : n < n / 2 ^ (k * 4) * 2 ^ (k * 4) + 2 ^ (k * 4) = lt-div-mul-add (pow_pos (k * 4)) in
      let c = div-mul-le_self n (2 ^ (k * 4)) in
      omega arith
