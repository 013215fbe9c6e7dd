-- Adding to a state's number, by its digits: what goes over from the variables behind one is added to its digit, and
-- what that makes past its size goes over to those before it.
use Prim.Native.Nat.{ℕ, zero, suc, ◌+◌, ◌-◌, ◌*◌, ◌/◌, ◌%◌, ◌≤◌, ◌<◌}
use native.Mathlib.Omega.{arith}
use native.Mathlib.Nat.{dvd-mul_left, mod-mod_of_dvd, mod-add-mod, div-add-mod'}
use native.Mathlib.Nat.{mul_assoc, suc-mul, mul-add-div_right, mul-pos, mod-lt, div-lt_iff_lt-mul}
use borrow.Author.Tests.{ltb-true, ltb-false}
use mathlib.Core.Path.{◌≡◌, sym, ap, ◌∙◌}
use mathlib.Core.List.{List, ◌∷◌}
use lib.Dec.{ltb}
use lib.Arith.{digits_div, digits_mod}
use lib.ListN.{length, drop}
use Rattle.syntax.specs.Tree.{Var}
use Rattle.logic.proofs.Bools.{split, split_eq}
use Rattle.meaning.specs.State.{size, count}
use Rattle.meaning.proofs.StateLaws.{size_pos, count_pos}
use Rattle.meaning.proofs.SixteenBits.{count_at, digit, digit_less}
use Rattle.logic.proofs.Indices.{at_index}
use Rattle.lanes.specs.Adding.{Settled, Carried}

-- One digit

module _ (s c n : ℕ) (s_pos : 0 < s) (c_pos : 0 < c) where
  -- a digit and what is added to it are a digit and what goes over
  pub digit_sum : (m : ℕ) → n % (s * c) / c + (n % c + m) / c ≡ (n % (s * c) + m) / (s * c) * s + (n + m) % (s * c) / c
  digit_sum m =
      let w = s * c in
      let r = n % w in
      let lower : r % c ≡ n % c = mod-mod_of_dvd c n (dvd-mul_left c s) in
      let parts : r + m ≡ r / c * c + (n % c + m) = omega (arith, div-add-mod' r c, lower) in
      let whole : (r + m) % w ≡ (n + m) % w = mod-add-mod n w m in
      let again : r + m ≡ (r + m) / w * s * c + (n + m) % w =
      omega (arith, div-add-mod' (r + m) w, whole, mul_assoc ((r + m) / w) s c) in
      sym (mul-add-div_right c_pos (r / c) (n % c + m)) ∙ ap (λ (x : ℕ). x / c) (sym parts ∙ again)
      ∙ mul-add-div_right c_pos ((r + m) / w * s) ((n + m) % w)

  pub digit_below : n % (s * c) / c < s
  digit_below = (div-lt_iff_lt-mul c_pos).1 (mod-lt n (mul-pos s_pos c_pos))

-- a number has one quotient and one remainder
pub one_quotient : (s q r q' r' : ℕ) → q * s + r ≡ q' * s + r' → r < s → r' < s → q ≡ q'
one_quotient s q r q' r' e h h' = sym (digits_div q h) ∙ ap (λ (x : ℕ). x / s) e ∙ digits_div q' h'

pub one_remainder : (s q r q' r' : ℕ) → q * s + r ≡ q' * s + r' → r < s → r' < s → r ≡ r'
one_remainder s q r q' r' e h h' = sym (digits_mod q h) ∙ ap (λ (x : ℕ). x % s) e ∙ digits_mod q' h'

-- The digits of a state's number

-- what goes over from the variables from one on, where m is added
abbrev pub over : List Var → ℕ → ℕ → ℕ → ℕ
over vs n m k = (n % count (drop k vs) + m) / count (drop k vs)

module _ (vs : List Var) (n k : ℕ) (v : Var) (e : drop k vs ≡ v ∷ drop (suc k) vs) where
  -- with m added, the digit of a variable and what goes over from it
  pub digits_sum : (m : ℕ) → digit vs n k + over vs n m (suc k) ≡ over vs n m k * size v + digit vs (n + m) k
  digits_sum m =
      rw (count_at vs k v e) (digit_sum (size v) (count (drop (suc k) vs)) n (size_pos v) (count_pos (drop (suc k) vs)) m)

-- where nothing goes over, the variables before keep their digits
pub digits_kept : (vs : List Var) (n m k : ℕ) → k ≤ length vs → over vs n m k ≡ 0 → (u : ℕ) → u < k
    → digit vs (n + m) u ≡ digit vs n u
digits_kept vs n m zero l none u h = absurd (omega arith)
digits_kept vs n m (suc k) l none u h =
    let i = at_index vs k (omega arith) in
    let s = size i.0 in
    let sum = digits_sum vs n k i.0 i.2 m in
    let old = digit_less vs n k i.0 i.2 in
    let new = digit_less vs (n + m) k i.0 i.2 in
    let e : 0 * s + digit vs n k ≡ over vs n m k * s + digit vs (n + m) k = omega arith in
    split_eq u k
    (λ same. rw same (sym (one_remainder s 0 (digit vs n k) (over vs n m k) (digit vs (n + m) k) e old new)))
    (λ differ. digits_kept vs n m k (omega arith)
    (sym (one_quotient s 0 (digit vs n k) (over vs n m k) (digit vs (n + m) k) e old new)) u (omega arith))

-- a value to which something is added, and what goes over from it
pub settle_digit : (s low high x rest c here before sum v c' q d : ℕ) → low + s ≡ high + 1 → x < s → c ≤ 1
    → rest ≡ before * s + here → here < s → sum ≡ low + x + here + c
    → x + (rest + c) ≡ q * s + d → d < s
    → Settled sum high s v → Carried sum high c' → (v ≡ low + d) × (before + c' ≡ q)
settle_digit s low high x rest c here before sum v c' q d range x_less one whole here_less is total d_less settled
    carried =
    split (ltb high sum)
    (λ t. let past = ltb-true high sum t in
    let y = x + here + c - s in
    let over : suc before * s + y ≡ q * s + d = omega (arith, suc-mul before s) in
    let same = one_remainder s (suc before) y q d over (omega arith) d_less in
    let carry = one_quotient s (suc before) y q d over (omega arith) d_less in
    (omega (arith, settled.past past), omega (arith, carried.past past)))
    (λ t. let within = ltb-false high sum t in
    let y = x + here + c in
    let over : before * s + y ≡ q * s + d = omega arith in
    let same = one_remainder s before y q d over (omega arith) d_less in
    let carry = one_quotient s before y q d over (omega arith) d_less in
    (omega (arith, settled.within within), omega (arith, carried.within within)))
