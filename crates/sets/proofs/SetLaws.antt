-- Laws of sets held as numbers: the members of a meet, a join, a difference, a single bit, all bits; how many; the
-- lowest; and that a set below 2 ^ 16 is known by its members. By the digits of a number, lowest first.
use Prim.Native.Nat.{ℕ, zero, suc, ◌+◌, ◌-◌, ◌*◌, ◌/◌, ◌%◌, ◌^◌, ◌≤◌, ◌<◌, min, max}
use mathlib.Core.Path.{◌≡◌, refl, sym, ap, ap₂, ◌∙◌}
use mathlib.Core.Bool.{Bool, true, false, not, ◌&&◌, ◌||◌, xor, or_comm, and-true, false≢true}
use native.Mathlib.Nat.{zero-add, one-mul, mod-one, mod-lt, div-one, div-eq_of_lt, zero-div, pow-suc, mul-div_cancel}
use native.Mathlib.Nat.{mul-mod_left, mod-eq_of_lt, lt_of_lt_of_le, zero-lt-suc}
use native.Mathlib.Numerals.{one-add}
use native.Mathlib.Decide.{dec_lt}
use native.Mathlib.Omega.{arith}
use lib.Dec.{eqb, ltb, eqb-zero-suc, eqb-suc-zero, eqb-suc-suc, lit<}
use lib.Arith.{digits_mod, lt-one}
use lib.Pow.{shl_exact, pow_pos, pow_mono, shr-shr, mod-pow-add}
use lib.Bits.{bit_and, bit_or, bit_xor, differ, and_shr, or_shr, xor_shr, and_step, or_step, xor_step}
use lib.Count.{ones, ones_cat, count_trailing_zeros, under}
use borrow.Author.Tests.{eqb-true, eqb-false, eq-eqb, ne_eqb, lt-ltb, le-ltb}
use Rattle.sets.specs.Set.{member, size}

pub eqb_sym : (a b : ℕ) → eqb a b ≡ eqb b a
eqb_sym a b = go (eqb b a) refl
  where
    go : (t : Bool) → eqb b a ≡ t → eqb a b ≡ t
    go true e = eq-eqb a b (sym (eqb-true b a e))
    go false e = ne_eqb a b (λ q. eqb-false b a e (sym q))

-- ---- one digit

digit_lt : (n : ℕ) → n % 2 < 2
digit_lt n = mod-lt n (zero-lt-suc 1)

-- a test of two digits, where it is so at each of the four pairs
by_digits : (P : ℕ → ℕ → Type 0) → P 0 0 → P 0 1 → P 1 0 → P 1 1 → (x y : ℕ) → x < 2 → y < 2 → P x y
by_digits P a b c d zero zero h k = a
by_digits P a b c d zero (suc zero) h k = b
by_digits P a b c d (suc zero) zero h k = c
by_digits P a b c d (suc zero) (suc zero) h k = d
by_digits P a b c d zero (suc (suc y)) h k = absurd (omega arith)
by_digits P a b c d (suc zero) (suc (suc y)) h k = absurd (omega arith)
by_digits P a b c d (suc (suc x)) y h k = absurd (omega arith)

-- An operation on numbers that goes digit by digit is the test's on members: `op` is the operation, `f` its digit, `g`
-- the test.
module _ (op f : ℕ → ℕ → ℕ) (g : Bool → Bool → Bool)
    (shr : (a b k : ℕ) → op a b / 2 ^ k ≡ op (a / 2 ^ k) (b / 2 ^ k))
    (step : (a b : ℕ) → op a b ≡ op (a / 2) (b / 2) * 2 + f (a % 2) (b % 2))
    (below : (x y : ℕ) → x < 2 → y < 2 → f x y < 2)
    (test : (x y : ℕ) → x < 2 → y < 2 → eqb (f x y) 1 ≡ g (eqb x 1) (eqb y 1)) where
  member_op : (a b u : ℕ) → member (op a b) u ≡ g (member a u) (member b u)
  unfolding member
  member_op a b u =
      let x = a / 2 ^ u in
      let y = b / 2 ^ u in
      let d : op x y % 2 ≡ f (x % 2) (y % 2) =
      ap (λ (n : ℕ). n % 2) (step x y) ∙ digits_mod (op (x / 2) (y / 2))
      (below (x % 2) (y % 2) (digit_lt x) (digit_lt y)) in
      ap (λ (n : ℕ). eqb (n % 2) 1) (shr a b u) ∙ ap (λ (n : ℕ). eqb n 1) d ∙ test (x % 2) (y % 2) (digit_lt x)
      (digit_lt y)

pub member_and : (a b u : ℕ) → member (bit_and a b) u ≡ member a u && member b u
member_and =
    member_op bit_and min (λ a b. a && b) and_shr and_step
    (by_digits (λ x y. min x y < 2) (lit< tt) (lit< tt) (lit< tt) (lit< tt))
    (by_digits (λ x y. eqb (min x y) 1 ≡ eqb x 1 && eqb y 1) refl refl refl refl)

pub member_or : (a b u : ℕ) → member (bit_or a b) u ≡ member a u || member b u
member_or =
    member_op bit_or max (λ a b. a || b) or_shr or_step
    (by_digits (λ x y. max x y < 2) (lit< tt) (lit< tt) (lit< tt) (lit< tt))
    (by_digits (λ x y. eqb (max x y) 1 ≡ eqb x 1 || eqb y 1) refl refl refl refl)

pub member_xor : (a b u : ℕ) → member (bit_xor a b) u ≡ xor (member a u) (member b u)
unfolding xor
member_xor =
    member_op bit_xor differ xor xor_shr xor_step (by_digits (λ x y. differ x y < 2) (lit< tt) (lit< tt) (lit< tt)
    (lit< tt))
    (by_digits (λ x y. eqb (differ x y) 1 ≡ xor (eqb x 1) (eqb y 1)) refl refl refl refl)

-- ---- members by halves

pub member_zero : (s : ℕ) → member s 0 ≡ eqb (s % 2) 1
unfolding member
member_zero s = ap (λ (n : ℕ). eqb (n % 2) 1) (div-one s)

pub member_suc : (s u : ℕ) → member s (suc u) ≡ member (s / 2) u
unfolding member
member_suc s u = ap (λ (n : ℕ). eqb (n % 2) 1) (ap (λ (k : ℕ). s / 2 ^ k) (sym (one-add u)) ∙ sym (shr-shr s 1 u))

-- "the empty set has no member"
pub member_none : (u : ℕ) → member 0 u ≡ false
unfolding member
member_none u = ap (λ (n : ℕ). eqb (n % 2) 1) (zero-div (2 ^ u))

-- a number below 2 ^ k has no member from k on
pub member_past : (k s u : ℕ) → s < 2 ^ k → k ≤ u → member s u ≡ false
unfolding member
member_past k s u h l = ap (λ (n : ℕ). eqb (n % 2) 1) (div-eq_of_lt (lt_of_lt_of_le h (pow_mono l)))

-- the set of one thread
pub member_one : (t u : ℕ) → member (2 ^ t) u ≡ eqb u t
member_one zero zero = member_zero 1
member_one zero (suc u) = member_suc 1 u ∙ member_none u ∙ sym (eqb-suc-zero u)
member_one (suc t) zero =
    member_zero (2 ^ suc t) ∙ ap (λ (n : ℕ). eqb n 1) (ap (λ (n : ℕ). n % 2) (pow-suc 2 t) ∙ mul-mod_left (2 ^ t) 2)
    ∙ sym (eqb-zero-suc t)
member_one (suc t) (suc u) =
    member_suc (2 ^ suc t) u
    ∙ ap (λ (n : ℕ). member n u) (ap (λ (n : ℕ). n / 2) (pow-suc 2 t) ∙ mul-div_cancel (2 ^ t) (zero-lt-suc 1))
    ∙ member_one t u ∙ sym (eqb-suc-suc u t)

-- all below k
pub member_full : (k u : ℕ) → u < k → member (2 ^ k - 1) u ≡ true
member_full zero u h = absurd (omega arith)
member_full (suc k) zero h =
    let p : 0 < 2 ^ k = pow_pos k in
    let e : 2 ^ suc k ≡ 2 ^ k * 2 = pow-suc 2 k in
    member_zero (2 ^ suc k - 1) ∙ eq-eqb ((2 ^ suc k - 1) % 2) 1 (omega arith)
member_full (suc k) (suc u) h =
    let p : 0 < 2 ^ k = pow_pos k in
    let e : 2 ^ suc k ≡ 2 ^ k * 2 = pow-suc 2 k in
    let half : (2 ^ suc k - 1) / 2 ≡ 2 ^ k - 1 = omega arith in
    member_suc (2 ^ suc k - 1) u ∙ rw half (member_full k u (omega arith))

-- ---- a set is known by its members

same_digit : (x y : ℕ) → x < 2 → y < 2 → eqb x 1 ≡ eqb y 1 → x ≡ y
same_digit =
    by_digits (λ x y. eqb x 1 ≡ eqb y 1 → x ≡ y) (λ e. refl) (λ e. eqb-true 0 1 e) (λ e. sym (eqb-true 0 1 (sym e)))
    (λ e. refl)

-- exactly those below k
pub member_lowest : (k u : ℕ) → member (2 ^ k - 1) u ≡ ltb u k
member_lowest k u = go (dec_lt u k)
  where
    go : Dec (u < k) → member (2 ^ k - 1) u ≡ ltb u k
    go (yes h) = member_full k u h ∙ sym (lt-ltb u k h)
    go (no h) =
        let p = pow_pos k in
        member_past k (2 ^ k - 1) u (omega arith) (omega arith) ∙ sym (le-ltb u k (omega arith))

pub same_members : (k a b : ℕ) → a < 2 ^ k → b < 2 ^ k → ((u : ℕ) → member a u ≡ member b u) → a ≡ b
same_members zero a b h l e = lt-one h ∙ sym (lt-one l)
same_members (suc k) a b h l e =
    let lower : a % 2 ≡ b % 2 =
    same_digit (a % 2) (b % 2) (digit_lt a) (digit_lt b) (sym (member_zero a) ∙ e 0 ∙ member_zero b) in
    let upper : a / 2 ≡ b / 2 =
    same_members k (a / 2) (b / 2) (omega arith) (omega arith) (λ u. sym (member_suc a u) ∙ e (suc u) ∙ member_suc b u)
    in
    omega arith

-- `size` looks at members alone
size_more : (a b n : ℕ) → member a n ≡ member b n → size a n ≡ size b n → size a (suc n) ≡ size b (suc n)
unfolding size
size_more a b n e d = ap₂ (λ (m : Bool) (r : ℕ). elim m [ true ↦ suc r | false ↦ r ]) e d

pub size_same : (a b n : ℕ) → ((u : ℕ) → u < n → member a u ≡ member b u) → size a n ≡ size b n
unfolding size
size_same a b zero e = refl
size_same a b (suc n) e = size_more a b n (e n (omega arith)) (size_same a b n (λ u h. e u (omega arith)))

-- ---- how many

one_more : (d r : ℕ) → d < 2 → elim (eqb d 1) [ true ↦ suc r | false ↦ r ] ≡ d + r
one_more zero r h = sym (zero-add r)
one_more (suc zero) r h = sym (one-add r)
one_more (suc (suc d)) r h = absurd (omega arith)

size_suc : (s n : ℕ) → size s (suc n) ≡ s / 2 ^ n % 2 + size s n
unfolding size member
size_suc s n = one_more (s / 2 ^ n % 2) (size s n) (digit_lt (s / 2 ^ n))

ones_digit : (d : ℕ) → d < 2 → ones d ≡ d
unfolding ones
ones_digit zero h = refl
ones_digit (suc zero) h = refl
ones_digit (suc (suc d)) h = absurd (omega arith)

-- the members below k are the ones of the k lowest digits
size_low : (k s : ℕ) → size s k ≡ ones (s % 2 ^ k)
unfolding size ones
size_low zero s = sym (ap ones (mod-one s))
size_low (suc k) s =
    let digit = s / 2 ^ k % 2 in
    size_suc s k
    ∙ ap₂ (λ (x y : ℕ). x + y) (sym (ones_digit digit (digit_lt (s / 2 ^ k)))) (size_low k s)
    ∙ sym (ones_cat k digit (s % 2 ^ k) (mod-lt s (pow_pos k)))
    ∙ ap ones (sym (mod-pow-add s 1 k) ∙ ap (λ (j : ℕ). s % 2 ^ j) (one-add k))

pub size_ones : (k s : ℕ) → s < 2 ^ k → size s k ≡ ones s
size_ones k s h = size_low k s ∙ ap ones (mod-eq_of_lt h)

-- ---- the lowest member

pub below_lowest : (k s u : ℕ) → u < count_trailing_zeros k s → member s u ≡ false
unfolding count_trailing_zeros
below_lowest zero s u h = absurd (omega arith)
below_lowest (suc k) s u h = go (below_lowest k (s / 2)) (s % 2) refl u h
  where
    go : ((u : ℕ) → u < count_trailing_zeros k (s / 2) → member (s / 2) u ≡ false)
        → (d : ℕ) → s % 2 ≡ d → (u : ℕ) → u < under d (count_trailing_zeros k (s / 2)) → member s u ≡ false
    go rest zero e zero l = member_zero s ∙ ap (λ (n : ℕ). eqb n 1) e
    go rest zero e (suc u) l = member_suc s u ∙ rest u (omega arith)
    go rest (suc d) e u l = absurd (omega arith)

pub at_lowest : (k s : ℕ) → count_trailing_zeros k s < k → member s (count_trailing_zeros k s) ≡ true
unfolding count_trailing_zeros
at_lowest zero s h = absurd (omega arith)
at_lowest (suc k) s h = go (at_lowest k (s / 2)) (s % 2) refl h
  where
    go : (count_trailing_zeros k (s / 2) < k → member (s / 2) (count_trailing_zeros k (s / 2)) ≡ true)
        → (d : ℕ) → s % 2 ≡ d → under d (count_trailing_zeros k (s / 2)) < suc k → member s (under d (count_trailing_zeros k (s / 2)))
        ≡ true
    go rest zero e l = member_suc s (count_trailing_zeros k (s / 2)) ∙ rest (omega arith)
    go rest (suc d) e l = member_zero s ∙ eq-eqb (s % 2) 1 (omega (arith, digit_lt s))

-- ---- a thread more, a thread less: the bit as the code makes it, `1 << t` at sixteen bits

pub bit_of : (t : ℕ) → t < 16 → 1 * 2 ^ t % 65536 ≡ 2 ^ t
bit_of t h = shl_exact {a = 1} 1 t 16 (lit< tt) (omega arith) ∙ one-mul (2 ^ t)

pub member_with : (s t u : ℕ) → t < 16 → member (bit_or s (1 * 2 ^ t % 65536)) u ≡ (eqb u t && ltb t 16) || member s u
member_with s t u h =
    ap (λ (n : ℕ). member (bit_or s n) u) (bit_of t h) ∙ member_or s (2 ^ t) u ∙ or_comm (member s u) (member (2 ^ t) u)
    ∙ ap (λ (b : Bool). b || member s u)
    (member_one t u ∙ sym (and-true (eqb u t)) ∙ ap (λ (b : Bool). eqb u t && b) (sym (lt-ltb t 16 h)))

pub member_within : (s t : ℕ) → s < 2 ^ 16 → member s t ≡ true → t < 16
member_within s t h e = below (dec_lt t 16)
  where
    below : Dec (t < 16) → t < 16
    below (yes l) = l
    below (no n) = absurd (false≢true (sym (member_past 16 s t h (omega arith)) ∙ e))

-- where t is a member, its bit is turned off
less : (b m : Bool) → (b ≡ true → m ≡ true) → xor m b ≡ not b && m
unfolding xor
less true true h = refl
less true false h = sym (h refl)
less false true h = refl
less false false h = refl

pub member_without : (s t u : ℕ) → t < 16 → member s t ≡ true → member (bit_xor s (1 * 2 ^ t % 65536)) u
    ≡ not (eqb u t) && member s u
member_without s t u h e =
    ap (λ (n : ℕ). member (bit_xor s n) u) (bit_of t h) ∙ member_xor s (2 ^ t) u
    ∙ ap (λ (b : Bool). xor (member s u) b) (member_one t u)
    ∙ less (eqb u t) (member s u) (λ q. ap (member s) (eqb-true u t q) ∙ e)

-- where t is none, nothing changes
kept : (b m : Bool) → (b ≡ true → m ≡ false) → m ≡ not b && m
kept true m h = h refl
kept false m h = refl

pub member_unchanged : (s t u : ℕ) → member s t ≡ false → member s u ≡ not (eqb u t) && member s u
member_unchanged s t u e = kept (eqb u t) (member s u) (λ q. ap (member s) (eqb-true u t q) ∙ e)
