-- Whole numbers, as the ranges need them: an order between two is a natural distance, and a value in a range is its
-- lowest and a natural number below its size.
use Prim.Native.Nat.{ℕ, zero, suc, ◌+◌, ◌-◌, ◌<◌}
use native.Mathlib.Omega.{arith}
use mathlib.Core.Path.{◌≡◌, refl, sym, ap, ◌∙◌}
use mathlib.Core.Bool.{Bool, true, false, not, cond, true≢false, false≢true}
use mathlib.Core.Logic.{◌↔◌}
use lib.Dec.{ltb}
use lib.IntN.{ℤ, pos, negsuc, neg_ℤ, nat_abs, ◌+ℤ◌, ◌-ℤ◌, +ℤ_assoc, +ℤ_comm, +ℤ_invr, +ℤ_idl, +ℤ_idr, neg_ℤ-neg_ℤ}
use lib.IntN.{+ℤ-neg_ℤ_cancel, -ℤ-+ℤ_cancel, neg_ℤ-+ℤ}
use borrow.Author.Tests.{ltb-false, le-ltb, lt-ltb}
use Rattle.syntax.specs.Tree.{eq, Var}
use Rattle.meaning.specs.Value.{int_of, negative, less, compares, in_range}
use Rattle.meaning.specs.State.{size}
use Rattle.logic.proofs.Bools.{both, and, split, not_true, true_not}

-- what is added can be taken away again
back : (a x : ℤ) → (a +ℤ x) -ℤ a ≡ x
back a x = ap (λ z. z -ℤ a) (+ℤ_comm a x) ∙ +ℤ-neg_ℤ_cancel x a

pub up_distance : (a : ℤ) (n : ℕ) → nat_abs ((a +ℤ pos n) -ℤ a) ≡ n
up_distance a n = ap nat_abs (back a (pos n))

-- a number is not less than another exactly where it lies some way up from it
pub not_less_up : (a : ℤ) (n : ℕ) → less (a +ℤ pos n) a ≡ false
unfolding less negative
not_less_up a n = ap negative (back a (pos n))

natural : (k : ℤ) → negative k ≡ false → k ≡ pos (nat_abs k)
unfolding negative
natural (pos n) h = refl
natural (negsuc n) h = absurd (true≢false h)

pub up_of_not_less : (a b : ℤ) → less b a ≡ false → b ≡ a +ℤ pos (nat_abs (b -ℤ a))
unfolding less
up_of_not_less a b h =
    sym (-ℤ-+ℤ_cancel b a) ∙ +ℤ_comm (b -ℤ a) a ∙ ap (λ z. a +ℤ z) (natural (b -ℤ a) h)

pub not_less_trans : (a b c : ℤ) → less b a ≡ false → less c b ≡ false → less c a ≡ false
not_less_trans a b c h k =
    let m = nat_abs (b -ℤ a) in
    let n = nat_abs (c -ℤ b) in
    let up : c ≡ a +ℤ pos (m + n) =
    up_of_not_less b c k ∙ ap (λ z. z +ℤ pos n) (up_of_not_less a b h) ∙ +ℤ_assoc a (pos m) (pos n) in
    rw up (not_less_up a (m + n))

-- two numbers some way up from a third differ as the ways do
differ : (a x y : ℤ) → (a +ℤ x) -ℤ (a +ℤ y) ≡ x -ℤ y
differ a x y =
    ap (λ z. (a +ℤ x) +ℤ z) (neg_ℤ-+ℤ a y) ∙ sym (+ℤ_assoc (a +ℤ x) (neg_ℤ a) (neg_ℤ y)) ∙ ap (λ z. z -ℤ y) (back a x)

negative_cond : (c : Bool) (m n : ℕ) → negative (cond c (negsuc m) (pos n)) ≡ c
unfolding negative
negative_cond true m n = refl
negative_cond false m n = refl

pub negative_difference : (m n : ℕ) → negative (pos m -ℤ pos n) ≡ ltb m n
unfolding negative
negative_difference m zero = sym (le-ltb m zero (omega arith))
negative_difference m (suc n) = negative_cond (ltb m (suc n)) (suc n - suc m) (m - suc n)

up_less : (a : ℤ) (m n : ℕ) → less (a +ℤ pos m) (a +ℤ pos n) ≡ ltb m n
unfolding less
up_less a m n = ap negative (differ a (pos m) (pos n)) ∙ negative_difference m n

-- What the comparisons say

-- the way from a number to another is the difference the other way round, turned
turned : (a b : ℤ) → b ≡ a +ℤ neg_ℤ (a -ℤ b)
turned a b =
    sym (ap (λ z. a +ℤ z) (neg_ℤ-+ℤ a (neg_ℤ b) ∙ ap (λ z. neg_ℤ a +ℤ z) (neg_ℤ-neg_ℤ b))
    ∙ sym (+ℤ_assoc a (neg_ℤ a) b) ∙ ap (λ z. z +ℤ b) (+ℤ_invr a) ∙ +ℤ_idl b)

turned_negative : (k : ℤ) → negative k ≡ true → (n : ℕ) × (neg_ℤ k ≡ pos (suc n))
unfolding negative
turned_negative (pos n) h = absurd (false≢true h)
turned_negative (negsuc n) h = (n, refl)

less_up : (a : ℤ) (n : ℕ) → less a (a +ℤ pos n) ≡ ltb 0 n
less_up a n = ap (λ z. less z (a +ℤ pos n)) (sym (+ℤ_idr a)) ∙ up_less a 0 n

pub less_iff : (a b : ℤ) → (less a b ≡ true) ↔ ((n : ℕ) × (b ≡ a +ℤ pos (suc n)))
unfolding less
less_iff a b = (
  λ h. let t = turned_negative (a -ℤ b) h in (t.0, turned a b ∙ ap (λ z. a +ℤ z) t.1),
  λ t. ap (less a) t.1 ∙ less_up a (suc t.0) ∙ lt-ltb 0 (suc t.0) (omega arith),
)

pub not_less_iff : (a b : ℤ) → (less b a ≡ false) ↔ ((n : ℕ) × (b ≡ a +ℤ pos n))
not_less_iff a b =
    (λ h. (nat_abs (b -ℤ a), up_of_not_less a b h), λ t. ap (λ z. less z a) t.1 ∙ not_less_up a t.0)

pub equal_of_not_less : (a b : ℤ) → less a b ≡ false → less b a ≡ false → a ≡ b
equal_of_not_less a b h k =
    let n = nat_abs (b -ℤ a) in
    let up : b ≡ a +ℤ pos n = up_of_not_less a b k in
    let none = ltb-false 0 n (sym (less_up a n) ∙ ap (less a) (sym up) ∙ h) in
    let zeros : n ≡ 0 = omega arith in
    sym (up ∙ ap (λ (i : ℕ). a +ℤ pos i) zeros ∙ +ℤ_idr a)

pub not_less_self : (a : ℤ) → less a a ≡ false
not_less_self a = ap (λ z. less z a) (sym (+ℤ_idr a)) ∙ not_less_up a 0

pub compares_eq_iff : (a b : ℤ) → (compares eq a b ≡ true) ↔ (a ≡ b)
unfolding compares
compares_eq_iff a b = (
  λ h. split (less a b) (λ p. absurd (false≢true (rw p at h)))
      (λ p. split (less b a) (λ q. absurd (false≢true (rw (p, q) at h))) (λ q. equal_of_not_less a b p q)),
  λ e. rw (e, not_less_self b),
)

-- A range with its bounds in order

module _ (v : Var) (ordered : less (int_of v.high) (int_of v.low) ≡ false) where
  -- of a value some way up from the lowest, the test against the highest is one against the size
  below_high : (n : ℕ) → less (int_of v.high) (int_of v.low +ℤ pos n)
      ≡ ltb (nat_abs (int_of v.high -ℤ int_of v.low)) n
  below_high n =
      ap (λ z. less z (int_of v.low +ℤ pos n)) (up_of_not_less (int_of v.low) (int_of v.high) ordered)
      ∙ up_less (int_of v.low) (nat_abs (int_of v.high -ℤ int_of v.low)) n

  pub in_range_up : (n : ℕ) → n < size v → in_range v (int_of v.low +ℤ pos n) ≡ true
  unfolding in_range size
  in_range_up n h =
      and (true_not (not_less_up (int_of v.low) n))
      (true_not (below_high n ∙ le-ltb (nat_abs (int_of v.high -ℤ int_of v.low)) n (omega arith)))

  -- the two tests of a range
  within : (a : ℤ) → in_range v a ≡ true → (less a (int_of v.low) ≡ false) × (less (int_of v.high) a ≡ false)
  unfolding in_range
  within a h =
      let t = both (not (less a (int_of v.low))) (not (less (int_of v.high) a)) h in
      (not_true t.0, not_true t.1)

  pub up_of_in_range : (a : ℤ) → in_range v a ≡ true → a ≡ int_of v.low +ℤ pos (nat_abs (a -ℤ int_of v.low))
  up_of_in_range a h = up_of_not_less (int_of v.low) a (within a h).0

  pub distance_in_range : (a : ℤ) → in_range v a ≡ true → nat_abs (a -ℤ int_of v.low) < size v
  unfolding size
  distance_in_range a h =
      let n = nat_abs (a -ℤ int_of v.low) in
      let fits = ltb-false (nat_abs (int_of v.high -ℤ int_of v.low)) n
      (sym (below_high n) ∙ ap (less (int_of v.high)) (sym (up_of_in_range a h)) ∙ (within a h).1) in
      omega arith

  -- of two values in the range the distances from the lowest are ordered as they are
  pub distances_ordered : (a b : ℤ) → in_range v a ≡ true → in_range v b ≡ true
      → less a b ≡ ltb (nat_abs (a -ℤ int_of v.low)) (nat_abs (b -ℤ int_of v.low))
  distances_ordered a b h k =
      let i = nat_abs (a -ℤ int_of v.low) in
      let j = nat_abs (b -ℤ int_of v.low) in
      ap (λ z. less z b) (up_of_in_range a h) ∙ ap (less (int_of v.low +ℤ pos i)) (up_of_in_range b k)
      ∙ up_less (int_of v.low) i j

  -- a value is in a range exactly where it is the lowest and a number below the size
  pub in_range_iff : (a : ℤ) → (in_range v a ≡ true) ↔ ((n : ℕ) × (n < size v) × (a ≡ int_of v.low +ℤ pos n))
  in_range_iff a = (
    λ h. (nat_abs (a -ℤ int_of v.low), distance_in_range a h, up_of_in_range a h),
    λ t. ap (in_range v) t.2 ∙ in_range_up t.0 t.1,
  )
