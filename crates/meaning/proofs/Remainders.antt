-- Remainders: the computed one is the one in words, which is therefore the only one, and there is none exactly with a
-- divisor below 1. By the sign of the left side and of the multiple.
use Prim.Native.Nat.{ℕ, zero, suc, ◌+◌, ◌*◌, ◌-◌, ◌/◌, ◌%◌, ◌<◌}
use native.Mathlib.Omega.{arith}
use native.Mathlib.Nat.{div-add-mod', mod-lt, mul-add-mod_self_right, mod-eq_of_lt, suc-mul}
use mathlib.Core.Path.{◌≡◌, refl, sym, ap, ◌∙◌}
use mathlib.Core.Bool.{true, false}
use mathlib.Core.Logic.{◌↔◌}
use mathlib.Core.Option.{none, some, some-injective}
use lib.Dec.{ltb}
use lib.IntN.{ℤ, pos, negsuc, neg_ℤ, ◌+ℤ◌, ◌-ℤ◌, ◌*ℤ◌, +ℤ_assoc, +ℤ_idl, +ℤ_invr, neg_ℤ-+ℤ, pos-+ℤ-pos, pos-*ℤ-pos}
use lib.IntN.{negsuc-*ℤ-pos}
use borrow.Author.Tests.{lt-ltb, le-ltb}
use Rattle.meaning.specs.Value.{less, negative, IsRemainder, remainder_by, modulo}
use Rattle.logic.proofs.Bools.{no_some, clash}
use Rattle.meaning.proofs.Integers.{negative_difference, less_iff, not_less_iff}

pub less_pos : (m n : ℕ) → less (pos m) (pos n) ≡ ltb m n
unfolding less
less_pos m n = negative_difference m n

-- a difference below 0
below_zero : (x y k : ℕ) → y ≡ x + suc k → pos x -ℤ pos y ≡ negsuc k
below_zero x y k e =
    ap (λ (i : ℕ). pos x -ℤ pos i) e ∙ ap (λ z. pos x -ℤ z) (sym (pos-+ℤ-pos x (suc k)))
    ∙ ap (λ z. pos x +ℤ z) (neg_ℤ-+ℤ (pos x) (pos (suc k))) ∙ sym (+ℤ_assoc (pos x) (neg_ℤ (pos x)) (negsuc k))
    ∙ ap (λ z. z +ℤ negsuc k) (+ℤ_invr (pos x)) ∙ +ℤ_idl (negsuc k)

-- some times a divisor
some_times : (m s : ℕ) (x : ℕ) → pos x +ℤ pos m *ℤ pos s ≡ pos (x + m * s)
some_times m s x = ap (λ z. pos x +ℤ z) (pos-*ℤ-pos m s) ∙ pos-+ℤ-pos x (m * s)

less_times : (m s x k : ℕ) → m * s + s ≡ x + suc k → pos x +ℤ negsuc m *ℤ pos s ≡ negsuc k
less_times m s x k e =
    ap (λ z. pos x +ℤ z) (negsuc-*ℤ-pos m s) ∙ below_zero x (suc m * s) k (suc-mul m s ∙ e)

-- the computed remainder is one
pub is_remainder : (n : ℕ) (a : ℤ) → IsRemainder a (pos (suc n)) (pos (remainder_by n a))
unfolding remainder_by
is_remainder n (pos k) =
    let low : k % suc n < suc n = mod-lt k (omega arith) in
    record {
      least = less_pos (k % suc n) 0 ∙ le-ltb (k % suc n) 0 (omega arith);
      most = less_pos (k % suc n) (suc n) ∙ lt-ltb (k % suc n) (suc n) low;
      multiple = pos (k / suc n);
      differs =
          let whole : k ≡ k % suc n + k / suc n * suc n = omega (arith, div-add-mod' k (suc n)) in
          ap pos whole ∙ sym (some_times (k / suc n) (suc n) (k % suc n));
    }
is_remainder n (negsuc k) =
    let low : k % suc n < suc n = mod-lt k (omega arith) in
    record {
      least = less_pos (n - k % suc n) 0 ∙ le-ltb (n - k % suc n) 0 (omega arith);
      most = less_pos (n - k % suc n) (suc n) ∙ lt-ltb (n - k % suc n) (suc n) (omega arith);
      multiple = negsuc (k / suc n);
      differs = sym (less_times (k / suc n) (suc n) (n - k % suc n) k (omega (arith, div-add-mod' k (suc n))));
    }

-- of a number that is below the divisor, some times it away
of_multiple : (n i : ℕ) → i < suc n → (q : ℤ) → remainder_by n (pos i +ℤ q *ℤ pos (suc n)) ≡ i
unfolding remainder_by
of_multiple n i h (pos m) =
    ap (remainder_by n) (some_times m (suc n) i)
    ∙ ap (λ (x : ℕ). x % suc n) (let e : i + m * suc n ≡ m * suc n + i = omega arith in e)
    ∙ mul-add-mod_self_right m (suc n) i ∙ mod-eq_of_lt h
of_multiple n i h (negsuc m) =
    let k = m * suc n + (n - i) in
    let rest : k % suc n ≡ n - i = mul-add-mod_self_right m (suc n) (n - i) ∙ mod-eq_of_lt (omega arith) in
    ap (remainder_by n) (less_times m (suc n) i k (omega arith)) ∙ omega (arith, rest)

-- a number that is none below 0
natural : (r : ℤ) → less r (pos 0) ≡ false → (i : ℕ) × (r ≡ pos i)
natural r h = let t = (not_less_iff (pos 0) r).0 h in (t.0, t.1 ∙ +ℤ_idl (pos t.0))

-- the one in words is computed
pub of_remainder : (a b r : ℤ) → IsRemainder a b r → modulo a b ≡ some r
unfolding modulo
of_remainder a b r w =
    let (i, is) = natural r w.least in
    let (j, above) = (less_iff r b).0 w.most in
    let n = i + j in
    let divisor : b ≡ pos (suc n) =
    above ∙ ap (λ z. z +ℤ pos (suc j)) is ∙ pos-+ℤ-pos i (suc j) ∙ ap pos (let e : i + suc j ≡ suc n = omega arith in e) in
    let left : a ≡ pos i +ℤ w.multiple *ℤ pos (suc n) =
    w.differs ∙ ap (λ z. z +ℤ w.multiple *ℤ b) is ∙ ap (λ z. pos i +ℤ w.multiple *ℤ z) divisor in
    ap (modulo a) divisor
    ∙ ap (λ (k : ℕ). some (pos k)) (ap (remainder_by n) left ∙ of_multiple n i (omega arith) w.multiple) ∙ ap some (sym is)

-- the value of a remainder is the one in words (R 4.21) ..
pub modulo_iff : (a b r : ℤ) → (modulo a b ≡ some r) ↔ IsRemainder a b r
unfolding modulo
modulo_iff a b r = (is a b, of_remainder a b r)
  where
    is : (a b : ℤ) → modulo a b ≡ some r → IsRemainder a b r
    is a (pos zero) e = no_some e
    is a (pos (suc n)) e = rw (← (some-injective _ _ e)) (is_remainder n a)
    is a (negsuc n) e = no_some e

-- .. so there is no second one
pub one_remainder : (a b r s : ℤ) → IsRemainder a b r → IsRemainder a b s → r ≡ s
one_remainder a b r s v w = some-injective _ _ (sym (of_remainder a b r v) ∙ of_remainder a b s w)

-- it lacks exactly with a divisor below 1 (R 4.22)
pub modulo_none : (a b : ℤ) → (modulo a b ≡ none) ↔ (less b (pos 1) ≡ true)
unfolding modulo less negative
modulo_none a (pos zero) = ((λ e. less_pos 0 1 ∙ lt-ltb 0 1 (omega arith)), λ h. refl)
modulo_none a (pos (suc n)) =
    ((λ e. no_some (sym e)), λ h. clash h (less_pos (suc n) 1 ∙ le-ltb (suc n) 1 (omega arith)))
modulo_none a (negsuc n) = ((λ e. refl), λ h. refl)
