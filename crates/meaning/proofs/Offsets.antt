-- Whole numbers held as natural ones, with a number added to each: order, distance and sums go over.
use Prim.Native.Nat.{ℕ, suc, ◌+◌, ◌-◌, ◌<◌, ◌≤◌}
use native.Mathlib.Omega.{arith}
use mathlib.Core.Path.{◌≡◌, sym, ap, ◌∙◌}
use mathlib.Core.Bool.{true, false}
use lib.Dec.{ltb}
use lib.IntN.{ℤ, pos, neg_ℤ, nat_abs, ◌+ℤ◌, ◌-ℤ◌, +ℤ_assoc, +ℤ_comm, +ℤ_invr, +ℤ_idl, +ℤ-neg_ℤ_cancel, -ℤ-+ℤ_cancel}
use lib.IntN.{neg_ℤ-+ℤ, pos-+ℤ-pos}
use borrow.Author.Tests.{ltb-true, ltb-false}
use Rattle.meaning.specs.Value.{less}
use Rattle.logic.proofs.Bools.{split, clash}
use Rattle.meaning.proofs.Integers.{up_distance, less_iff, not_less_iff}
use Rattle.meaning.specs.Held.{Shifted}

module _ {b : ℕ} {a : ℤ} {n : ℕ} (e : Shifted b a n) where
  up : (k : ℕ) → a +ℤ pos k ≡ pos (n + k) -ℤ pos b
  up k =
      ap (λ z. z +ℤ pos k) e.is ∙ +ℤ_assoc (pos n) (neg_ℤ (pos b)) (pos k)
      ∙ ap (λ z. pos n +ℤ z) (+ℤ_comm (neg_ℤ (pos b)) (pos k))
      ∙ sym (+ℤ_assoc (pos n) (pos k) (neg_ℤ (pos b))) ∙ ap (λ z. z -ℤ pos b) (pos-+ℤ-pos n k)

  pub shifted_up : (k : ℕ) → Shifted b (a +ℤ pos k) (n + k)
  shifted_up k = record { is = up k }

  -- a number that is held as k more lies k above
  above : {c : ℤ} {m : ℕ} → Shifted b c m → n ≤ m → c ≡ a +ℤ pos (m - n)
  above {m = m} f h =
      let same : n + (m - n) ≡ m = omega arith in
      f.is ∙ sym (up (m - n) ∙ ap (λ (i : ℕ). pos i -ℤ pos b) same)

module _ {b : ℕ} {a : ℤ} {n : ℕ} {c : ℤ} {m : ℕ} (e : Shifted b a n) (f : Shifted b c m) where
  pub shifted_le : n ≤ m → less c a ≡ false
  shifted_le h = (not_less_iff a c).1 (m - n, above e f h)

  pub shifted_lt : n < m → less a c ≡ true
  shifted_lt h =
      let same : m - n ≡ suc (m - suc n) = omega arith in
      (less_iff a c).1 (m - suc n, above e f (omega arith) ∙ ap (λ (i : ℕ). a +ℤ pos i) same)

  pub shifted_distance : n ≤ m → nat_abs (c -ℤ a) ≡ m - n
  shifted_distance h = ap (λ z. nat_abs (z -ℤ a)) (above e f h) ∙ up_distance a (m - n)

pub le_shifted : {b : ℕ} {a : ℤ} {n : ℕ} {c : ℤ} {m : ℕ} → Shifted b a n → Shifted b c m → less c a ≡ false → n ≤ m
le_shifted {n = n} {m = m} e f h =
    split (ltb m n) (λ t. clash (shifted_lt f e (ltb-true m n t)) h) (λ t. ltb-false m n t)

pub pos_shifted : (b n : ℕ) → Shifted b (pos n) (b + n)
pos_shifted b n =
    let same : n + b ≡ b + n = omega arith in
    record { is = sym (+ℤ-neg_ℤ_cancel (pos n) (pos b)) ∙ ap (λ z. z -ℤ pos b) (pos-+ℤ-pos n b ∙ ap pos same) }

pub neg_shifted : (b n : ℕ) → n ≤ b → Shifted b (neg_ℤ (pos n)) (b - n)
neg_shifted b n h =
    let k = b - n in
    let same : k + n ≡ b = omega arith in
    record {
      is =
          sym (ap (λ z. pos k -ℤ z) (sym (pos-+ℤ-pos k n ∙ ap pos same))
          ∙ ap (λ z. pos k +ℤ z) (neg_ℤ-+ℤ (pos k) (pos n))
          ∙ sym (+ℤ_assoc (pos k) (neg_ℤ (pos k)) (neg_ℤ (pos n))) ∙ ap (λ z. z -ℤ pos n) (+ℤ_invr (pos k))
          ∙ +ℤ_idl (neg_ℤ (pos n)));
    }

-- less can be added
pub rebased : (b k n : ℕ) {a : ℤ} → Shifted (b + k) a (n + k) → Shifted b a n
rebased b k n e =
    let x = pos n -ℤ pos b in
    let more : pos (n + k) ≡ x +ℤ pos (b + k) =
    sym (pos-+ℤ-pos n k) ∙ ap (λ z. z +ℤ pos k) (sym (-ℤ-+ℤ_cancel (pos n) (pos b))) ∙ +ℤ_assoc x (pos b) (pos k)
    ∙ ap (λ z. x +ℤ z) (pos-+ℤ-pos b k) in
    record { is = e.is ∙ ap (λ z. z -ℤ pos (b + k)) more ∙ +ℤ-neg_ℤ_cancel x (pos (b + k)) }
