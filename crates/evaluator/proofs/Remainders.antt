-- What `sixteen` computes of natural numbers is the remainder of their difference, as `modulo` has it.
use Prim.Native.Nat.{ℕ, zero, suc, ◌+◌, ◌-◌, ◌*◌, ◌/◌, ◌%◌, ◌≤◌, ◌<◌}
use native.Mathlib.Omega.{arith}
use native.Mathlib.Nat.{div-add-mod', mod-lt, lt_of_mul-lt-mul_right}
use mathlib.Core.Path.{◌≡◌, refl, sym, ap, ◌∙◌}
use mathlib.Core.Bool.{Bool, true, false, not, cond}
use mathlib.Core.Option.{none, some}
use mathlib.Core.List.{List}
use lib.Dec.{ltb}
use lib.ListN.{get_or}
use lib.IntN.{ℤ, pos, negsuc, ◌-ℤ◌}
use borrow.Author.Tests.{ltb-true, ltb-false, lt-ltb, le-ltb}
use Rattle.sets.specs.Set.{member}
use Rattle.sixteen.specs.Rest.{rest, remainder_of, Rested}
use Rattle.sixteen.proofs.Division.{divided, rest_below}
use Rattle.meaning.specs.Value.{remainder_by, modulo}
use Rattle.evaluator.specs.Coding.{lane}
use Rattle.evaluator.specs.Promises.{operand, Adds, given, Held, Remains}
use Rattle.evaluator.proofs.Numbers.{same_difference}

-- Differences

-- where p is not below m
rest_up : (p m n : ℕ) → m ≤ p → (p - m) % suc n ≡ rest p m (suc n)
unfolding rest
rest_up p m n h =
    let b = suc n in
    let s = mod-lt m {m = b} (omega arith) in
    let r = mod-lt (p - m) {m = b} (omega arith) in
    sym (divided (p + (b - m % b)) b ((p - m) / b + (m / b + 1)) ((p - m) % b)
    (omega (arith, div-add-mod' (p - m) b, div-add-mod' m b)) r)

-- and where it is
down : (p m b k d j s t : ℕ) → m ≡ (d + j) * b + s → k ≡ j * b + t → m ≡ suc p + k → s < b → t < b
    → (p + (b - s)) % b ≡ b - suc t
down p m b k d j s t wide narrow apart h l = divided (p + (b - s)) b d (b - suc t) (omega arith) (omega arith)

rest_down : (p m n : ℕ) → p < m → n - (m - suc p) % suc n ≡ rest p m (suc n)
unfolding rest
rest_down p m n h =
    let b = suc n in
    let k = m - suc p in
    let s = mod-lt m {m = b} (omega arith) in
    let t = mod-lt k {m = b} (omega arith) in
    let less : k / b < suc (m / b) = lt_of_mul-lt-mul_right b (omega (arith, div-add-mod' k b, div-add-mod' m b)) in
    let whole : m / b - k / b + k / b ≡ m / b = omega arith in
    let back : n - k % b ≡ b - suc (k % b) = omega arith in
    back ∙ sym (down p m b k (m / b - k / b) (k / b) (m % b) (k % b)
    (sym (div-add-mod' m b) ∙ ap (λ (q : ℕ). q * b + m % b) (sym whole))
    (sym (div-add-mod' k b)) (omega arith) s t)

-- the remainder of a difference
rest_is : (n p m : ℕ) → remainder_by n (pos p -ℤ pos m) ≡ rest p m (suc n)
unfolding remainder_by
rest_is n p zero = ap (λ (k : ℕ). k % suc n) (omega arith) ∙ rest_up p zero n (omega arith)
rest_is n p (suc m) = go (ltb p (suc m)) refl
  where
    go : (t : Bool) → ltb p (suc m) ≡ t
        → remainder_by n (cond t (negsuc (suc m - suc p)) (pos (p - suc m))) ≡ rest p (suc m) (suc n)
    go true e = rest_down p (suc m) n (ltb-true p (suc m) e)
    go false e = rest_up p (suc m) n (ltb-false p (suc m) e)

-- a divisor that is a difference, and one that is none
some_divisor : (z : ℤ) (d n : ℕ) → d ≡ suc n → modulo z (pos d) ≡ some (pos (remainder_by n z))
unfolding modulo
some_divisor z d n e = rw e

no_divisor : (z : ℤ) (d : ℕ) → d ≡ 0 → modulo z (pos d) ≡ none
unfolding modulo
no_divisor z d e = rw e

too_low : (z : ℤ) (b k : ℕ) → b ≤ k → modulo z (pos b -ℤ pos k) ≡ none
unfolding modulo
too_low z b zero h = no_divisor z (b + 0) (omega arith)
too_low z b (suc k) h = go (ltb b (suc k)) refl
  where
    go : (t : Bool) → ltb b (suc k) ≡ t → modulo z (cond t (negsuc (suc k - suc b)) (pos (b - suc k))) ≡ none
    go true e = refl
    go false e = no_divisor z (b - suc k) (omega arith)

pub modulo_parts : (p m b k : ℕ) → modulo (pos p -ℤ pos m) (pos b -ℤ pos k)
    ≡ given (not (ltb k b)) (pos (rest p m (b - k)))
unfolding given
modulo_parts p m b k = go (ltb k b) refl
  where
    go : (t : Bool) → ltb k b ≡ t → modulo (pos p -ℤ pos m) (pos b -ℤ pos k) ≡ given (not t) (pos (rest p m (b - k)))
    go true e =
        let above = ltb-true k b e in
        let d : suc (b - suc k) ≡ b - k = omega arith in
        ap (modulo (pos p -ℤ pos m)) (same_difference b k (b - k) 0 (omega arith))
        ∙ some_divisor (pos p -ℤ pos m) (b - k + 0) (b - suc k) (omega arith)
        ∙ ap (λ (r : ℕ). some (pos r)) (rest_is (b - suc k) p m ∙ ap (rest p m) d)
    go false e = too_low (pos p -ℤ pos m) b k (ltb-false k b e)

-- Remainders in the lanes

-- what is computed of two operands is their remainder
pub remains : {vars rests : List ℕ} {slot p m slot' p' m' lacks : ℕ} {one two : ℕ → ℕ}
    → ((j : ℕ) → j < 16 → Held vars j → one j ≡ operand (lane vars j) slot p)
    → ((j : ℕ) → j < 16 → two j ≡ operand (lane vars j) slot' p') → ((j : ℕ) → j < 16 → two j ≤ 65535)
    → Rested one m two m' rests lacks → Remains vars slot p m slot' p' m' rests lacks
unfolding given remainder_of
remains {rests = rests} {m = m} {m' = m'} {lacks} {one} {two} ones twos few rested = record {
  small = record { each = λ j l. rw (rested.value j l) (fits (one j) (two j) (few j l)) };
  is = λ j l held.
      rw (← (ones j l held), ← (twos j l))
      (modulo_parts (one j) m (two j) m' ∙ same j (ltb m' (two j)) _ (rested.none j l) (rested.value j l));
}
  where
    fits : (p b : ℕ) → b ≤ 65535 → remainder_of p m b m' ≤ 65535
    fits p b h = go (ltb m' b) refl
      where
        go : (t : Bool) → ltb m' b ≡ t → cond (ltb m' b) (rest p m (b - m')) 0 ≤ 65535
        go true q = rw q (omega (arith, ltb-true m' b q, rest_below p m (b - m') (omega (arith, ltb-true m' b q))))
        go false q = rw q (omega arith)

    same : (j : ℕ) (t : Bool) (r : ℕ) → member lacks j ≡ not t → get_or rests j 0 ≡ cond t r 0
        → given (not t) (pos r) ≡ given (member lacks j) (pos (get_or rests j 0))
    same j true r d e = rw (d, e)
    same j false r d e = rw d

-- of a variable, its value, which is at most 255, and of a number that
pub by_slot : {vars lanes : List ℕ} {slot p : ℕ} → slot < 6 → Adds vars slot p lanes → (j : ℕ) → j < 16 → Held vars j
    → get_or lanes j 0 % 256 ≡ operand (lane vars j) slot p
unfolding operand
by_slot {vars} {lanes} {slot} {p} s adds j l held =
    let value : get_or lanes j 0 ≡ get_or (lane vars j) slot 0 = adds.is j l ∙ rw (lt-ltb slot 6 s) in
    let whole : get_or lanes j 0 % 256 ≡ get_or lanes j 0 = omega (arith, held.each slot) in
    whole ∙ adds.is j l

pub by_none : (held : List ℕ) {slot : ℕ} (p : ℕ) → 6 ≤ slot → p ≡ operand held slot p
unfolding operand
by_none held {slot} p s = rw (le-ltb slot 6 s)
