-- Whole numbers as differences p less m, and as sums less 2 ^ 30: their sums and comparisons are those of natural
-- numbers.
use Prim.Native.Nat.{ℕ, ◌+◌, ◌-◌, ◌≤◌}
use native.Mathlib.Omega.{arith}
use native.Mathlib.Nat.{add_comm}
use mathlib.Core.Path.{◌≡◌, refl, sym, ap, ◌∙◌}
use mathlib.Core.Bool.{Bool, true, false, cond}
use lib.Dec.{ltb}
use lib.IntN.{ℤ, pos, neg_ℤ, ◌+ℤ◌, ◌-ℤ◌, +ℤ_assoc, +ℤ_comm, +ℤ_idl, +ℤ_idr, +ℤ_invr, neg_ℤ-+ℤ, neg_ℤ-neg_ℤ}
use borrow.Author.Tests.{ltb-true, ltb-false, lt-ltb, le-ltb}
use Rattle.syntax.specs.Held.Kind.{kind_of}
use Rattle.syntax.specs.Token.{mark}
use Rattle.syntax.specs.Decide.Lexeme.{mark_number}
use Rattle.syntax.specs.Tree.{Comparison, eq, ne, lt, le, gt, ge, comparison_mark}
use Rattle.meaning.specs.Value.{negative, less, compares, joined}
use Rattle.meaning.proofs.Integers.{negative_difference}
use Rattle.evaluator.specs.Promises.{worth, sign_of, test_of}

shuffle : (a b c d : ℤ) → (a +ℤ b) +ℤ (c +ℤ d) ≡ (a +ℤ c) +ℤ (b +ℤ d)
shuffle a b c d =
    +ℤ_assoc a b (c +ℤ d)
    ∙ ap (λ z. a +ℤ z) (sym (+ℤ_assoc b c d) ∙ ap (λ z. z +ℤ d) (+ℤ_comm b c) ∙ +ℤ_assoc c b d)
    ∙ sym (+ℤ_assoc a c (b +ℤ d))

difference : (a b c d : ℤ) → (a -ℤ b) +ℤ (c -ℤ d) ≡ (a +ℤ c) -ℤ (b +ℤ d)
difference a b c d = shuffle a (neg_ℤ b) c (neg_ℤ d) ∙ ap (λ z. (a +ℤ c) +ℤ z) (sym (neg_ℤ-+ℤ b d))

turned : (c d : ℤ) → neg_ℤ (c -ℤ d) ≡ d -ℤ c
turned c d = neg_ℤ-+ℤ c (neg_ℤ d) ∙ ap (λ z. neg_ℤ c +ℤ z) (neg_ℤ-neg_ℤ d) ∙ +ℤ_comm (neg_ℤ c) d

-- sums and differences, part by part
added_parts : (p m q n : ℕ) → (pos p -ℤ pos m) +ℤ (pos q -ℤ pos n) ≡ pos (p + q) -ℤ pos (m + n)
added_parts p m q n = difference (pos p) (pos m) (pos q) (pos n)

taken_parts : (p m q n : ℕ) → (pos p -ℤ pos m) -ℤ (pos q -ℤ pos n) ≡ pos (p + n) -ℤ pos (m + q)
taken_parts p m q n = ap (λ z. (pos p -ℤ pos m) +ℤ z) (turned (pos q) (pos n)) ∙ added_parts p m n q

pub less_parts : (p m q n : ℕ) → less (pos p -ℤ pos m) (pos q -ℤ pos n) ≡ ltb (p + n) (q + m)
unfolding less
less_parts p m q n =
    ap negative (taken_parts p m q n) ∙ negative_difference (p + n) (m + q) ∙ ap (ltb (p + n)) (add_comm m q)

-- the same amount added to both parts
wider : (p m k : ℕ) → pos p -ℤ pos m ≡ pos (p + k) -ℤ pos (m + k)
wider p m k =
    sym (+ℤ_idr (pos p -ℤ pos m)) ∙ ap (λ z. (pos p -ℤ pos m) +ℤ z) (sym (+ℤ_invr (pos k)))
    ∙ added_parts p m k k

pub same_difference : (p m q n : ℕ) → p + n ≡ q + m → pos p -ℤ pos m ≡ pos q -ℤ pos n
same_difference p m q n e =
    wider p m n ∙ ap (λ (k : ℕ). pos k -ℤ pos (m + n)) e ∙ ap (λ (k : ℕ). pos (q + m) -ℤ pos k) (add_comm m n)
    ∙ sym (wider q n m)

-- Sums

shifted : (p q m : ℕ) → ltb (p + m) (q + m) ≡ ltb p q
shifted p q m = go (ltb p q) refl
  where
    go : (b : Bool) → ltb p q ≡ b → ltb (p + m) (q + m) ≡ b
    go true h = lt-ltb (p + m) (q + m) (omega (arith, ltb-true p q h))
    go false h = le-ltb (p + m) (q + m) (omega (arith, ltb-false p q h))

less_worth : (p q : ℕ) → less (worth p) (worth q) ≡ ltb p q
less_worth p q = less_parts p 1073741824 q 1073741824 ∙ shifted p q 1073741824

pub compares_worth : (o : Comparison) (p q : ℕ)
    → test_of (kind_of (mark (comparison_mark o))) p q ≡ compares o (worth p) (worth q)
unfolding test_of compares comparison_mark kind_of mark_number
compares_worth eq p q = sym (rw (less_worth p q, less_worth q p))
compares_worth ne p q = sym (rw (less_worth p q, less_worth q p))
compares_worth lt p q = sym (less_worth p q)
compares_worth le p q = sym (rw (less_worth q p))
compares_worth gt p q = sym (less_worth q p)
compares_worth ge p q = sym (rw (less_worth p q))

pub joined_zero : (a : ℤ) → joined (sign_of false) (worth 1073741824) a ≡ a
unfolding joined sign_of
joined_zero a = ap (λ z. z +ℤ a) (+ℤ_invr (pos 1073741824)) ∙ +ℤ_idl a

-- of an operand a less b, what a sum is moved up by and then down by, as it is added or taken away
pub joined_parts : (minus : Bool) (q a b : ℕ) → cond minus a b ≤ q + cond minus b a
    → joined (sign_of minus) (worth q) (pos a -ℤ pos b) ≡ worth (q + cond minus b a - cond minus a b)
unfolding joined sign_of
joined_parts false q a b h =
    added_parts q 1073741824 a b ∙ same_difference (q + a) (1073741824 + b) (q + a - b) 1073741824 (omega arith)
joined_parts true q a b h =
    taken_parts q 1073741824 a b ∙ same_difference (q + b) (1073741824 + a) (q + b - a) 1073741824 (omega arith)
