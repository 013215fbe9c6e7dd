-- Marks: what two bytes begin with, where the first is known and the second is not the one that makes a longer mark,
-- and where the first begins no mark. A mark has no more than two bytes, and none has the byte 0.
use Prim.Native.Nat.{ℕ, suc, ◌+◌, ◌≤◌, ◌<◌}
use Prim.Native.String.{String}
use mathlib.Core.Path.{◌≡◌, refl, sym, ap, ◌∙◌}
use mathlib.Core.Bool.{Bool, true, false, not, ◌&&◌, false≢true}
use mathlib.Core.List.{List, [], ◌∷◌}
use native.Mathlib.Nat.{add-zero}
use native.Mathlib.Numerals.{add-one}
use native.Mathlib.Omega.{arith}
use lib.ListN.{length, drop, get_or}
use lib.Seq.{drop-cons, get_or-drop}
use lib.Dec.{eqb}
use borrow.Author.Tests.{ne_eqb, not-true}
use Rattle.syntax.specs.Bytes.{bytes}
use Rattle.syntax.specs.Decide.Leading.{starts_with}
use Rattle.syntax.specs.Token.{Mark, marks, mark, equals, bang, below, above}
use Rattle.syntax.specs.Decide.Lexeme.{mark_number}
use Rattle.syntax.specs.Held.Kind.{kind_of}
use Rattle.syntax.specs.Decide.Scan.{Scan, mark_of, nothing, found}
use Rattle.scanner.specs.Step.{marked, token_of, step_of, step_to}
use Rattle.std.specs.Prelude.{Option, Some, None}
use Rattle.std.proofs.lemmas.Option.{none-some, same_Some}
use Rattle.scanner.specs.declared.Token.TheVariants as token
use Rattle.scanner.proofs.FirstElement.{by_cases, and_true}

-- the mark at a byte and another
abbrev pub two : ℕ → ℕ → Option (ℕ × ℕ)
two a b = marked (mark_of marks (a ∷ b ∷ []))

-- after `=`, `:`, `!`, `<`, `>`, a byte that is not `=`
pub not_61 : (b : ℕ) → (b ≡ 61 → ⊥)
    → (two 61 b ≡ Some (kind_of (mark equals), 1))
    × (two 58 b ≡ None)
    × (two 33 b ≡ Some (kind_of (mark bang), 1))
    × (two 60 b ≡ Some (kind_of (mark below), 1))
    × (two 62 b ≡ Some (kind_of (mark above), 1))
unfolding marked mark_of marks starts_with bytes kind_of mark_number
not_61 b n =
    let e = ne_eqb 61 b (λ q. n (sym q)) in
    (cc, cc, cc, cc, cc)

-- after `.`, a byte that is not `.`
pub not_46 : (b : ℕ) → (b ≡ 46 → ⊥)
    → two 46 b ≡ None
unfolding marked mark_of marks starts_with bytes kind_of mark_number
not_46 b n =
    let e = ne_eqb 46 b (λ q. n (sym q)) in
    cc

-- after `&`, a byte that is not `&`
pub not_38 : (b : ℕ) → (b ≡ 38 → ⊥)
    → two 38 b ≡ None
unfolding marked mark_of marks starts_with bytes kind_of mark_number
not_38 b n =
    let e = ne_eqb 38 b (λ q. n (sym q)) in
    cc

-- after `|`, a byte that is not `|`
pub not_124 : (b : ℕ) → (b ≡ 124 → ⊥)
    → two 124 b ≡ None
unfolding marked mark_of marks starts_with bytes kind_of mark_number
not_124 b n =
    let e = ne_eqb 124 b (λ q. n (sym q)) in
    cc

skip : (m : String × Mark) (ms : List (String × Mark)) (bs : List ℕ) → starts_with (bytes m.0) bs ≡ false
    → mark_of (m ∷ ms) bs ≡ mark_of ms bs
unfolding mark_of
skip m ms bs e = rw (mark_of, e)

starts : (m : String × Mark) (ms : List (String × Mark)) (bs : List ℕ) → starts_with (bytes m.0) bs ≡ true
    → mark_of (m ∷ ms) bs ≡ found (mark m.1) (length (bytes m.0))
unfolding mark_of
starts m ms bs e = rw (mark_of, e)

starts_not : (x a : ℕ) (xs bs : List ℕ) → eqb x a ≡ false → starts_with (x ∷ xs) (a ∷ bs) ≡ false
unfolding starts_with
starts_not x a xs bs e = rw e

no_marks : (bs : List ℕ) → mark_of [] bs ≡ nothing
unfolding mark_of
no_marks bs = refl

-- bytes that begin no mark
pub none_two : (a b : ℕ)
    → (a ≡ 123 → ⊥) → (a ≡ 125 → ⊥) → (a ≡ 40 → ⊥) → (a ≡ 41 → ⊥) → (a ≡ 59 → ⊥)
    → (a ≡ 61 → ⊥) → (a ≡ 46 → ⊥) → (a ≡ 58 → ⊥) → (a ≡ 33 → ⊥) → (a ≡ 60 → ⊥)
    → (a ≡ 62 → ⊥) → (a ≡ 43 → ⊥) → (a ≡ 45 → ⊥) → (a ≡ 38 → ⊥) → (a ≡ 124 → ⊥)
    → two a b ≡ None
unfolding marked marks bytes
none_two a b n123 n125 n40 n41 n59 n61 n46 n58 n33 n60 n62 n43 n45 n38 n124 =
    let e123 = ne_eqb 123 a (λ q. n123 (sym q)) in
    let e125 = ne_eqb 125 a (λ q. n125 (sym q)) in
    let e40 = ne_eqb 40 a (λ q. n40 (sym q)) in
    let e41 = ne_eqb 41 a (λ q. n41 (sym q)) in
    let e59 = ne_eqb 59 a (λ q. n59 (sym q)) in
    let e61 = ne_eqb 61 a (λ q. n61 (sym q)) in
    let e46 = ne_eqb 46 a (λ q. n46 (sym q)) in
    let e58 = ne_eqb 58 a (λ q. n58 (sym q)) in
    let e33 = ne_eqb 33 a (λ q. n33 (sym q)) in
    let e60 = ne_eqb 60 a (λ q. n60 (sym q)) in
    let e62 = ne_eqb 62 a (λ q. n62 (sym q)) in
    let e43 = ne_eqb 43 a (λ q. n43 (sym q)) in
    let e45 = ne_eqb 45 a (λ q. n45 (sym q)) in
    let e38 = ne_eqb 38 a (λ q. n38 (sym q)) in
    let e124 = ne_eqb 124 a (λ q. n124 (sym q)) in
    simp (skip, starts_not, no_marks)

-- a text of one byte, or of two of which the second is not 0
short : List ℕ → Bool
short [] = false
short (x ∷ []) = true
short (x ∷ y ∷ []) = not (eqb y 0)
short (x ∷ y ∷ z ∷ xs) = false

all_short : List (String × Mark) → Bool
all_short [] = true
all_short (m ∷ ms) = short (bytes m.0) && all_short ms

module _ (a : ℕ) where
  starts_two : (xs bs : List ℕ) → short xs ≡ true → starts_with xs (a ∷ bs) ≡ starts_with xs (a ∷ get_or bs 0 0 ∷ [])
  unfolding short starts_with
  starts_two [] bs e = refl
  starts_two (x ∷ []) bs e = refl
  starts_two (x ∷ y ∷ []) [] e = rw (not-true (eqb y 0) e)
  starts_two (x ∷ y ∷ []) (b ∷ bs) e = refl
  starts_two (x ∷ y ∷ z ∷ xs) bs e = absurd (false≢true e)

  starts_all : (ms : List (String × Mark)) (bs : List ℕ) → all_short ms ≡ true → mark_of ms (a ∷ bs)
      ≡ mark_of ms (a ∷ get_or bs 0 0 ∷ [])
  unfolding all_short
  starts_all [] bs e = no_marks (a ∷ bs) ∙ sym (no_marks (a ∷ get_or bs 0 0 ∷ []))
  starts_all (m ∷ ms) bs e =
      let h = and_true (short (bytes m.0)) (all_short ms) e in
      let same = starts_two (bytes m.0) bs h.0 in
      by_cases (starts_with (bytes m.0) (a ∷ bs))
      (λ t. starts m ms (a ∷ bs) t ∙ sym (starts m ms (a ∷ get_or bs 0 0 ∷ []) (sym same ∙ t)))
      (λ f. skip m ms (a ∷ bs) f ∙ starts_all ms bs h.1 ∙ sym (skip m ms (a ∷ get_or bs 0 0 ∷ []) (sym same ∙ f)))

-- what begins at a byte of a file begins with it and the next
pub marks_at : (file : List ℕ) (i : ℕ) → i < length file
    → mark_of marks (drop i file) ≡ mark_of marks (get_or file i 0 ∷ get_or file (i + 1) 0 ∷ [])
unfolding all_short short marks bytes
marks_at file i h = rw (drop-cons file i 0) (starts_all (get_or file i 0) marks (drop (suc i) file) refl
    ∙ rw (get_or-drop, add-zero, add-one))

-- no mark, or one of one or two bytes
pub data MarkOr (bs : List ℕ) : Scan → Type 0 where
  none : MarkOr bs nothing
  one : (m : Mark) (n : ℕ) → 1 ≤ n → n ≤ 2 → n ≤ length bs → MarkOr bs (found (mark m) n)

starts_length : (xs bs : List ℕ) → starts_with xs bs ≡ true → length xs ≤ length bs
unfolding starts_with
starts_length [] bs e = omega arith
starts_length (x ∷ xs) [] e = absurd (false≢true e)
starts_length (x ∷ xs) (b ∷ bs) e = omega (arith, starts_length xs bs (and_true (eqb x b) (starts_with xs bs) e).1)

short_length : (xs : List ℕ) → short xs ≡ true → (1 ≤ length xs) × (length xs ≤ 2)
unfolding short
short_length [] e = absurd (false≢true e)
short_length (x ∷ []) e = omega arith
short_length (x ∷ y ∷ []) e = omega arith
short_length (x ∷ y ∷ z ∷ xs) e = absurd (false≢true e)

mark_or : (ms : List (String × Mark)) (bs : List ℕ) → all_short ms ≡ true → MarkOr bs (mark_of ms bs)
unfolding all_short
mark_or [] bs e = rw no_marks none
mark_or (m ∷ ms) bs e =
    let h = and_true (short (bytes m.0)) (all_short ms) e in
    let s = short_length (bytes m.0) h.0 in
    by_cases (starts_with (bytes m.0) bs)
    (λ t. rw (starts m ms bs t) (one m.1 (length (bytes m.0)) s.0 s.1 (starts_length (bytes m.0) bs t)))
    (λ f. rw (skip m ms bs f) (mark_or ms bs h.1))

pub marks_or : (bs : List ℕ) → MarkOr bs (mark_of marks bs)
unfolding all_short short marks bytes
marks_or bs = mark_or marks bs refl

pub step_none : {bs : List ℕ} {s : Scan} → MarkOr bs s → marked s ≡ None → s ≡ nothing
unfolding marked
step_none none e = refl
step_none (one m n l h k) e = absurd (none-some _ (sym e))

module _ {bs : List ℕ} {k n : ℕ} where
  pub step_one : (start : ℕ) {s : Scan} → MarkOr bs s → marked s ≡ Some (k, n)
      → step_of start s ≡ step_to (token.Mark k) start (start + n)
  unfolding marked step_of token_of
  step_one start none e = absurd (none-some _ e)
  step_one start (one m n' l h i) e = ap (λ (p : ℕ × ℕ). step_to (token.Mark p.0) start (start + p.1)) (same_Some _ _ e)

  pub marked_length : {s : Scan} → MarkOr bs s → marked s ≡ Some (k, n) → n ≤ 2
  unfolding marked
  marked_length none e = absurd (none-some _ e)
  marked_length (one m n' l h i) e =
      let same : n' ≡ n = ap (λ (p : ℕ × ℕ). p.1) (same_Some _ _ e) in
      omega arith
