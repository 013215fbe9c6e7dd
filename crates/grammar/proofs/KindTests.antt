-- The tests of lexemes that the readers go by, as tests of kinds.
use Prim.Native.Nat.{ℕ, zero, suc, ◌≤◌, ◌<◌}
use mathlib.Core.Bool.{Bool, true, false, ◌&&◌, ◌||◌, or-false}
use mathlib.Core.Path.{◌≡◌, refl, ◌∙◌}
use mathlib.Core.List.{List, [], ◌∷◌}
use native.Mathlib.Omega.{arith}
use lib.Dec.{leb, eqb, leb-zero, leb-suc-zero, leb-suc-suc, eqb-zero-suc, eqb-suc-zero, eqb-suc-suc, lit<, lit≤}
use borrow.Author.Tests.{le-leb, lt-leb, leb-true, leb-false}
use Rattle.syntax.specs.Token.{Lexeme, name, key, number, mark, Mark, same, differs, below, at_most_mark, above, at_least_mark}
use Rattle.syntax.specs.Token.{plus, minus}
use Rattle.syntax.specs.Token.{Keyword}
use Rattle.syntax.specs.Decide.Lexeme.{mark_number, is_mark, is_key, is_name}
use Rattle.syntax.specs.Held.Kind.{kind_of, name_kind, number_kind}
use Rattle.syntax.proofs.ByKind.{is_number, kind_mark, kind_key, kind_name, kind_number}
use Rattle.syntax.specs.Tree.{Sign, added, taken, Comparison, eq, ne, lt, le, gt, ge}
use Rattle.syntax.specs.Decide.Reading.{Got, got, stuck, Reader, onwards, ◌>>=◌, give, begins, rest, choose, expect}
use Rattle.syntax.specs.Decide.Reading.{read_name, read_number, is_sign, read_sign, read_comparison}
use Rattle.grammar.specs.Reads.{Follows, Tells, Expects}
use Rattle.grammar.specs.declared.Stuck.{Stuck}
use Rattle.std.specs.Prelude.{Result}
use Rattle.grammar.proofs.Readers.{shape, shaped}

-- Numbers that are equal, as a test of one from the other to the other
eqb_leb : (a b : ℕ) → eqb a b ≡ (leb b a && leb a b)
eqb_leb zero zero = refl
eqb_leb zero (suc b) = rw (eqb-zero-suc b, leb-suc-zero b)
eqb_leb (suc a) zero = rw (eqb-suc-zero a, leb-zero (suc a), leb-suc-zero a)
eqb_leb (suc a) (suc b) = rw (eqb-suc-suc a b, leb-suc-suc a b, leb-suc-suc b a) (eqb_leb a b)

-- a test of one kind, as a test from that kind to itself
by_one : {p : Lexeme → Bool} (n : ℕ) → ((l : Lexeme) → p l ≡ eqb (kind_of l) n) → Tells p n n
by_one n h = record { tells = λ l. h l ∙ eqb_leb (kind_of l) n }

pub by_mark : (m : Mark) → Tells (is_mark m) (kind_of (mark m)) (kind_of (mark m))
by_mark m = by_one (kind_of (mark m)) (kind_mark m)

pub by_key : (k : Keyword) → Tells (is_key k) (kind_of (key k)) (kind_of (key k))
by_key k = by_one (kind_of (key k)) (kind_key k)

pub by_name : Tells is_name name_kind name_kind
by_name = by_one name_kind kind_name

by_number : Tells is_number number_kind number_kind
by_number = by_one number_kind kind_number

-- two tests in a row, of kinds that are next to each other
joined : {p q : Lexeme → Bool} {low mid high : ℕ} → low ≤ mid → mid < high → Tells p low mid → Tells q (suc mid) high
    → Tells (λ l. p l || q l) low high
joined {p} {q} {low} {mid} {high} h g tp tq =
    record { tells = λ l. rw (tp.tells l, tq.tells l) (go (kind_of l) (leb (kind_of l) mid) refl) }
  where
    go : (k : ℕ) (t : Bool) → leb k mid ≡ t → ((leb low k && leb k mid) || (leb (suc mid) k && leb k high))
        ≡ (leb low k && leb k high)
    go k true e =
        let n : k ≤ mid = leb-true k mid e in
        rw (e, lt-leb (suc mid) k (omega arith), le-leb k high (omega arith), or-false)
    go k false e =
        let n : mid < k = leb-false k mid e in
        rw (e, le-leb (suc mid) k n, le-leb low k (omega arith))

pub by_sign : Tells is_sign (kind_of (mark plus)) (kind_of (mark minus))
unfolding is_sign kind_of mark_number
by_sign = joined (lit≤ tt) (lit< tt) (by_mark plus) (by_mark minus)

is_comparison : Lexeme → Bool
is_comparison l =
    is_mark same l
    || (is_mark differs l || (is_mark below l || (is_mark at_most_mark l || (is_mark above l || is_mark at_least_mark l))))

by_comparison : Tells is_comparison (kind_of (mark same)) (kind_of (mark at_least_mark))
unfolding is_comparison kind_of mark_number
by_comparison =
    joined (lit≤ tt) (lit< tt) (by_mark same) (joined (lit≤ tt) (lit< tt) (by_mark differs)
    (joined (lit≤ tt) (lit< tt) (by_mark below) (joined (lit≤ tt) (lit< tt) (by_mark at_most_mark)
    (joined (lit≤ tt) (lit< tt) (by_mark above) (by_mark at_least_mark)))))

-- Lexemes that are expected

name_shape : (ls : List Lexeme) → expect is_name ls ≡ shape (read_name ls)
unfolding expect is_name read_name shape begins rest
name_shape [] = refl
name_shape (name x ∷ ls) = refl
name_shape (key k ∷ ls) = refl
name_shape (number n ∷ ls) = refl
name_shape (mark m ∷ ls) = refl

number_shape : (ls : List Lexeme) → expect is_number ls ≡ shape (read_number ls)
unfolding expect is_number read_number shape begins rest
number_shape [] = refl
number_shape (name x ∷ ls) = refl
number_shape (key k ∷ ls) = refl
number_shape (number n ∷ ls) = refl
number_shape (mark m ∷ ls) = refl

-- a lexeme of one test
single : {A : Type 0} (p : Lexeme → Bool) (a : A) (ls : List Lexeme)
    → expect p ls ≡ shape ((expect p >>= λ _. give a) ls)
unfolding ◌>>=◌ onwards give shape
single p a ls = go (expect p ls)
  where
    go : (g : Got (Unit {0})) → g ≡ shape (onwards g (λ _. give a))
    go (got u ms) = refl
    go (stuck ms) = refl

-- a lexeme of one test for one tree, or of another
either : {A : Type 0} (p q : Lexeme → Bool) (a : A) (r : Reader A) → ((ls : List Lexeme) → expect q ls ≡ shape (r ls))
    → (ls : List Lexeme) → expect (λ l. p l || q l) ls ≡ shape (choose p (expect p >>= λ _. give a) r ls)
unfolding expect choose begins rest
either p q a r h [] = h []
either p q a r h (l ∷ ls) = go (p l) refl
  where
    go : (t : Bool) → p l ≡ t → expect (λ k. p k || q k) (l ∷ ls)
        ≡ shape (choose p (expect p >>= λ _. give a) r (l ∷ ls))
    go true e = rw (e, choose, expect) (rw (e, expect) at (single p a (l ∷ ls)))
    go false e = rw (e, choose, expect) (h (l ∷ ls))

sign_shape : (ls : List Lexeme) → expect is_sign ls ≡ shape (read_sign ls)
unfolding is_sign read_sign
sign_shape = either (is_mark plus) (is_mark minus) added _ (single (is_mark minus) taken)

comparison_shape : (ls : List Lexeme) → expect is_comparison ls ≡ shape (read_comparison ls)
unfolding is_comparison read_comparison
comparison_shape =
    either (is_mark same) _ eq _ (either (is_mark differs) _ ne _ (either (is_mark below) _ lt _
    (either (is_mark at_most_mark) _ le _ (either (is_mark above) _ gt _ (single (is_mark at_least_mark) ge)))))

module _ {ks : List ℕ} {from : ℕ} {to : Result ℕ Stuck} where
  pub took_mark : (m : Mark) → Expects ks from (kind_of (mark m)) (kind_of (mark m)) to
      → Follows (Unit {0}) ks from (expect (is_mark m)) to
  took_mark m h = h.by (is_mark m) (by_mark m)

  pub took_key : (k : Keyword) → Expects ks from (kind_of (key k)) (kind_of (key k)) to
      → Follows (Unit {0}) ks from (expect (is_key k)) to
  took_key k h = h.by (is_key k) (by_key k)

  pub took_name : Expects ks from name_kind name_kind to → Follows (List ℕ) ks from read_name to
  took_name h = shaped name_shape (h.by is_name by_name)

  pub took_number : Expects ks from number_kind number_kind to → Follows ℕ ks from read_number to
  took_number h = shaped number_shape (h.by is_number by_number)

  pub took_sign : Expects ks from (kind_of (mark plus)) (kind_of (mark minus)) to → Follows Sign ks from read_sign to
  took_sign h = shaped sign_shape (h.by is_sign by_sign)

  pub took_comparison : Expects ks from (kind_of (mark same)) (kind_of (mark at_least_mark)) to
      → Follows Comparison ks from read_comparison to
  took_comparison h = shaped comparison_shape (h.by is_comparison by_comparison)
