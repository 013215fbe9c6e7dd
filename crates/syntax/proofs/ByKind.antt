-- Kinds tell lexemes apart: a lexeme's kind decides its class, its mark and its keyword, so each test of a kind is a
-- test of the lexeme; with its value it decides the lexeme, but for names.
use Prim.Native.Nat.{ℕ, ◌+◌, ◌<◌}
use mathlib.Core.Bool.{Bool, true, false}
use mathlib.Core.Path.{◌≡◌, refl, sym, ◌∙◌, ap}
use mathlib.Core.List.{List}
use native.Mathlib.Omega.{arith}
use lib.Dec.{eqb, lit<}
use borrow.Author.Tests.{eqb-true, eqb-false, eq-eqb, ne_eqb}
use Rattle.syntax.specs.Token.{Lexeme, name, key, number, mark, Mark, Keyword}
use Rattle.syntax.specs.Decide.Lexeme.{mark_number, keyword_number, is_mark, is_key, is_name}
use Rattle.syntax.specs.Token as token
use Rattle.syntax.specs.Held.Kind.{kind_of, value_of, name_kind, number_kind, first_mark, first_keyword, keyword_count}
use Rattle.syntax.specs.Held.Kind.{kinds_end}
use Rattle.syntax.proofs.Lexemes.{decides_key, decides_mark}
use Rattle.logic.proofs.Bools.{split}

-- Bounds

mark_few : (m : Mark) → mark_number m < 30
unfolding mark_number
mark_few token.lbrace = lit< tt
mark_few token.rbrace = lit< tt
mark_few token.lparen = lit< tt
mark_few token.rparen = lit< tt
mark_few token.semicolon = lit< tt
mark_few token.equals = lit< tt
mark_few token.dots = lit< tt
mark_few token.becomes = lit< tt
mark_few token.same = lit< tt
mark_few token.differs = lit< tt
mark_few token.below = lit< tt
mark_few token.at_most_mark = lit< tt
mark_few token.above = lit< tt
mark_few token.at_least_mark = lit< tt
mark_few token.plus = lit< tt
mark_few token.minus = lit< tt
mark_few token.bang = lit< tt
mark_few token.and_and = lit< tt
mark_few token.or_or = lit< tt

pub keyword_few : (k : Keyword) → keyword_number k < keyword_count
unfolding keyword_number
keyword_few token.k_monitor = lit< tt
keyword_few token.k_var = lit< tt
keyword_few token.k_in = lit< tt
keyword_few token.k_keep = lit< tt
keyword_few token.k_method = lit< tt
keyword_few token.k_waituntil = lit< tt
keyword_few token.k_if = lit< tt
keyword_few token.k_else = lit< tt
keyword_few token.k_true = lit< tt
keyword_few token.k_false = lit< tt
keyword_few token.k_try = lit< tt
keyword_few token.k_mod = lit< tt

pub kind_below : (l : Lexeme) → kind_of l < kinds_end
unfolding kind_of
kind_below (name x) = lit< tt
kind_below (key k) = omega (arith, keyword_few k)
kind_below (number n) = lit< tt
kind_below (mark m) = omega (arith, mark_few m)

-- Tests of a kind

-- equal tests of equal facts
eqb_by : (a b c d : ℕ) → (a ≡ b → c ≡ d) → (c ≡ d → a ≡ b) → eqb a b ≡ eqb c d
eqb_by a b c d f g = split (eqb a b)
    (λ h. h ∙ sym (eq-eqb c d (f (eqb-true a b h))))
    (λ h. h ∙ sym (ne_eqb c d (λ e. eqb-false a b h (g e))))

pub kind_mark : (m : Mark) (l : Lexeme) → is_mark m l ≡ eqb (kind_of l) (kind_of (mark m))
unfolding is_mark kind_of
kind_mark m (name x) = sym (ne_eqb name_kind (first_mark + mark_number m) (λ e. omega arith))
kind_mark m (key k) =
    sym (ne_eqb (first_keyword + keyword_number k) (first_mark + mark_number m) (λ e. omega (arith, mark_few m)))
kind_mark m (number n) = sym (ne_eqb number_kind (first_mark + mark_number m) (λ e. omega arith))
kind_mark m (mark o) =
    eqb_by (mark_number m) (mark_number o) (first_mark + mark_number o) (first_mark + mark_number m) (λ e. omega arith)
    (λ e. omega arith)

pub kind_key : (k : Keyword) (l : Lexeme) → is_key k l ≡ eqb (kind_of l) (kind_of (key k))
unfolding is_key kind_of
kind_key k (name x) = sym (ne_eqb name_kind (first_keyword + keyword_number k) (λ e. omega arith))
kind_key k (key j) =
    eqb_by (keyword_number k) (keyword_number j) (first_keyword + keyword_number j) (first_keyword + keyword_number k)
    (λ e. omega arith)
    (λ e. omega arith)
kind_key k (number n) = sym (ne_eqb number_kind (first_keyword + keyword_number k) (λ e. omega arith))
kind_key k (mark o) =
    sym (ne_eqb (first_mark + mark_number o) (first_keyword + keyword_number k) (λ e. omega (arith, mark_few o)))

pub kind_name : (l : Lexeme) → is_name l ≡ eqb (kind_of l) name_kind
unfolding is_name kind_of
kind_name (name x) = refl
kind_name (key k) = sym (ne_eqb (first_keyword + keyword_number k) name_kind (λ e. omega arith))
kind_name (number n) = refl
kind_name (mark m) = sym (ne_eqb (first_mark + mark_number m) name_kind (λ e. omega arith))

unfoldable pub is_number : Lexeme → Bool
is_number (name x) = false
is_number (key k) = false
is_number (number n) = true
is_number (mark m) = false

pub kind_number : (l : Lexeme) → is_number l ≡ eqb (kind_of l) number_kind
unfolding is_number kind_of
kind_number (name x) = refl
kind_number (key k) = sym (ne_eqb (first_keyword + keyword_number k) number_kind (λ e. omega arith))
kind_number (number n) = refl
kind_number (mark m) = sym (ne_eqb (first_mark + mark_number m) number_kind (λ e. omega arith))

-- Lexemes from kinds

pub is_name_lem : (l : Lexeme) → kind_of l ≡ name_kind → (x : List ℕ) × (l ≡ name x)
unfolding kind_of
is_name_lem (name x) e = (x, refl)
is_name_lem (key k) e = absurd (omega arith)
is_name_lem (number n) e = absurd (omega arith)
is_name_lem (mark m) e = absurd (omega arith)

pub is_number_lem : (l : Lexeme) → kind_of l ≡ number_kind → (n : ℕ) × (l ≡ number n)
unfolding kind_of
is_number_lem (name x) e = absurd (omega arith)
is_number_lem (key k) e = absurd (omega arith)
is_number_lem (number n) e = (n, refl)
is_number_lem (mark m) e = absurd (omega arith)

pub is_mark_lem : (m : Mark) (l : Lexeme) → kind_of l ≡ kind_of (mark m) → l ≡ mark m
is_mark_lem m l e = (decides_mark m l).0 (kind_mark m l ∙ eq-eqb (kind_of l) (kind_of (mark m)) e)

pub is_key_lem : (k : Keyword) (l : Lexeme) → kind_of l ≡ kind_of (key k) → l ≡ key k
is_key_lem k l e = (decides_key k l).0 (kind_key k l ∙ eq-eqb (kind_of l) (kind_of (key k)) e)

-- kinds and values tell lexemes apart, but for names
pub same_lexeme_lem : (k l : Lexeme) → kind_of k ≡ kind_of l → value_of k ≡ value_of l → (kind_of k ≡ name_kind → ⊥) → k ≡ l
unfolding kind_of value_of
same_lexeme_lem (name x) l e v n = absurd (n refl)
same_lexeme_lem (key k) l e v n = sym (is_key_lem k l (sym e))
same_lexeme_lem (number i) (name x) e v n = absurd (n e)
same_lexeme_lem (number i) (key k) e v n = absurd (omega arith)
same_lexeme_lem (number i) (number j) e v n = ap number v
same_lexeme_lem (number i) (mark m) e v n = absurd (omega arith)
same_lexeme_lem (mark m) l e v n = sym (is_mark_lem m l (sym e))
