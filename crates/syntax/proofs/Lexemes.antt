-- Tests of lexemes that decide: equal bytes, and a lexeme that is a given keyword or mark. Keywords and marks are found
-- again from their numbers.
use Prim.Native.Nat.{ℕ}
use mathlib.Core.Path.{◌≡◌, refl}
use mathlib.Core.Bool.{false≢true}
use mathlib.Core.List.{List, [], ◌∷◌}
use lib.ListN.{get_or}
use lib.Dec.{eqb}
use borrow.Author.Tests.{eqb-true, eq-eqb}
use Rattle.syntax.specs.Bytes.{same_bytes}
use Rattle.syntax.specs.Token.{Lexeme, name, key, number, mark, Mark, lbrace, rbrace, lparen, rparen, semicolon}
use Rattle.syntax.specs.Token.{equals, dots, becomes, same, differs, below, at_most_mark, above, at_least_mark, plus, minus}
use Rattle.syntax.specs.Token.{bang, and_and, or_or, Keyword, k_monitor, k_var, k_in, k_keep, k_method}
use Rattle.syntax.specs.Token.{k_waituntil, k_if, k_else, k_true, k_false, k_try, k_mod}
use Rattle.syntax.specs.Decide.Lexeme.{mark_number, keyword_number, is_mark}
use Rattle.syntax.specs.Decide.Lexeme.{is_key}
use Rattle.logic.proofs.Bools.{Decides, decides_and, decides_by}

pub decides_same : (x y : List ℕ) → Decides (same_bytes x y) (x ≡ y)
unfolding same_bytes
decides_same [] [] = (λ h. refl, λ e. refl)
decides_same [] (b ∷ y) = (λ h. absurd (false≢true h), λ e. cc)
decides_same (a ∷ x) [] = (λ h. absurd (false≢true h), λ e. cc)
decides_same (a ∷ x) (b ∷ y) = decides_by
    ((λ p. let e = p.0 in let f = p.1 in cc), λ e. (cc, cc))
    (decides_and (eqb a b) (same_bytes x y) (eqb-true a b, eq-eqb a b) (decides_same x y))

-- Keywords and marks by number

keyword_at : ℕ → Keyword
keyword_at n =
    get_or (k_monitor ∷ k_var ∷ k_in ∷ k_keep ∷ k_method ∷ k_waituntil ∷ k_if ∷ k_else ∷ k_true ∷ k_false ∷ k_try ∷ k_mod
    ∷ []) n k_monitor

keyword_again : (k : Keyword) → keyword_at (keyword_number k) ≡ k
unfolding keyword_at keyword_number
keyword_again k_monitor = refl
keyword_again k_var = refl
keyword_again k_in = refl
keyword_again k_keep = refl
keyword_again k_method = refl
keyword_again k_waituntil = refl
keyword_again k_if = refl
keyword_again k_else = refl
keyword_again k_true = refl
keyword_again k_false = refl
keyword_again k_try = refl
keyword_again k_mod = refl

mark_at : ℕ → Mark
mark_at n =
    get_or
    (lbrace ∷ rbrace ∷ lparen ∷ rparen ∷ semicolon ∷ equals ∷ dots ∷ becomes ∷ same ∷ differs ∷ below ∷ at_most_mark ∷ above
    ∷ at_least_mark ∷ plus ∷ minus ∷ bang ∷ and_and ∷ or_or ∷ []) n lbrace

mark_again : (m : Mark) → mark_at (mark_number m) ≡ m
unfolding mark_at mark_number
mark_again lbrace = refl
mark_again rbrace = refl
mark_again lparen = refl
mark_again rparen = refl
mark_again semicolon = refl
mark_again equals = refl
mark_again dots = refl
mark_again becomes = refl
mark_again same = refl
mark_again differs = refl
mark_again below = refl
mark_again at_most_mark = refl
mark_again above = refl
mark_again at_least_mark = refl
mark_again plus = refl
mark_again minus = refl
mark_again bang = refl
mark_again and_and = refl
mark_again or_or = refl

pub decides_key : (k : Keyword) (l : Lexeme) → Decides (is_key k l) (l ≡ key k)
unfolding is_key
decides_key k (name x) = (λ h. absurd (false≢true h), λ e. cc)
decides_key k (key j) = (
  λ h. let e = eqb-true (keyword_number k) (keyword_number j) h in cc (keyword_again k, keyword_again j),
  λ e. eq-eqb (keyword_number k) (keyword_number j) (cc),
)
decides_key k (number n) = (λ h. absurd (false≢true h), λ e. cc)
decides_key k (mark m) = (λ h. absurd (false≢true h), λ e. cc)

pub decides_mark : (m : Mark) (l : Lexeme) → Decides (is_mark m l) (l ≡ mark m)
unfolding is_mark
decides_mark m (name x) = (λ h. absurd (false≢true h), λ e. cc)
decides_mark m (key k) = (λ h. absurd (false≢true h), λ e. cc)
decides_mark m (number n) = (λ h. absurd (false≢true h), λ e. cc)
decides_mark m (mark o) = (
  λ h. let e = eqb-true (mark_number m) (mark_number o) h in cc (mark_again m, mark_again o),
  λ e. eq-eqb (mark_number m) (mark_number o) (cc),
)
