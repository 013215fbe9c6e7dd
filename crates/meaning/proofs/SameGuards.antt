-- The test of equal lexemes decides it, and so does the test of equal lists of lexemes.
use mathlib.Core.Path.{◌≡◌, refl, sym}
use mathlib.Core.Bool.{false≢true}
use mathlib.Core.List.{List, [], ◌∷◌}
use borrow.Author.Tests.{eqb-true, eq-eqb}
use Rattle.syntax.specs.Token.{Lexeme, name, key, number, mark}
use Rattle.meaning.specs.Model.{same_lexeme, same_lexemes}
use Rattle.logic.proofs.Bools.{Decides, decides_and, decides_by}
use Rattle.syntax.proofs.Lexemes.{decides_same, decides_key, decides_mark}

pub decides_lexeme : (k l : Lexeme) → Decides (same_lexeme k l) (k ≡ l)
unfolding same_lexeme
decides_lexeme (name x) (name y) = decides_by (λ e. cc, λ e. cc) (decides_same x y)
decides_lexeme (name x) (key k) = (λ h. absurd (false≢true h), λ e. cc)
decides_lexeme (name x) (number n) = (λ h. absurd (false≢true h), λ e. cc)
decides_lexeme (name x) (mark m) = (λ h. absurd (false≢true h), λ e. cc)
decides_lexeme (key k) l = decides_by (sym, sym) (decides_key k l)
decides_lexeme (number n) (name y) = (λ h. absurd (false≢true h), λ e. cc)
decides_lexeme (number n) (key k) = (λ h. absurd (false≢true h), λ e. cc)
decides_lexeme (number n) (number o) = decides_by (λ e. cc, λ e. cc) (eqb-true n o, eq-eqb n o)
decides_lexeme (number n) (mark m) = (λ h. absurd (false≢true h), λ e. cc)
decides_lexeme (mark m) l = decides_by (sym, sym) (decides_mark m l)

pub decides_lexemes : (ks ls : List Lexeme) → Decides (same_lexemes ks ls) (ks ≡ ls)
unfolding same_lexemes
decides_lexemes [] [] = (λ h. refl, λ e. refl)
decides_lexemes [] (l ∷ ls) = (λ h. absurd (false≢true h), λ e. cc)
decides_lexemes (k ∷ ks) [] = (λ h. absurd (false≢true h), λ e. cc)
decides_lexemes (k ∷ ks) (l ∷ ls) =
    decides_by (λ p. let e = p.0 in let f = p.1 in cc, λ e. (cc, cc))
    (decides_and (same_lexeme k l) (same_lexemes ks ls) (decides_lexeme k l) (decides_lexemes ks ls))
