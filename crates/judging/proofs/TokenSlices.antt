-- What the variables' reader asks of the slices that hold a file's tokens: a number is below 1,000.
use Prim.Native.Nat.{ℕ, zero, suc, ◌-◌, ◌≤◌, ◌<◌}
use native.Mathlib.Omega.{arith}
use mathlib.Core.Path.{◌≡◌, refl, sym, subst, ap, ◌∙◌}
use mathlib.Core.Bool.{true}
use mathlib.Core.Option.{some}
use mathlib.Core.List.{List, [], ◌∷◌, map, Memᴰ}
use lib.ListN.{length, take, drop, get_or, get_elem?, length-map}
use lib.Dec.{leb}
use borrow.Author.Tests.{leb-true}
use Rattle.syntax.specs.Bytes.{digit, between, decimal}
use Rattle.syntax.specs.Token.{Lexeme, number, Token, lexemes}
use Rattle.syntax.specs.Spelling.{Digits, Spells, valued}
use Rattle.syntax.proofs.Scanning.{token_stands}
use Rattle.syntax.specs.Held.Kind.{kind_of, value_of, Words}
use Rattle.logic.proofs.Bools.{both, no_some}
use Rattle.variables.specs.Bounded.{Numbers}

-- Lexemes and tokens by their places

pub lexemes_map : (f : Lexeme → ℕ) (ts : List Token) → map f (lexemes ts) ≡ map (λ t. f t.lexeme) ts
unfolding lexemes
lexemes_map f [] = refl
lexemes_map f (t ∷ ts) = ap {B = List ℕ} (λ ns. f t.lexeme ∷ ns) (lexemes_map f ts)

-- a function of the lexemes, at the place of one
pub at_lexeme : (f : Lexeme → ℕ) (ts : List Token) (i : ℕ) (l : Lexeme) → get_elem? (lexemes ts) i ≡ some l
    → get_or (map (λ t. f t.lexeme) ts) i 0 ≡ f l
unfolding lexemes
at_lexeme f [] i l e = no_some e
at_lexeme f (t ∷ ts) zero l e = let same : t.lexeme ≡ l = cc in ap f same
at_lexeme f (t ∷ ts) (suc i) l e = at_lexeme f ts i l e

token_of : (ts : List Token) (i : ℕ) (l : Lexeme) → get_elem? (lexemes ts) i ≡ some l
    → (t : Token) × Memᴰ t ts × (t.lexeme ≡ l)
unfolding lexemes
token_of [] i l e = no_some e
token_of (t ∷ ts) zero l e = (t, Memᴰ.head refl, cc)
token_of (t ∷ ts) (suc i) l e = let r = token_of ts i l e in (r.0, Memᴰ.tail r.1, r.2)

-- Numbers are small

digit_few : (b : ℕ) → digit b ≡ true → b - 48 ≤ 9
unfolding digit between
digit_few b e = omega (arith, leb-true b 57 (both (leb 48 b) (leb b 57) e).1)

digits_small : (w : List ℕ) → Digits w → length w ≤ 3 → decimal 0 w < 1000
unfolding decimal
digits_small [] h l = absurd h
digits_small (a ∷ []) h l = omega (arith, digit_few a h.0)
digits_small (a ∷ b ∷ []) h l = omega (arith, digit_few a h.0, digit_few b h.1.0)
digits_small (a ∷ b ∷ c ∷ []) h l = omega (arith, digit_few a h.0, digit_few b h.1.0, digit_few c h.1.1.0)
digits_small (a ∷ b ∷ c ∷ d ∷ w) h l = absurd (omega arith)

number_small : {w : List ℕ} {n : ℕ} → Spells w (number n) → n < 1000
number_small {w = w} (valued h l) = digits_small w h l

pub numbers : {file : List ℕ} {ts : List Token} {kinds values places : List ℕ} → Words file ts kinds values places
    → Numbers (lexemes ts) kinds values
unfolding value_of
numbers {file = file} {ts = ts} w =
    record {
      by_kind = lexemes_map kind_of ts ∙ sym w.by_kind;
      as_long = rw (w.by_kind, w.by_value, length-map, length-map);
      by_number = λ i n e. ap (λ (vs : List ℕ). get_or vs i 0) w.by_value ∙ at_lexeme value_of ts i (number n) e;
      numbers_small = λ i n e.
          let (t, has, is) = token_of ts i (number n) e in
          let s = token_stands file ts t w.cut has in
          number_small (subst (Spells (take s.0 (drop t.at file))) is s.3);
    }
