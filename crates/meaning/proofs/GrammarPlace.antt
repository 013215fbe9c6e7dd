-- Refusal 4's place: the tokens left where reading stops begin with the first token after which no file of the grammar
-- can follow, and there are none where the file ends early.
use Prim.Native.Nat.{ℕ, suc, ◌-◌}
use native.Mathlib.Omega.{arith}
use mathlib.Core.Path.{◌≡◌, refl, sym, ap}
use mathlib.Core.List.{List, [], ◌∷◌, ◌++◌, append_assoc}
use lib.ListN.{length, length-append, drop_of_length-le}
use lib.Seq.{drop_at}
use Rattle.syntax.specs.Token.{Lexeme, Token, lexemes}
use Rattle.syntax.specs.Tree.{Viable}
use Rattle.meaning.specs.Decide.Check.{place_of, left_of}
use Rattle.meaning.specs.Accepted.{NoneOffends, FirstOffends}
use Rattle.logic.proofs.Bools.{different}
use Rattle.meaning.specs.Refusal.{NoFile}

-- tokens cut where their lexemes are cut, the second part being what `left_of` gives
pub record Cut (ts : List Token) (pre ls : List Lexeme) : Type 0 where
  pub front : List Token
  pub back : List Token
  pub whole : ts ≡ front ++ back
  pub passed : lexemes front ≡ pre
  pub left : lexemes back ≡ ls

pub lexemes_append : (a b : List Token) → lexemes (a ++ b) ≡ lexemes a ++ lexemes b
unfolding lexemes
lexemes_append [] b = refl
lexemes_append (t ∷ a) b = ap (λ (ls : List Lexeme). t.lexeme ∷ ls) (lexemes_append a b)

length_lexemes : (ts : List Token) → length (lexemes ts) ≡ length ts
unfolding lexemes
length_lexemes [] = refl
length_lexemes (t ∷ ts) = ap suc (length_lexemes ts)

pub cut : (ts : List Token) (pre ls : List Lexeme) → lexemes ts ≡ pre ++ ls → Cut ts pre ls
unfolding lexemes
cut ts [] ls e = record { front = []; back = ts; whole = refl; passed = refl; left = e }
cut [] (l ∷ pre) ls e = different (cc)
cut (t ∷ ts) (l ∷ pre) ls e =
    let c : Cut ts pre ls = cut ts pre ls (cc) in
    record {
      front = t ∷ c.front;
      back = c.back;
      whole = ap (λ (us : List Token). t ∷ us) c.whole;
      passed =
          cc;
      left = c.left;
    }

pub left_is : (ts : List Token) (pre ls : List Lexeme) (c : Cut ts pre ls) → left_of ts ls ≡ c.back
unfolding left_of
left_is ts pre ls c = rw c.whole
    (drop_at c.front c.back (length (c.front ++ c.back) - length ls)
    (simp length-append (omega (arith, length_lexemes c.back, ap length c.left))))

viable_front : (a b : List Lexeme) → Viable (a ++ b) → Viable a
unfolding Viable
viable_front a b (rest, g) = (b ++ rest, rw append_assoc at g)

viable_none : (ts : List Token) → Viable (lexemes ts) → NoneOffends NoFile ts
unfolding NoneOffends NoFile
viable_none ts v before after t e stop =
    stop (viable_front (lexemes (before ++ (t ∷ []))) (lexemes after)
    (rw (← (lexemes_append (before ++ (t ∷ [])) after), append_assoc, ← e) v))

-- what was read can be gone on with, and not with the lexeme that comes next
pub place_first : (end : ℕ) (ts : List Token) (pre : List Lexeme) (l : Lexeme) (ls : List Lexeme)
    → lexemes ts ≡ pre ++ (l ∷ ls)
    → Viable pre → (Viable (pre ++ (l ∷ [])) → ⊥) → FirstOffends NoFile ts (place_of end (left_of ts (l ∷ ls)))
unfolding FirstOffends NoFile lexemes place_of
place_first end ts pre l ls e v stop =
    let c = cut ts pre (l ∷ ls) e in
    go c.front c.back c.whole c.passed c.left (left_is ts pre (l ∷ ls) c)
  where
    go : (front back : List Token) → ts ≡ front ++ back → lexemes front ≡ pre → lexemes back ≡ l ∷ ls
        → left_of ts (l ∷ ls) ≡ back → FirstOffends NoFile ts (place_of end (left_of ts (l ∷ ls)))
    go front [] w p q r = different (cc)
    go front (t ∷ back) w p q r =
        let same : t.lexeme ≡ l = cc in (
          front,
          back,
          t,
          w,
          (λ u. stop (rw (lexemes_append front (t ∷ []), p, same) at u)),
          sym (ap (place_of end) r),
          viable_none front (rw p v),
        )

-- the file ends early
pub place_end : (end : ℕ) (ts : List Token) → Viable (lexemes ts) → (place_of end (left_of ts []) ≡ end)
    × NoneOffends NoFile ts
unfolding left_of place_of
place_end end ts v = (rw (drop_of_length-le ts {i = length ts - 0} (omega arith)), viable_none ts v)
