-- What each refusal of a file names (1 to 9 and 15), in words of "for every" and "there is".
use Rattle.std.specs.Prelude.{ℕ, ◌*◌, ◌≤◌, ◌<◌, ◌≡◌, true, false, ◌⊎◌, List, ◌∷◌, ◌++◌, [], length, ℤ}
use Rattle.syntax.specs.Limits.{most_bytes}
use Rattle.machine.specs.Limits.{most_states}
use Rattle.syntax.specs.Token.{k_var, k_keep, Token, Lexeme, Keyword, lexemes, key}
use Rattle.syntax.specs.Tree.{Region, Var, Monitor, all, spell, InGrammar, Viable}
use Rattle.meaning.specs.State.{size, count, state_at, number_of, starts}
use Rattle.meaning.specs.Kept.{kept_at}
use Rattle.meaning.specs.Answer.{answer, Answer, Verdict, accepted, refused}
use Rattle.meaning.specs.Accepted.{Accepted, GoodRange, GoodRanges, Keeps, Meets, NoneOffends}
use Rattle.meaning.specs.Runs.{IsRegion}
use Rattle.meaning.specs.Accepted.{FirstOffends, Crowded, PastLimit, Misnamed, NoneLacks}
use Rattle.meaning.specs.Valued.{Lacking}
use Rattle.meaning.specs.Before.{up_to}
use Rattle.syntax.specs.Spelling.{Cover, NoTokenAt}

-- 4: "after which no file of the grammar can follow" (R 6.13)
unfoldable pub NoFile : List Token → Token → Type 0
NoFile before t = Viable (lexemes (before ++ (t ∷ []))) → ⊥

-- 7 and 8

-- the token behind some lexemes is a keyword, at a byte (R 6.26, 6.31)
pub record KeywordAt (ts : List Token) (pre : List Lexeme) (k : Keyword) (byte : ℕ) : Type 0 where
  pub front : List Token
  pub back : List Token
  pub token : Token
  pub whole : ts ≡ front ++ (token ∷ back)
  pub passed : lexemes front ≡ pre
  pub keyword : token.lexeme ≡ key k
  pub place : token.at ≡ byte

-- 7: variable i is the first with a bad range, "or which takes the product of range sizes above 4,096" (R 6.26, 6.30)
pub record FirstIllRanged (vs : List Var) (i : ℕ) : Type 0 where
  pub before : List Var
  pub after : List Var
  pub var : Var
  pub parts : vs ≡ before ++ (var ∷ after)
  pub place : length before ≡ i
  pub good : GoodRanges before
  pub few : count before ≤ most_states
  pub bad : (GoodRange var → ⊥) ⊎ (most_states < count before * size var)

-- 9: "lowest region, then lowest state, meeting kept condition and guard", from which the body does not keep
-- (R 6.32, 6.33, 6.34)
pub record FirstBroken (m : Monitor) (k n : ℕ) : Type 0 where
  pub region : Region
  pub numbered : IsRegion m k region
  pub below : n < count (all m.vars)
  pub meets : Meets m region (state_at (all m.vars) n)
  pub breaks : Keeps m region (state_at (all m.vars) n) → ⊥
  pub lower_state : (as' : List ℤ) → number_of (all m.vars) as' < n → Meets m region as' → Keeps m region as'
  pub lower_region : (j : ℕ) (r : Region) (as' : List ℤ) → j < k → IsRegion m j r → Meets m r as' → Keeps m r as'

-- 15: behind some tokens stands a `mod` that lacks a value in some state (R 6.36)
unfoldable pub Unvalued : Monitor → List Token → Token → Type 0
Unvalued m before t = Lacking m (lexemes before)

-- "Checks run in number order over the whole input", 15 "after 7 and before 8": the checks up to one pass (R 6.2)

-- 1 and 2 pass (R 6.4, 6.5)
pub record Past2 (file : List ℕ) (ts : List Token) : Type 0 where
  pub short : length file ≤ most_bytes
  pub cut : Cover 0 file ts

-- 3 too (R 6.7)
pub record Past3 (file : List ℕ) (ts : List Token) : Type 0 where
  pub past : Past2 file ts
  pub limits : NoneOffends Crowded ts

-- 4 too (R 2.16, 6.13, 6.14)
pub record Past4 (file : List ℕ) (ts : List Token) (m : Monitor) : Type 0 where
  pub past : Past3 file ts
  pub grammar : spell m ≡ lexemes ts

-- 5 too (R 6.18)
pub record Past5 (file : List ℕ) (ts : List Token) (m : Monitor) : Type 0 where
  pub past : Past4 file ts m
  pub counts : NoneOffends PastLimit ts

-- 6 too (R 6.19)
pub record Past6 (file : List ℕ) (ts : List Token) (m : Monitor) : Type 0 where
  pub past : Past5 file ts m
  pub names : NoneOffends Misnamed ts

-- 7 too (R 6.26)
pub record Past7 (file : List ℕ) (ts : List Token) (m : Monitor) : Type 0 where
  pub past : Past6 file ts m
  pub ranges : GoodRanges (all m.vars)
  pub few : count (all m.vars) ≤ most_states

-- 15 too (R 6.36)
pub record Past15 (file : List ℕ) (ts : List Token) (m : Monitor) : Type 0 where
  pub past : Past7 file ts m
  pub valued : NoneLacks m

-- The refusals of a file, a constructor for each line of the table (R 6.1, 6.2)
pub data Refusal (file : List ℕ) : Answer → Type 0 where
  -- "file over 8,192 bytes" (R 6.4)
  too_long : most_bytes < length file → Refusal file (answer 1 0 0)
  -- "first byte that begins no token, or begins a word or number that is too long" (R 6.5, 6.6)
  no_token : {k : ℕ} → length file ≤ most_bytes → NoTokenAt k 0 file → Refusal file (answer 2 k 0)
  -- "first token that is past the 1,024th, or is a ( or { that makes opened less closed (both kinds together) exceed
  -- 12" (R 6.7)
  too_many : {ts : List Token} {k : ℕ} → Past2 file ts → FirstOffends Crowded ts k → Refusal file (answer 3 k 0)
  -- "first token after which no file of the grammar can follow; the length if the file ends early" (R 6.13)
  no_file : {ts : List Token} {k : ℕ} → Past3 file ts → FirstOffends NoFile ts k → Refusal file (answer 4 k 0)
  -- (R 6.14)
  ends_early :
      {ts : List Token} → Past3 file ts → Viable (lexemes ts) → (InGrammar (lexemes ts) → ⊥)
      → Refusal file (answer 4 (length file) 0)
  -- "first `var` past 6, `method` past 8 or `waituntil` past 16", "first `try` past sixteen" (R 6.18)
  is_past_limit : {ts : List Token} {m : Monitor} {k : ℕ} → Past4 file ts m → FirstOffends PastLimit ts k
      → Refusal file (answer 5 k 0)
  -- "first word that declares a variable or method twice among its kind, or uses a variable not declared" (R 6.19)
  wrong_name : {ts : List Token} {m : Monitor} {k : ℕ} → Past5 file ts m → FirstOffends Misnamed ts k
      → Refusal file (answer 6 k 0)
  -- "byte of `var`": the token behind the variables before the first ill-ranged one (R 6.26)
  is_ill_ranged :
      {ts : List Token} {m : Monitor} {i k : ℕ} → Past6 file ts m → (t : FirstIllRanged (all m.vars) i)
      → KeywordAt ts (up_to m t.before) k_var k → Refusal file (answer 7 k 0)
  -- "the byte of the first `mod` in keep, a try or a guard that has no value in some state of the ranges" (R 6.36)
  unvalued : {ts : List Token} {m : Monitor} {k : ℕ} → Past7 file ts m → FirstOffends (Unvalued m) ts k
      → Refusal file (answer 15 k 0)
  -- "byte of `keep`": "the kept condition is false at the start values" (R 6.31)
  start_not_kept :
      {ts : List Token} {m : Monitor} {k : ℕ} → Past15 file ts m → kept_at m (starts (all m.vars)) ≡ false
      → KeywordAt ts (up_to m (all m.vars)) k_keep k → Refusal file (answer 8 k 0)
  -- "lowest region, then lowest state" (R 6.33)
  broken :
      {ts : List Token} {m : Monitor} {k n : ℕ} → Past15 file ts m → kept_at m (starts (all m.vars)) ≡ true
      → FirstBroken m k n → Refusal file (answer 9 k n)

-- the verdict of a file, in words (R 6.1)
abbrev pub HasVerdict : List ℕ → Verdict → Type 0
HasVerdict file (accepted m) = Accepted file m
HasVerdict file (refused a) = Refusal file a
