-- What it is for a file to be accepted: "within the grammar and limits", "its kept condition holds at the start, and
-- every region keeps it and every range".
use Rattle.std.specs.Prelude.{ℕ, suc, ◌+◌, ◌≤◌, ◌<◌, ◌≡◌, Bool, true, false, ◌||◌, ◌⊎◌, List, [], ◌∷◌, ◌++◌, length, ℤ, pos, neg_ℤ}
use Rattle.syntax.specs.Limits.{most_bytes, most_tokens, most_open, most_vars, most_methods, most_tries}
use Rattle.machine.specs.Limits.{most_regions, most_states}
use Rattle.syntax.specs.Token.{Lexeme, name, key, Keyword, k_monitor, k_var, k_method, k_waituntil, k_try, Token}
use Rattle.syntax.specs.Decide.Lexeme.{is_key}
use Rattle.syntax.specs.Token.{lbrace, rbrace, lparen, rparen, lexemes}
use Rattle.syntax.specs.Decide.Lexeme.{is_mark}
use Rattle.syntax.specs.Tree.{Region, Var, Monitor, all, spell}
use Rattle.meaning.specs.Value.{int_of, less, truth}
use Rattle.meaning.specs.State.{count, starts}
use Rattle.meaning.specs.Runs.{State, BlockRuns, IsRegion}
use Rattle.meaning.specs.Kept.{kept_at}
use Rattle.meaning.specs.Valued.{Lacking}
use Rattle.syntax.specs.Spelling.{Cover}

-- 3, 5 and 6 name the first token that offends, by what stands before it

-- no token of a list offends
unfoldable pub NoneOffends : (List Token → Token → Type 0) → List Token → Type 0
NoneOffends Offends ts = (before after : List Token) (t : Token) → ts ≡ before ++ (t ∷ after) → Offends before t → ⊥

-- the first token that offends stands at byte k (R 6.7, 6.13, 6.18, 6.19)
unfoldable pub FirstOffends : (List Token → Token → Type 0) → List Token → ℕ → Type 0
FirstOffends Offends ts k =
    (before after : List Token) × (t : Token) × (ts ≡ before ++ (t ∷ after)) × Offends before t × (t.at ≡ k)
    × NoneOffends Offends before

-- how many tokens pass a test
unfoldable pub how_many : (Lexeme → Bool) → List Token → ℕ
how_many p [] = 0
how_many p (t ∷ ts) = elim (p t.lexeme) [ true ↦ suc (how_many p ts) | false ↦ how_many p ts ]

-- a ( or {: both kinds together (R 6.9, 6.10)
unfoldable pub opens : Lexeme → Bool
opens l = is_mark lbrace l || is_mark lparen l

-- a ) or } (R 6.9, 6.10)
unfoldable pub closes : Lexeme → Bool
closes l = is_mark rbrace l || is_mark rparen l

-- 3: "past the 1,024th, or is a ( or { that makes opened less closed (both kinds together) exceed 12"
-- (R 6.8, 6.9, 6.10)
unfoldable pub Crowded : List Token → Token → Type 0
Crowded before t =
    (most_tokens ≤ length before)
    ⊎ ((opens t.lexeme ≡ true) × (how_many closes before + most_open < how_many opens before + 1))

-- 5 (R 6.18)
unfoldable pub PastLimit : List Token → Token → Type 0
PastLimit before t =
    ((t.lexeme ≡ key k_var) × (most_vars ≤ how_many (is_key k_var) before))
    ⊎ ((t.lexeme ≡ key k_method) × (most_methods ≤ how_many (is_key k_method) before))
    ⊎ ((t.lexeme ≡ key k_waituntil) × (most_regions ≤ how_many (is_key k_waituntil) before))
    ⊎ ((t.lexeme ≡ key k_try) × (most_tries ≤ how_many (is_key k_try) before))

-- 6: a keyword stands last (R 6.20, 6.21, 6.22)
unfoldable pub Behind : Keyword → List Token → Type 0
Behind k before = (front : List Token) × (t : Token) × (before ≡ front ++ (t ∷ [])) × (t.lexeme ≡ key k)

-- a keyword with a name behind it stands among some tokens (R 6.20, 6.21)
unfoldable pub Declared : Keyword → List ℕ → List Token → Type 0
Declared k x ts =
    (front back : List Token) × (t u : Token) × (ts ≡ front ++ (t ∷ u ∷ back)) × (t.lexeme ≡ key k)
    × (u.lexeme ≡ name x)

-- 6: a name that is wrong (R 6.20, 6.21, 6.22, 6.23)
unfoldable pub Misnamed : List Token → Token → Type 0
Misnamed before t =
    (x : List ℕ) × (t.lexeme ≡ name x)
    × ((Behind k_var before × Declared k_var x before)
    ⊎ (Behind k_method before × Declared k_method x before)
    ⊎ ((Behind k_var before → ⊥) × (Behind k_method before → ⊥) × (Behind k_monitor before → ⊥)
    × (Declared k_var x before → ⊥)))

-- 7
unfoldable pub AtMost : ℤ → ℤ → Type 0
AtMost a b = less b a ≡ false

-- (R 6.27, 6.28, 6.29)
pub record GoodRange (v : Var) : Type 0 where
  pub ordered : AtMost (int_of v.low) (int_of v.high)
  pub low_bound : AtMost (neg_ℤ (pos 128)) (int_of v.low)
  pub high_bound : AtMost (int_of v.high) (pos 127)
  pub start_above : AtMost (int_of v.low) (int_of v.start)
  pub start_below : AtMost (int_of v.start) (int_of v.high)

-- of each variable (R 6.26)
pub data GoodRanges : List Var → Type 0 where
  no_vars : GoodRanges []
  one_var : {v : Var} {vs : List Var} → GoodRange v → GoodRanges vs → GoodRanges (v ∷ vs)

-- 9: the body keeps the kept condition and every range from these values, and meets no missing value (R 5.4)
unfoldable pub Keeps : Monitor → Region → List ℤ → Type 0
Keeps m r as' = (bs : List ℤ) × BlockRuns (all m.vars) r.body as' bs × (kept_at m bs ≡ true)

-- these values count: they are a state and meet kept condition and guard (R 5.2)
pub record Meets (m : Monitor) (r : Region) (as' : List ℤ) : Type 0 where
  pub state : State (all m.vars) as'
  pub kept : kept_at m as' ≡ true
  pub guard : truth r.guard (all m.vars) as' ≡ true

-- 15, "one more limit in demand 2": no `mod` of keep, a try or a guard lacks a value in any state (R 5.7, 6.36)
unfoldable pub NoneLacks : Monitor → Type 0
NoneLacks m = (before : List Lexeme) → Lacking m before → ⊥

-- 7, 15, 8 and 9 do not arise (R 5.4, 5.7)
pub record Sound (m : Monitor) : Type 0 where
  pub ranges : GoodRanges (all m.vars)
  pub few : count (all m.vars) ≤ most_states
  pub valued : NoneLacks m
  pub start : kept_at m (starts (all m.vars)) ≡ true
  pub keeps : (k : ℕ) (r : Region) (as' : List ℤ) → IsRegion m k r → Meets m r as' → Keeps m r as'

-- Accepted: "within document 01's grammar and limits, its kept condition holds at the start, and every region keeps it
-- and every range" (R 5.6, 5.7)
pub record Accepted (file : List ℕ) (m : Monitor) : Type 0 where
  pub ts : List Token
  -- not 1, 2, 3
  pub short : length file ≤ most_bytes
  pub cut : Cover 0 file ts
  pub limits : NoneOffends Crowded ts
  -- not 4 (bytes spell its lexemes, by `cut`), 5, 6
  pub grammar : spell m ≡ lexemes ts
  pub counts : NoneOffends PastLimit ts
  pub names : NoneOffends Misnamed ts
  -- not 7, 15, 8, 9
  pub sound : Sound m
