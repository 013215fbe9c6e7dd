-- How the values and ranges of at most six variables are held as numbers: each value with 128 added; and the lexemes
-- behind `keep`, among which the code looks for parts of a file.
use Rattle.std.specs.Prelude.{ℕ, ◌<◌, ◌≤◌, ◌≡◌, List, [], ◌∷◌, ◌++◌, length, get_or, ℤ, pos, ◌-ℤ◌}
use Rattle.std.proofs.Math.Option.{some}
use Rattle.std.proofs.Math.ListN.{get_elem?}
use Rattle.syntax.specs.Limits.{most_vars}
use Rattle.syntax.specs.Token.{Lexeme, mark, semicolon, rbrace}
use Rattle.syntax.specs.Tree.{Var, Monitor, all, each, spell_cond, spell_try, spell_method}
use Rattle.meaning.specs.Value.{int_of}

-- a whole number, held as n with b added
pub record Shifted (b : ℕ) (a : ℤ) (n : ℕ) : Type 0 where
  pub is : a ≡ pos n -ℤ pos b

-- a value with 128 added: what `Shifted 128` says
unfoldable pub Offset : ℤ → ℕ → Type 0
Offset a n = a ≡ pos n -ℤ pos 128

-- the values of at most six variables, each with 128 added and at most 255; a slot without a variable holds 0 so
pub record Biased (vs : List Var) (as' : List ℤ) (vars : List ℕ) : Type 0 where
  pub few : length vs ≤ most_vars
  pub each_value : length as' ≡ length vs
  pub slots : length vars ≡ most_vars
  pub held : (k : ℕ) → k < length vs → Offset (get_or as' k (pos 0)) (get_or vars k 0)
  pub small : (k : ℕ) → get_or vars k 0 ≤ 255
  pub unused : (k : ℕ) → k < most_vars → length vs ≤ k → get_or vars k 0 ≡ 128

-- the ranges of the variables, by slot, each end with 128 added; a slot without a variable has an empty range
pub record Ranges (vs : List Var) (lows highs : List ℕ) : Type 0 where
  pub low_slots : length lows ≡ most_vars
  pub high_slots : length highs ≡ most_vars
  pub lows_held : (k : ℕ) (v : Var) → get_elem? vs k ≡ some v → Offset (int_of v.low) (get_or lows k 0)
  pub highs_held : (k : ℕ) (v : Var) → get_elem? vs k ≡ some v → Offset (int_of v.high) (get_or highs k 0)
  pub highs_small : (k : ℕ) → get_or highs k 0 ≤ 255
  pub unused_range : (k : ℕ) → k < most_vars → length vs ≤ k → get_or highs k 0 < get_or lows k 0

-- what stands behind `keep` in a file that a tree spells
unfoldable pub behind_keep : Monitor → List Lexeme
behind_keep m =
    spell_cond m.keep
    ++ (mark semicolon ∷ (each spell_try m.tries ++ (each spell_method (all m.methods) ++ (mark rbrace ∷ []))))
