-- How a file's lexemes and the lowest values of its variables are held as numbers for 15.
use Rattle.std.specs.Prelude.{ℕ, ◌≤◌, ◌≡◌, List, length, get_or}
use Rattle.std.proofs.Math.Option.{some}
use Rattle.std.proofs.Math.ListN.{get_elem?}
use Rattle.syntax.specs.Limits.{most_vars}
use Rattle.syntax.specs.Token.{Lexeme}
use Rattle.syntax.specs.Tree.{Var}
use Rattle.meaning.specs.Value.{int_of}
use Rattle.meaning.specs.Held.{Offset}
use Rattle.evaluator.specs.Coding.{Codes}

-- the lowest values of at most six variables, each with 128 added, and how many there are
pub record Lowest (vs : List Var) (lows : List ℕ) (count : ℕ) : Type 0 where
  pub few : length vs ≤ most_vars
  pub counted : count ≡ length vs
  pub held : (k : ℕ) (v : Var) → get_elem? vs k ≡ some v → Offset (int_of v.low) (get_or lows k 0)

-- beside them kinds and operands
pub record Coded (vs : List Var) (ls : List Lexeme) (kinds operands lows : List ℕ) (count : ℕ) : Type 0 where
  pub codes : Codes vs ls kinds operands
  pub lowest : Lowest vs lows count
