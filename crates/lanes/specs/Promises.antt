-- The values of states in lanes.
use Rattle.std.specs.Prelude.{ℕ, ◌+◌, ◌*◌, ◌<◌, ◌≡◌, true, false, List, get_or, Option, Some, None}
use Rattle.sets.specs.Set.{member}
use Rattle.syntax.specs.Limits.{most_vars}
use Rattle.syntax.specs.Tree.{Var}
use Rattle.meaning.specs.State.{count, state_at}
use Rattle.meaning.specs.Held.{Biased}
use Rattle.evaluator.specs.Coding.{lane}

-- six values stand at a place and every sixteenth behind it, and all else is as it was
pub record Put (xs : List ℕ) (at : ℕ) (values ys : List ℕ) : Type 0 where
  pub here : (k : ℕ) → k < most_vars → (n : ℕ) → n ≡ at + k * 16 → get_or ys n 0 ≡ get_or values k 0
  pub others : (n : ℕ) → ((k : ℕ) → k < most_vars → n ≡ at + k * 16 → ⊥) → get_or ys n 0 ≡ get_or xs n 0

-- the values of state s stand in lane j
pub record InLane (vs : List Var) (lanes : List ℕ) (j s : ℕ) : Type 0 where
  pub values : List ℕ
  pub biased : Biased vs (state_at vs s) values
  pub places : (k : ℕ) → k < most_vars → (n : ℕ) → n ≡ j + k * 16 → get_or lanes n 0 ≡ get_or values k 0

-- what holds of lane j and the state in it, for the sixteen states from one on
pub record Sixteen (vs : List Var) (P : ℕ → ℕ → Type 0) (from : ℕ) : Type 0 where
  pub each : (j : ℕ) → j < 16 → from + j < count vs → P j (from + j)

abbrev pub Values : List Var → List ℕ → ℕ → ℕ → Type 0
Values vs lanes j s = Biased vs (state_at vs s) (lane lanes j)

-- two sets have no member in common
pub record Apart (a b : ℕ) : Type 0 where
  pub lacks : (k : ℕ) → member a k ≡ true → member b k ≡ false

-- some sixteen states lie before, and what changed from these on and a set have no member in common
unfoldable pub SomeApart : ℕ → Option ℕ → Type 0
SomeApart a (Some b) = Apart a b
SomeApart a None = ⊥
