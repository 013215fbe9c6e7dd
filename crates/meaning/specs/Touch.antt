-- The pairs of region and guard that a file's text does not rule out: what a guard's text names, what a body's text
-- assigns, and when these meet (02, E2). `Decide/Touch` computes it over the tree.
use Rattle.std.specs.Prelude.{ℕ, ◌<◌, ◌≡◌, ◌↔◌, length, get_or}
use mathlib.Core.List.{List, [], ◌∷◌, ◌++◌, Memᴰ}
use Rattle.syntax.specs.Token.{Lexeme, name, mark, becomes}
use Rattle.syntax.specs.Tree.{Monitor, Var, Cond, Block, spell_cond, spell_block}
use Rattle.meaning.specs.Model.{vars, regions, guards, region, no_guard}

-- a condition's text names x: x is among its tokens (R 7.18)
unfoldable pub Names : Cond → List ℕ → Type 0
Names c x = Memᴰ (name x) (spell_cond c)

-- a body's text assigns x: `x :=` stands there, whether it is reached or not (R 7.19)
pub record LeftSide (b : Block) (x : List ℕ) : Type 0 where
  pub before : List Lexeme
  pub behind : List Lexeme
  pub stands : spell_block b ≡ before ++ (name x ∷ mark becomes ∷ behind)

-- a region and a guard are touched: the body's text assigns one of "the variables that a guard names" (R 7.20)
pub record Touched (m : Monitor) (r g : ℕ) : Type 0 where
  pub variable : Var
  pub declared : Memᴰ variable (vars m)
  pub named : Names (get_or (guards m) g no_guard) variable.title
  pub assigned : LeftSide (region m r).body variable.title

-- a region and a guard, by their numbers
pub record Pair : Type 0 where
  pub region : ℕ
  pub guard : ℕ

-- a list has nothing twice
pub data Distinct : List Pair → Type 0 where
  no_pair : Distinct []
  one_pair : {p : Pair} {ps : List Pair} → (Memᴰ p ps → ⊥) → Distinct ps → Distinct (p ∷ ps)

-- "how many other pairs of region and guard there are": n pairs are touched, a region's own guard counted like any other
-- (R 7.22)
pub record Pairs (m : Monitor) (n : ℕ) : Type 0 where
  pub list : List Pair
  pub exactly :
      (p : Pair) → Memᴰ p list
      ↔ ((p.region < length (regions m)) × (p.guard < length (guards m)) × Touched m p.region p.guard)
  pub once : Distinct list
  pub many : n ≡ length list
