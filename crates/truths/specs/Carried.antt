-- What the functions promise to each other: conditions and where they begin, their truth in sixteen lanes, and what is
-- carried over from the last sixteen states.
use Rattle.std.specs.Prelude.{ℕ, ◌+◌, ◌<◌, ◌≤◌, ◌≡◌, Bool, List, ◌++◌, length, get_or, drop, Option}
use Rattle.sets.specs.Set.{member}
use Rattle.syntax.specs.Token.{Lexeme}
use Rattle.syntax.specs.Tree.{Var, Cond, spell_cond}
use Rattle.logic.specs.Tests.{bit}
use Rattle.meaning.specs.Value.{truth}
use Rattle.meaning.specs.State.{count, state_at}
use Rattle.meaning.specs.Model.{no_guard}
use Rattle.evaluator.specs.Coding.{Codes, EndsCond, Covers}
use Rattle.variables.specs.Bounded.{Bounded}
use Rattle.variables.specs.declared.Bounds.{Bounds}
use Rattle.lanes.specs.Promises.{SomeApart}
use Rattle.states.specs.Rows.{ConditionsAt}

-- a condition begins at a token, and a set has the slots of the variables that it names
pub record Condition (vs : List Var) (c : Cond) (kinds values : List ℕ) (bounds : Bounds) (at named : ℕ) : Type 0 where
  pub ls : List Lexeme
  pub us : List Lexeme
  pub codes : Codes vs ls kinds values
  pub bounded : Bounded vs bounds
  pub few : length ls ≤ 8192
  pub spelled : drop at ls ≡ spell_cond c ++ us
  pub ends : EndsCond us
  pub covers : Covers vs (spell_cond c) named

-- the same of some conditions, at most sixteen
pub record Conditions (vs : List Var) (cs : List Cond) (kinds values : List ℕ) (bounds : Bounds) (ats named : List ℕ)
    (n : ℕ) : Type 0 where
  pub ls : List Lexeme
  pub codes : Codes vs ls kinds values
  pub bounded : Bounded vs bounds
  pub few : length ls ≤ 8192
  pub counted : n ≡ length cs
  pub few_conditions : n ≤ 16
  pub places : ConditionsAt cs ls ats
  pub covers : (g : ℕ) → g < length cs → Covers vs (spell_cond (get_or cs g no_guard)) (get_or named g 0)

-- each lane's set has condition g where it holds in that lane, and the others as before
pub record Spread (known g : ℕ) (before sets : List ℕ) : Type 0 where
  pub here : (j : ℕ) → j < 16 → member (get_or sets j 0) g ≡ member known j
  pub others : (j u : ℕ) → j < 16 → (u ≡ g → ⊥) → member (get_or sets j 0) u ≡ member (get_or before j 0) u

-- sixteen sets stand in a slice from a place on, and what stands before is as it was
pub record PutSets (sets : List ℕ) (from : ℕ) (before row : List ℕ) : Type 0 where
  pub here : (j : ℕ) → j < 16 → get_or row (from + j) 0 ≡ get_or sets j 0
  pub others : (n : ℕ) → n < from → get_or row n 0 ≡ get_or before n 0

-- the same of the lanes of a set, 1 and 0
pub record PutBits (known from : ℕ) (before row : List ℕ) : Type 0 where
  pub here : (j : ℕ) → j < 16 → get_or row (from + j) 0 ≡ bit (member known j)
  pub others : (n : ℕ) → n < from → get_or row n 0 ≡ get_or before n 0

-- a condition's truth in lane j, in which state s stands; and those of some conditions
abbrev pub Truth : List Var → Cond → ℕ → ℕ → ℕ → Type 0
Truth vs c known j s = member known j ≡ truth c vs (state_at vs s)

abbrev pub Truths : List Var → List Cond → List ℕ → ℕ → ℕ → Type 0
Truths vs cs sets j s =
    (g : ℕ) → g < length cs → member (get_or sets j 0) g ≡ truth (get_or cs g no_guard) vs (state_at vs s)

-- of the sixteen states from one on, unless they are the first: what is known of a condition that names no variable which
-- changed is its truth there
pub record Carried (vs : List Var) (c : Cond) (named : ℕ) (changed : Option ℕ) (known : ℕ → Bool) (from : ℕ) : Type 0
  where
    pub each : SomeApart named changed → (j : ℕ) → j < 16 → from + j < count vs
        → known j ≡ truth c vs (state_at vs (from + j))

-- the same of some conditions
unfoldable pub CarriedAll : List Var → List Cond → List ℕ → Option ℕ → List ℕ → ℕ → Type 0
CarriedAll vs cs named changed sets from =
    (g : ℕ) → g < length cs
    → Carried vs (get_or cs g no_guard) (get_or named g 0) changed (λ j. member (get_or sets j 0) g) from
