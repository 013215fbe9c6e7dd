-- What the parts of looking up say of the slices alone, and of values and ranges.
use Rattle.std.specs.Prelude.{ℕ, ◌+◌, ◌*◌, ◌<◌, ◌≡◌, Bool, true, false, ◌↔◌, List, length, get_or, eqb, ltb}
use Rattle.syntax.specs.Limits.{most_vars}
use Rattle.machine.specs.Limits.{most_states}
use Rattle.sets.specs.Set.{member}
use Rattle.syntax.specs.Tree.{Var}
use Rattle.meaning.specs.Runs.{State}
use Rattle.meaning.specs.Outline.{held_values}
use Rattle.lookup.specs.Looked.{faults_mark, never_mark}

-- what a body does, by whether the kept condition and its guard hold and by how its outcome is held
unfoldable pub move_by : Bool → Bool → ℕ → ℕ
move_by true true to = elim (eqb to most_states) [ true ↦ faults_mark | false ↦ to ]
move_by true false to = never_mark
move_by false g to = never_mark

unfoldable pub move_in : ℕ → List ℕ → Bool → ℕ → List ℕ → ℕ → ℕ → ℕ
move_in regions guard_of kept holds after n r =
    elim (ltb r regions) [
      | true ↦ move_by kept (member holds (get_or guard_of r 0)) (get_or after (r * most_states + n) 0)
      | false ↦ never_mark
    ]

-- the first values are a state's
unfoldable pub Within : List Var → List ℕ → Bool → Type 0
Within vs values r = (r ≡ true) ↔ State vs (held_values (length vs) values)

-- the first n values, and 128 behind them
unfoldable pub slot_of : ℕ → List ℕ → ℕ → ℕ
slot_of n values k = elim (ltb k n) [ true ↦ get_or values k 0 | false ↦ 128 ]

pub record Trimmed (n : ℕ) (values held : List ℕ) : Type 0 where
  pub slots : length held ≡ most_vars
  pub each : (k : ℕ) → k < most_vars → get_or held k 0 ≡ slot_of n values k
