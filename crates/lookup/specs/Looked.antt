-- A state by its number and back, as the code returns it, against `meaning/specs/Outline`: every part.
use Rattle.std.specs.Prelude.{ℕ, ◌<◌, ◌≤◌, ◌≡◌, true, false, List, length, get_or, replicate}
use Rattle.syntax.specs.Limits.{most_vars}
use Rattle.machine.specs.Limits.{most_regions}
use Rattle.sets.specs.Set.{member}
use Rattle.syntax.specs.Tree.{Var, Monitor}
use Rattle.meaning.specs.State.{count, state_at, number_of}
use Rattle.meaning.specs.Held.{Biased}
use Rattle.meaning.specs.Runs.{State}
use Rattle.meaning.specs.Model.{vars, regions, guards, holds, kept}
use Rattle.meaning.specs.Outline.{Move, never, faults, ends, move, held_values}
use Rattle.variables.specs.Bounded.{Bounded}
use Rattle.variables.specs.declared.Bounds.{Bounds}
use Rattle.layout.specs.declared.Layout.{Layout}
use Rattle.states.specs.Rows.{GuardNumbers, KeptAll, HoldsAll, Outcomes}
use Rattle.lookup.specs.declared.State as code
use Rattle.lookup.specs.declared.Numbered.{Numbered}

-- what is asked: the slices hold the truths and the outcomes of a file's states
pub record Looked (m : Monitor) (b : Bounds) (l : Layout) (kept' holds' after' : List ℕ) : Type 0 where
  pub bounded : Bounded (vars m) b
  pub region_count : l.regions ≡ length (regions m)
  pub guard_count : l.guards ≡ length (guards m)
  pub few_regions : length (regions m) ≤ most_regions
  pub guard_numbers : GuardNumbers m l.guard_of
  pub by_kept : KeptAll m kept'
  pub by_holds : HoldsAll m holds'
  pub outcomes : Outcomes m after'

-- a move as a number: in the place of a state after a body, that it faults or does not run (R 16.14)
abbrev pub faults_mark : ℕ
faults_mark = 65534

abbrev pub never_mark : ℕ
never_mark = 65535

unfoldable pub move_number : Move → ℕ
move_number never = never_mark
move_number faults = faults_mark
move_number (ends n) = n

-- a number that is no state's, or of a file that is refused otherwise than with 9: nothing (R 16.13)
pub record NoState (r : code.State) : Type 0 where
  pub known : r.known ≡ false
  pub kept : r.kept ≡ false
  pub vars : r.vars ≡ 0
  pub values : r.values ≡ replicate most_vars 0
  pub holds : r.holds ≡ 0
  pub after : r.after ≡ replicate most_regions 0

-- a state: the kept condition, the values, the guards that hold, and what each region's body does (R 16.13, 16.14)
pub record ThisState (m : Monitor) (n : ℕ) (r : code.State) : Type 0 where
  pub known : r.known ≡ true
  pub is_kept : r.kept ≡ kept m n
  pub var_count : r.vars ≡ length (vars m)
  pub values : Biased (vars m) (state_at (vars m) n) r.values
  pub guards : (g : ℕ) → g < most_regions → member r.holds g ≡ holds m g n
  pub after : (q : ℕ) → q < most_regions → get_or r.after q 0 ≡ move_number (move m q n)

pub record StateIs (m : Monitor) (n : ℕ) (r : code.State) : Type 0 where
  pub told : n < count (vars m) → ThisState m n r
  pub untold : count (vars m) ≤ n → NoState r

-- the number of a state by its values: where each is in its variable's range, that of the state (R 16.15)
pub record NoNumber (r : Numbered) : Type 0 where
  pub known : r.known ≡ false
  pub number : r.number ≡ 0

pub record NumberIs (vs : List Var) (values : List ℕ) (r : Numbered) : Type 0 where
  pub told : State vs (held_values (length vs) values)
      → (r.known ≡ true) × (r.number ≡ number_of vs (held_values (length vs) values))
  pub untold : (State vs (held_values (length vs) values) → ⊥) → NoNumber r
