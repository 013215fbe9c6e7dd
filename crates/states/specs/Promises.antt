-- What the slices say of a region at a state.
use Rattle.std.specs.Prelude.{ℕ, ◌<◌, ◌≡◌, Bool, ◌&&◌, List, get_or, eqb, ℤ}
use Rattle.sets.specs.Set.{member}
use Rattle.syntax.specs.Tree.{Var, Region}
use Rattle.meaning.specs.Value.{truth}
use Rattle.meaning.specs.State.{count, state_at}
use Rattle.states.specs.Rows.{TruthRow}

-- the truth of a test and of a region's guard at every state is held
pub record Looked (vs : List Var) (keep : List ℤ → Bool) (q : Region) (guard : ℕ) (kept holds : List ℕ) : Type 0 where
  pub by_kept : TruthRow vs keep kept
  pub by_guard : (s : ℕ) → s < count vs → member (get_or holds s 0) guard ≡ truth q.guard vs (state_at vs s)

-- kept condition and guard hold at a state
unfoldable pub runs_by : List ℕ → List ℕ → ℕ → ℕ → Bool
runs_by kept holds guard s = eqb (get_or kept s 0) 1 && member (get_or holds s 0) guard
