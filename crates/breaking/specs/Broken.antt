-- What the slices say of refusal 9, and its answer.
use Rattle.std.specs.Prelude.{ℕ, ◌<◌, ◌≡◌, Bool, true, false, not, ◌&&◌, ◌||◌, List, get_or, eqb, Option, Some, None}
use Rattle.std.proofs.Math.Option as math
use Rattle.std.proofs.Math.Option.{none, some}
use Rattle.states.specs.Rows.{fault_mark}
use Rattle.states.specs.Promises.{runs_by}

-- an outcome is a fault, or a state at which the kept condition is false
unfoldable pub fails_by : List ℕ → ℕ → Bool
fails_by kept to = eqb to fault_mark || not (eqb (get_or kept to 0) 1)

unfoldable pub breaks_by : List ℕ → List ℕ → ℕ → ℕ → ℕ → Bool
breaks_by kept holds guard s to = fails_by kept to && runs_by kept holds guard s

-- the lowest number below n that passes a test, or none where none does
pub record LowestAt (p : ℕ → Bool) (n s : ℕ) : Type 0 where
  pub within : s < n
  pub passes : p s ≡ true
  pub lower : (k : ℕ) → k < s → p k ≡ false

unfoldable pub Lowest : (ℕ → Bool) → ℕ → Option ℕ → Type 0
Lowest p n (Some s) = LowestAt p n s
Lowest p n None = (k : ℕ) → k < n → p k ≡ false

-- the answer for refusal 9
unfoldable pub BrokenAs : Option (ℕ × ℕ) → math.Option (ℕ × ℕ) → Type 0
BrokenAs b none = b ≡ None
BrokenAs b (some rn) = b ≡ Some (rn.0, rn.1)
