-- What filling the slices from a file whose names and braces are resolved says: refusals 8 and 9.
use Rattle.std.specs.Prelude.{ℕ, ◌≡◌, true, false, List, length}
use Rattle.std.proofs.Math.Option.{none, some}
use Rattle.syntax.specs.Tree.{Monitor}
use Rattle.meaning.specs.State.{starts}
use Rattle.meaning.specs.Kept.{kept_at}
use Rattle.meaning.specs.Answer.{answer}
use Rattle.meaning.specs.Decide.Check.{broken}
use Rattle.meaning.specs.Model.{vars}
use Rattle.states.specs.Rows.{KeptAll, HoldsAll, AfterAll, Outcomes}
use Rattle.answers.specs.Says.{Says}
use Rattle.choice.specs.Chosen.{Chooses}
use Rattle.filling.specs.declared.Settled.{Settled}

-- the kept condition, the guards that hold and the outcomes of the bodies, at every state
pub record Rows (m : Monitor) (kept holds after : List ℕ) : Type 0 where
  pub by_kept : KeptAll m kept
  pub by_holds : HoldsAll m holds
  pub outcomes : Outcomes m after

-- each slice is as long as it was
abbrev pub AsLong : List ℕ → List ℕ → List ℕ → List ℕ → List ℕ → List ℕ → Type 0
AsLong kept₀ holds₀ after₀ kept holds after =
    (length kept ≡ length kept₀) × (length holds ≡ length holds₀) × (length after ≡ length after₀)

-- where 8 passes: 9 or 0, the choice, and the slices filled
pub record Settles (m : Monitor) (r : Settled) (kept holds after : List ℕ) : Type 0 where
  pub breaks : (k n : ℕ) → broken m ≡ some (k, n) → Says r.answer (answer 9 k n)
  pub passes : broken m ≡ none → Says r.answer (answer 0 0 0) × AfterAll m after
  pub rows : Rows m kept holds after
  pub choice : Chooses m r.choice

-- 8 with the place of `keep`, or what is settled behind it
pub record Filled (m : Monitor) (place : ℕ) (r : Settled) (kept holds after : List ℕ) : Type 0 where
  pub fails : kept_at m (starts (vars m)) ≡ false → Says r.answer (answer 8 place 0)
  pub settles : kept_at m (starts (vars m)) ≡ true → Settles m r kept holds after

-- what is left in the slices that are lent: those of a file refused otherwise than with 9 are as they were, and none changes
-- its length. What they hold where 8 passes, so beside 0 and 9, `Rows` says; left free is what stands behind the states.
pub record Leaves (number : ℕ) (kept₀ holds₀ after₀ kept holds after : List ℕ) : Type 0 where
  pub untouched : (number ≡ 0 → ⊥) → (number ≡ 9 → ⊥) → (kept ≡ kept₀) × (holds ≡ holds₀) × (after ≡ after₀)
  pub as_long : (length kept ≡ length kept₀) × (length holds ≡ length holds₀) × (length after ≡ length after₀)
