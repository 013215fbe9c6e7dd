use Prim.Native.Nat.{ℕ, ◌-◌, ◌%◌, ◌≤◌, ◌<◌}
use mathlib.Core.Path.{◌≡◌}
use mathlib.Core.List.{List}
use lib.ListN.{length, get_or}
use Rattle.sets.specs.Set.{member}
use Rattle.syntax.specs.Tree.{Var, Cond}
use Rattle.meaning.specs.Value.{truth}
use Rattle.meaning.specs.State.{count, state_at}
use Rattle.meaning.specs.Model.{no_guard}
use Rattle.lanes.specs.Promises.{Sixteen, Values}
use Rattle.truths.specs.Carried.{Conditions, CarriedAll}
use Rattle.truths.proofs.fill_sets.Given as goal

-- the conditions that hold at state n
abbrev pub Right : List Var → List Cond → ℕ → ℕ → Type 0
Right vs cs n x = n < count vs → (g : ℕ) → g < length cs → member x g ≡ truth (get_or cs g no_guard) vs (state_at vs n)

abbrev pub invariant-loop-s : goal.invariant-loop-s
invariant-loop-s l =
    (l.s ≤ 4096) × (l.s % 16 ≡ 0) × (length l.row ≡ length l.initial.row) × (length l.sets ≡ 16)
    × ((vs : List Var) (cs : List Cond) → Conditions vs cs l.kinds l.values l.bounds l.texts.ats l.texts.named l.texts.count
    → ((n : ℕ) → n < l.s → Right vs cs n (get_or l.row n 0)) × Sixteen vs (Values vs l.lanes) l.s
    × CarriedAll vs cs l.texts.named l.changed l.sets l.s)

abbrev pub decreases-loop-s : goal.decreases-loop-s
decreases-loop-s l = 4096 - l.s
