use Prim.Native.Nat.{ℕ, ◌+◌, ◌≤◌, ◌<◌}
use mathlib.Core.Path.{◌≡◌}
use mathlib.Core.List.{List}
use lib.ListN.{length, get_or}
use Rattle.sets.specs.Set.{member}
use Rattle.syntax.specs.Tree.{Var, Cond}
use Rattle.meaning.specs.Value.{truth}
use Rattle.meaning.specs.State.{count, state_at}
use Rattle.meaning.specs.Model.{no_guard}
use Rattle.variables.specs.declared.Bounds.{Bounds}
use Rattle.lanes.specs.Promises.{Sixteen, Values}
use Rattle.truths.specs.Carried.{Conditions, CarriedAll}
use Rattle.truths.proofs.truths_from.Given as goal

abbrev pub invariant-loop-g : goal.invariant-loop-g
invariant-loop-g l =
    (l.g ≤ l.texts.count) × (length l.sets ≡ length l.initial.sets)
    × ((j u : ℕ) → j < 16 → l.g ≤ u → member (get_or l.sets j 0) u ≡ member (get_or l.initial.sets j 0) u)
    × ((vs : List Var) (cs : List Cond) (bounds : Bounds) (from : ℕ)
    → Conditions vs cs l.kinds l.values bounds l.texts.ats l.texts.named l.texts.count
    → Sixteen vs (Values vs l.lanes) from → CarriedAll vs cs l.texts.named l.changed l.initial.sets from
    → (u : ℕ) → u < l.g → (j : ℕ) → j < 16 → from + j < count vs
    → member (get_or l.sets j 0) u ≡ truth (get_or cs u no_guard) vs (state_at vs (from + j)))
