use Prim.Native.Nat.{ℕ, ◌-◌, ◌%◌, ◌≤◌, ◌<◌}
use mathlib.Core.Path.{◌≡◌}
use mathlib.Core.List.{List}
use lib.ListN.{length, get_or}
use Rattle.sets.specs.Set.{member}
use Rattle.logic.specs.Tests.{bit}
use Rattle.syntax.specs.Tree.{Var, Cond}
use Rattle.meaning.specs.Value.{truth}
use Rattle.meaning.specs.State.{count, state_at}
use Rattle.lanes.specs.Promises.{Sixteen, Values}
use Rattle.truths.specs.Carried.{Condition, Carried}
use Rattle.truths.proofs.fill_row.Given as goal

-- the truth at state n
abbrev pub Right : List Var → Cond → ℕ → ℕ → Type 0
Right vs d n x = n < count vs → x ≡ bit (truth d vs (state_at vs n))

abbrev pub invariant-loop-s : goal.invariant-loop-s
invariant-loop-s l =
    (l.s ≤ 4096) × (l.s % 16 ≡ 0) × (length l.row ≡ length l.initial.row)
    × ((vs : List Var) (d : Cond) → Condition vs d l.kinds l.values l.bounds l.at l.named
    → ((n : ℕ) → n < l.s → Right vs d n (get_or l.row n 0)) × Sixteen vs (Values vs l.lanes) l.s
    × Carried vs d l.named l.changed (member l.known) l.s)

abbrev pub decreases-loop-s : goal.decreases-loop-s
decreases-loop-s l = 4096 - l.s
