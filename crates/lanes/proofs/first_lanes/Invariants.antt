use Prim.Native.Nat.{ℕ, ◌≤◌, ◌<◌}
use mathlib.Core.Path.{◌≡◌}
use mathlib.Core.List.{List}
use lib.ListN.{length}
use Rattle.syntax.specs.Tree.{Var}
use Rattle.meaning.specs.State.{count}
use Rattle.variables.specs.Bounded.{Bounded}
use Rattle.lanes.specs.Promises.{InLane}
use Rattle.lanes.proofs.first_lanes.Given as goal

abbrev pub invariant-loop-s : goal.invariant-loop-s
invariant-loop-s l =
    (l.s ≤ 16) × (length l.lanes ≡ 96)
    × ((vs : List Var) → Bounded vs l.bounds → (u : ℕ) → u < l.s → u < count vs → InLane vs l.lanes u u)
