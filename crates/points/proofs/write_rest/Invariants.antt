use Prim.Native.Nat.{ℕ, ◌+◌}
use mathlib.Core.Path.{◌≡◌}
use mathlib.Core.List.{List}
use lib.ListN.{length}
use Rattle.syntax.specs.Tree.{Monitor}
use Rattle.machine.specs.Monitor.{Frame}
use Rattle.meaning.specs.Model.{model}
use Rattle.run.specs.Way.{Way}
use Rattle.points.specs.Written.{PointsAsked, Listed}
use Rattle.points.proofs.write_rest.Given as goal

abbrev pub invariant-loop-k : goal.invariant-loop-k
invariant-loop-k l =
    (length l.out ≡ length l.initial.out)
    × ((m : Monitor) (kept : List ℕ) (fs : List Frame) (s : ℕ) (before : List ℕ)
    → PointsAsked l.bytes s l.bounds l.guards l.slices.holds.now l.slices.after.now l.slices.guard_of.now l.slices.begins.now
    l.slices.goes_on.now l.slices.entries.now l.slices.regions before m kept fs → length before ≡ length l.initial.out
    → Way (model m) s fs l.initial.going 0 → Listed m s fs 1 before l.next l.initial.out
    → Way (model m) s fs l.going l.k × Listed m s fs (l.k + 1) before l.to l.out)
