use Prim.Native.Nat.{◌≤◌}
use mathlib.Core.Path.{◌≡◌}
use lib.ListN.{length}
use Rattle.allowed.proofs.Sums.{begun_by, Holds}
use Rattle.allowed.proofs.methods_of.Given as goal

abbrev pub invariant-loop-r : goal.invariant-loop-r
invariant-loop-r l =
    Holds l.first l.count (begun_by l.begins l.regions l.r) × (l.count ≤ l.r) × (l.r ≤ 16) × (length l.first ≡ 16)
