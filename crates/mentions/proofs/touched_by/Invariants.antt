use Prim.Native.Nat.{◌≤◌}
use mathlib.Core.Bool.{◌&&◌}
use lib.ListN.{get_or}
use lib.Dec.{ltb}
use Rattle.mentions.specs.Gathered.{meet_below}
use Rattle.mentions.proofs.Growing.{Upto}
use Rattle.mentions.proofs.touched_by.Given as goal

abbrev pub invariant-loop-guard : goal.invariant-loop-guard
invariant-loop-guard l =
    (l.guard ≤ 16) × Upto l.guard (λ u. ltb u l.guards && meet_below l.variables (get_or l.named u 0) l.assigned) l.set
