use Prim.Native.Nat.{◌*◌, ◌≤◌}
use mathlib.Core.Path.{◌≡◌}
use lib.ListN.{length}
use Rattle.meaning.specs.Decide.Table.{for_each}
use Rattle.table.specs.Slices.{lines_at}
use Rattle.table.proofs.count.Given as goal

abbrev pub invariant-loop-r : goal.invariant-loop-r
invariant-loop-r l =
    (l.n * 9 ≡ length (for_each l.r 0 (lines_at l.entries l.guards))) × (l.n ≤ l.r * 16) × (l.r ≤ l.regions)
