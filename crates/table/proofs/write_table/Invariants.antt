use Prim.Native.Nat.{◌≤◌}
use Rattle.meaning.specs.Decide.Table.{for_each}
use Rattle.table.specs.Slices.{lines_at}
use Rattle.digits.specs.Written.{Writes}
use Rattle.table.proofs.write_table.Given as goal

abbrev pub invariant-loop-r : goal.invariant-loop-r
invariant-loop-r l =
    Writes (for_each l.r 0 (lines_at l.entries l.guards)) l.initial.table 0 l.at l.table × (l.r ≤ l.regions)
