use Prim.Native.Nat.{◌≤◌}
use Rattle.meaning.specs.Decide.Table.{for_each}
use Rattle.table.specs.Slices.{line_at}
use Rattle.digits.specs.Written.{Writes}
use Rattle.table.proofs.write_region.Given as goal

abbrev pub invariant-loop-g : goal.invariant-loop-g
invariant-loop-g l =
    Writes (for_each l.g 0 (line_at l.entries l.r)) l.initial.table l.at l.next l.table × (l.g ≤ l.guards)
