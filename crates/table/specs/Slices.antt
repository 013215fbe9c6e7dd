-- What entries held as numbers spell. `proofs/Monitors.antt` ties this to the table of a monitor that has them.
use Rattle.std.specs.Prelude.{ℕ, zero, suc, ◌+◌, ◌*◌, ◌/◌, ◌%◌, List, get_or, eqb}
use Rattle.machine.specs.Limits.{most_regions}
use Rattle.machine.specs.Algorithm1.{Entry, none, entry}
use Rattle.meaning.specs.Decide.Table.{entry_line, for_each}

-- the entry that a number stands for
unfoldable pub entry_by : ℕ → Entry
entry_by zero = none
entry_by (suc n) = entry (eqb (suc n / 2 % 2) 1) (eqb (suc n / 4 % 2) 1)

-- the line of a region and a guard, those of a region's first guards, and those of the first regions
unfoldable pub line_at : (entries : List ℕ) (r g : ℕ) → List ℕ
line_at entries r g = entry_line r g (entry_by (get_or entries (r * most_regions + g) 0))

unfoldable pub lines_at : (entries : List ℕ) (guards r : ℕ) → List ℕ
lines_at entries guards r = for_each guards 0 (line_at entries r)

unfoldable pub table_at : (entries : List ℕ) (regions guards : ℕ) → List ℕ
table_at entries regions guards = for_each regions 0 (lines_at entries guards)
