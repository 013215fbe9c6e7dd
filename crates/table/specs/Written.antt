-- What writing a table does to a lent buffer.
use Rattle.std.specs.Prelude.{ℕ, ◌≤◌, ◌≡◌, true, false, List, ◌++◌, length, drop, ltb, Result, Ok, Err}
use Rattle.machine.specs.Limits.{most_regions}
use Rattle.table.specs.Slices.{table_at}
use Rattle.table.specs.declared.TooShort.{TooShort}

-- the answer, and every byte of the buffer afterwards: a buffer shorter than the table is left as it is
unfoldable pub placed_of : List ℕ → List ℕ → Result ℕ TooShort
placed_of table buffer = elim (ltb (length buffer) (length table)) [ true ↦ Err (record {}) | false ↦ Ok (length table) ]

unfoldable pub buffer_of : List ℕ → List ℕ → List ℕ
buffer_of table buffer =
    elim (ltb (length buffer) (length table)) [ true ↦ buffer | false ↦ table ++ drop (length table) buffer ]

pub record WritesTable (table before : List ℕ) (r : Result ℕ TooShort) (after : List ℕ) : Type 0 where
  pub answer : r ≡ placed_of table before
  pub buffer : after ≡ buffer_of table before

-- what writing entries says: the lines of so many regions and guards; where a count is too large, nothing is written
pub record PutsTable (entries : List ℕ) (regions guards : ℕ) (before : List ℕ) (r : Result ℕ TooShort) (after : List ℕ) : Type 0
  where
    pub written : regions ≤ most_regions → guards ≤ most_regions
        → WritesTable (table_at entries regions guards) before r after
    pub refused : (regions ≤ most_regions → guards ≤ most_regions → ⊥) → (r ≡ Err (record {})) × (after ≡ before)
