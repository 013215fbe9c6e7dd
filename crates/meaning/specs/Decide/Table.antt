-- The table's bytes, computed. `proofs/TableLines` shows that they are the lines of the entries that stand, in order.
use Rattle.std.specs.Prelude.{ℕ, zero, suc, ◌+◌, List, [], ◌∷◌, ◌++◌}
use Rattle.machine.specs.Monitor as machine
use Rattle.machine.specs.Algorithm1.{Entry, entry}
use Rattle.machine.specs.Decide.Table.{entry_of}
use Rattle.machine.specs.Algorithm1 as table
use Rattle.meaning.specs.Hex.{hex2, hex_bool}

-- "region, guard, 01 unconditional or 00 conditional, 01 broadcast or 00 signal, two digits each"
unfoldable pub entry_line : ℕ → ℕ → Entry → List ℕ
entry_line r g table.none = []
entry_line r g (entry a b) = hex2 r ++ (hex2 g ++ (hex_bool a ++ (hex_bool b ++ (10 ∷ []))))

-- what a function gives for each of n numbers from k on, joined
unfoldable pub for_each : ℕ → ℕ → (ℕ → List ℕ) → List ℕ
for_each zero k f = []
for_each (suc n) k f = f k ++ for_each n (k + 1) f

-- "For each region and each guard, in that order"
unfoldable pub table_of : machine.Monitor → List ℕ
table_of m = for_each m.regions 0 (λ r. for_each m.guards 0 (λ g. entry_line r g (entry_of m r g)))
