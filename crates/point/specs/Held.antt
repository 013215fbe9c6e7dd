-- A point as the code holds it, and the bytes that it writes of it.
use Rattle.std.specs.Prelude.{ℕ, ◌%◌, ◌/◌, List, [], ◌∷◌, ◌++◌, get_or}
use Rattle.std.specs.Int.Bits.{bit_or}
use Rattle.syntax.specs.Limits.{most_vars}
use Rattle.machine.specs.Monitor.{Place, idle, waiting, due}
use Rattle.meaning.specs.Decide.Table.{for_each}
use Rattle.point.specs.declared.Point.{Point}

-- a place as three numbers that have no bit in common
unfoldable pub region_part : Place → ℕ
region_part idle = 0
region_part (waiting r) = r
region_part (due r) = r

unfoldable pub due_part : Place → ℕ
due_part idle = 0
due_part (waiting r) = 0
due_part (due r) = 16

unfoldable pub idle_part : Place → ℕ
idle_part idle = 255
idle_part (waiting r) = 0
idle_part (due r) = 0

unfoldable pub held_byte : Place → ℕ
held_byte p = bit_or (bit_or (region_part p) (due_part p)) (idle_part p)

-- a set, the values with 128 added, and sixteen bytes
unfoldable pub held_set : ℕ → List ℕ
held_set n = n % 256 ∷ n / 256 ∷ []

unfoldable pub held_value : List ℕ → ℕ → List ℕ
held_value values k = get_or values k 0 % 256 ∷ []

unfoldable pub held_each : List ℕ → ℕ → List ℕ
held_each bytes t = get_or bytes t 0 ∷ []

-- what both machines have in common, a machine's notices, and the table's part
unfoldable pub held_shared : List ℕ → List ℕ → ℕ → List ℕ
held_shared values bytes guards =
    for_each most_vars 0 (held_value values) ++ (for_each 16 0 (held_each bytes) ++ held_set guards)

unfoldable pub held_notices : ℕ → ℕ → List ℕ
held_notices now told = held_set now ++ held_set told

unfoldable pub held_table : ℕ → ℕ → ℕ → List ℕ
held_table there now told = there ∷ held_notices now told

unfoldable pub held_point : (values bytes : List ℕ) (guards plain told there table woken : ℕ) (turns : List ℕ) → List ℕ
held_point values bytes guards plain told there table woken turns =
    (held_shared values bytes guards ++ held_notices plain told)
    ++ (held_table there table woken ++ for_each 16 0 (held_each turns))

-- all of a point, as it is handed over
abbrev pub bytes_of : Point → List ℕ
bytes_of p = held_point p.values p.places p.guards p.plain.now p.plain.told p.there p.table.now p.table.told p.turns
