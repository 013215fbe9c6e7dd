-- The numbers of a frame's line by arithmetic alone, where its bytes are known to be digits.
use Rattle.std.specs.Prelude.{ℕ, ◌+◌, ◌*◌, ◌/◌, ◌%◌, true, false, List, length, get_or, eqb, leb}
use Rattle.trace.specs.declared.Numbers.{Numbers}

unfoldable pub value_of : ℕ → ℕ
value_of b = (b % 16 + b / 64 * 9) % 16

-- all 0 past the last place where a line fits
unfoldable pub numbers_at : List ℕ → ℕ → Numbers
numbers_at trace at =
    elim (leb (at + 7) (length trace)) [
      | true ↦
          record {
            thread = value_of (get_or trace (at + 1) 0);
            region = value_of (get_or trace (at + 2) 0) * 16 + value_of (get_or trace (at + 3) 0);
            flag = eqb (get_or trace (at + 5) 0) 49;
          }
      | false ↦ record { thread = 0; region = 0; flag = false }
    ]
