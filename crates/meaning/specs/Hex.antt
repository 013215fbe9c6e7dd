-- Hexadecimal digits, 0-9 and A-F, as the formats have them.
use Rattle.std.specs.Prelude.{ℕ, ◌+◌, ◌/◌, ◌%◌, Bool, true, false, List, [], ◌∷◌, ltb}

-- The table's lines

-- one of the digits 0-9 and A-F (R 7.11)
unfoldable pub hex_digit : ℕ → ℕ
hex_digit n = elim (ltb n 10) [ true ↦ n + 48 | false ↦ n + 55 ]

-- a pair, the high one first (R 7.11)
unfoldable pub hex2 : ℕ → List ℕ
hex2 n = hex_digit (n / 16) ∷ hex_digit (n % 16) ∷ []

-- 01 or 00 (R 7.10, 8.6)
unfoldable pub hex_bool : Bool → List ℕ
hex_bool true = hex2 1
hex_bool false = hex2 0
