-- Two bytes, digits or not: their value, or one more than the greatest value.
use Rattle.std.specs.Prelude.{ℕ, ◌+◌, ◌*◌, true, false, ◌&&◌}
use Rattle.meaning.specs.Decide.Frames.{is_hex, hex_value}

unfoldable pub pair_of : ℕ → ℕ → ℕ
pair_of a b = elim (is_hex a && is_hex b) [ true ↦ hex_value a * 16 + hex_value b | false ↦ 256 ]
