-- The lines of a table ("The table").
use Rattle.std.specs.Prelude.{ℕ, ◌<◌, ◌≡◌, Bool, ◌⊎◌}
use mathlib.Core.List.{List, [], ◌∷◌, ◌++◌, Memᴰ}
use Rattle.meaning.specs.Hex.{hex2, hex_bool}

-- a line of the table: "region, guard, 01 unconditional or 00 conditional, 01 broadcast or 00 signal" (R 7.10)
pub record Row : Type 0 where
  pub region : ℕ
  pub guard : ℕ
  pub unconditional : Bool
  pub broadcast : Bool

-- (R 7.10)
unfoldable pub row_line : Row → List ℕ
row_line w =
    hex2 w.region ++ (hex2 w.guard ++ (hex_bool w.unconditional ++ (hex_bool w.broadcast ++ (10 ∷ []))))

-- (R 7.12)
unfoldable pub row_lines : List Row → List ℕ
row_lines [] = []
row_lines (w ∷ ws) = row_line w ++ row_lines ws

-- by region, and then by guard (R 7.9)
unfoldable pub Before : Row → Row → Type 0
Before w v = (w.region < v.region) ⊎ ((w.region ≡ v.region) × (w.guard < v.guard))

-- each row stands before all that follow (R 7.9)
pub data Increasing : List Row → Type 0 where
  no_row : Increasing []
  one_row : {w : Row} {ws : List Row} → ((v : Row) → Memᴰ v ws → Before w v) → Increasing ws → Increasing (w ∷ ws)

-- a row whose numbers have two digits (R 7.10)
unfoldable pub Small : Row → Type 0
Small w = (w.region < 256) × (w.guard < 256)
