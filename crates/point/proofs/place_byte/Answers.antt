-- `point::place_byte` meets its contract.
use Prim.Native.Nat.{ℕ}
use mathlib.Core.Path.{ap₂}
use lib.Bits.{bit_or}
use Rattle.point.specs.Held.{held_byte}
use Rattle.point.proofs.place_byte.Goals as goal

pub returns : goal.returns
unfolding held_byte
returns c =
    ap₂ (λ (x y : ℕ). bit_or x y)
    (ap₂ (λ (x y : ℕ). bit_or x y) c.region_part.ensures c.due_part.ensures)
    c.idle_part.ensures
