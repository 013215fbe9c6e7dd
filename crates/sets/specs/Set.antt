-- A set of numbers below sixteen (threads, guards, tries) as a number: t is bit t.
use Rattle.std.specs.Prelude.{ℕ, zero, suc, ◌/◌, ◌%◌, ◌^◌, Bool, true, false, eqb}

unfoldable pub member : ℕ → ℕ → Bool
member s t = eqb (s / 2 ^ t % 2) 1

-- how many of the numbers below n are members
unfoldable pub size : ℕ → ℕ → ℕ
size s zero = 0
size s (suc n) = elim (member s n) [ true ↦ suc (size s n) | false ↦ size s n ]
