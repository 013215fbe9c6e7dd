-- What answers a frame, by numbers: 0 where it is taken, and a refusal's own.
use Rattle.std.specs.Prelude.{ℕ, ⊤, Result, Ok, Err}
use Rattle.stepper.specs.declared.Refusal.{Refusal}
use Rattle.stepper.specs.declared.Refusal.TheVariants.{Misplaced, NotAllowed}

unfoldable pub number_of : Refusal → ℕ
number_of Misplaced = 13
number_of NotAllowed = 14

unfoldable pub answered : Result ⊤ Refusal → ℕ
answered (Ok _) = 0
answered (Err r) = number_of r
