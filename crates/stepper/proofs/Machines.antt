-- What is so of the plain machine's part and of the table's is so of either machine's.
use mathlib.Core.Path.{◌≡◌, refl, ap}
use mathlib.Core.Bool.{Bool, true, false}
use native.Mathlib.Omega.{arith}
use Rattle.logic.proofs.Bools.{clash}
use Rattle.std.specs.Prelude.{⊤, Result, Ok, Err}
use Rattle.std.specs.Result.{is_err}
use Rattle.stepper.specs.Shown.{of_machine}
use Rattle.stepper.specs.Answered.{answered, number_of}
use Rattle.stepper.specs.declared.Refusal.{Refusal}
use Rattle.stepper.specs.declared.Refusal.TheVariants.{Misplaced, NotAllowed}

pub each_machine : {A : Type 0} (P : Bool → A → Type 0) {plain table : A} → P false plain → P true table → (w : Bool)
    → P w (of_machine w plain table)
unfolding of_machine
each_machine P p t false = p
each_machine P p t true = t

pub alike_of : {A : Type 0} (w : Bool) (a : A) → of_machine w a a ≡ a
unfolding of_machine
alike_of false a = refl
alike_of true a = refl

-- what answers a frame, where it is said of both
pub answered_alike : (w : Bool) {p t : Result ⊤ Refusal} (a : Result ⊤ Refusal) → (p ≡ a) × (t ≡ a)
    → answered (of_machine w p t) ≡ answered a
answered_alike w a h = each_machine (λ _ r. answered r ≡ answered a) (ap answered h.0) (ap answered h.1) w

-- the test for a refusal by its number
pub refused_number : (r : Result ⊤ Refusal) → is_err r ≡ true → answered r ≡ 0 → ⊥
unfolding answered number_of
refused_number (Ok u) e z = clash e refl
refused_number (Err Misplaced) e z = absurd (omega arith)
refused_number (Err NotAllowed) e z = absurd (omega arith)

pub taken_number : (r : Result ⊤ Refusal) → is_err r ≡ false → answered r ≡ 0
unfolding answered
taken_number (Ok u) e = refl
taken_number (Err r) e = absurd (clash refl e)
