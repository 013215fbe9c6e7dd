use mathlib.Core.Path.{◌≡◌}
use mathlib.Core.Bool.{not, ◌&&◌}
use lib.Dec.{eqb}
use Rattle.logic.specs.Tests.{any}
use Rattle.machine.specs.Decide.Step.{is_due}
use Rattle.threads.specs.Held.{places_of}
use Rattle.stepper.proofs.other_due.Given as goal

abbrev pub invariant-loop-u : goal.invariant-loop-u
invariant-loop-u l = l.found ≡ any l.u (λ v. not (eqb v l.t) && is_due (places_of l.each v))
