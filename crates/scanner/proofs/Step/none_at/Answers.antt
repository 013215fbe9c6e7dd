-- `scanner::Step::none_at` meets its contract, by computation.
use mathlib.Core.Path.{refl}
use Rattle.scanner.specs.Step.{step_of}
use Rattle.scanner.proofs.Step.none_at.Goals as goal

pub returns : goal.returns
unfolding step_of
returns c = refl
