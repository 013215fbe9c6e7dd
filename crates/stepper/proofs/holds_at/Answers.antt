-- `stepper::holds_at` meets its contract: it is the look-up.
use Rattle.waiters.specs.Slices.{holds_at}
use Rattle.stepper.proofs.holds_at.Goals as goal

pub returns : goal.returns
unfolding holds_at
returns c = c.has.ensures
