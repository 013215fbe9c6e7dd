-- `sixteen::by_number` meets its contract, part by part.
use Rattle.sixteen.proofs.by_number.Goals as goal

pub returns : goal.returns
returns c = record { value = c.by_divisor.ensures; none = c.lacking.ensures }
