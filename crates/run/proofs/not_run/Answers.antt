-- `run::not_run` meets its contract: the answer that is said, and no record.
use mathlib.Core.Path.{refl}
use Rattle.run.specs.Results.{Runs}
use Rattle.run.proofs.not_run.Goals as goal

pub returns : goal.returns
unfolding Runs
returns c = (c.from.ensures, c.no_record.ensures, refl)
