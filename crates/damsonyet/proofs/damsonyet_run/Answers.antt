-- `damsonyet::damsonyet_run` meets its contract: the machine's result with bytes for places.
use Rattle.damsonyet.proofs.Flattened.{ran_as}
use Rattle.damsonyet.proofs.damsonyet_run.Goals as goal

pub returns : goal.returns
returns c = ran_as _ _ c.from.ensures _ _ _ _ c.run.ensures
