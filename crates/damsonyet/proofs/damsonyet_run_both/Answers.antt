-- `damsonyet::damsonyet_run_both` meets its contract: both results with bytes for places.
use Rattle.damsonyet.proofs.damsonyet_run_both.Goals as goal

pub returns : goal.returns
returns c = c.from.ensures _ _ _ c.run_both.ensures
