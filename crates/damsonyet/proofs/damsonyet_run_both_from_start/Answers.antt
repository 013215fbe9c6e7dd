-- `damsonyet::damsonyet_run_both_from_start` meets its contract: both results with bytes for places.
use Rattle.damsonyet.proofs.damsonyet_run_both_from_start.Goals as goal

pub returns : goal.returns
returns c = c.from.ensures _ _ _ c.run_both_from_start.ensures
