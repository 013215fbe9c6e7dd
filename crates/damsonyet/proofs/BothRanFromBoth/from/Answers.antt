-- `BothRan::from` meets its contract: both results with bytes for places.
use Rattle.damsonyet.proofs.Flattened.{both_agree}
use Rattle.damsonyet.proofs.BothRanFromBoth.from.Goals as goal

pub returns : goal.returns
returns c file bytes s agrees = both_agree _ _ _ _ c.from.ensures c.from-2.ensures file bytes s agrees
