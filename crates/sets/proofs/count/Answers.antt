-- `sets::count` meets its contract: a count of ones is the size.
use mathlib.Core.Path.{sym}
use Rattle.sets.proofs.SetLaws.{size_ones}
use Rattle.sets.proofs.count.Goals as goal

pub returns : goal.returns
returns c = sym (size_ones 16 c.args.set c.ranges.set.fits)
