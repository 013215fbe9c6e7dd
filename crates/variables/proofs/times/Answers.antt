-- `variables::times` meets its contract: 65,536 is 2 ^ 16.
use Rattle.std.proofs.Common.{refl}
use Rattle.meaning.specs.SixteenBits.{wrapped}
use Rattle.variables.proofs.times.Goals as goal

pub returns : goal.returns
unfolding wrapped
returns c = refl
