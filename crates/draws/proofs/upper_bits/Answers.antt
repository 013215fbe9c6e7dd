-- `draws::upper_bits` meets its contract: the quotient by 2 ^ 16.
use Rattle.std.proofs.Common.{refl}
use Rattle.machine.specs.Load.{upper}
use Rattle.draws.proofs.upper_bits.Goals as goal

pub returns : goal.returns
unfolding upper
returns c = refl
