-- `draws::next` meets its contract: what 32 bits keep of a sum is what they keep of it with what they keep of a product.
use Rattle.std.proofs.Common.{arith}
use Rattle.machine.specs.Load.{drawn}
use Rattle.draws.proofs.next.Goals as goal

pub returns : goal.returns
unfolding drawn
returns c = omega arith
