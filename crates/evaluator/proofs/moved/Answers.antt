-- `evaluator::moved` meets its contract: each call gives the number of its lane, of which the caller shows that it fits.
use Rattle.std.proofs.Common.{of_calls}
use Rattle.sixteen.proofs.Arrays.{made_each}
use Rattle.evaluator.proofs.moved.Goals as goal

pub returns : goal.returns
returns c = made_each _ (λ k y q called. search of_calls) 0 c.from_fn.ensures.items
