-- `sixteen::by_small` meets its contract: each call gives the remainder of its lane, by a multiplication.
use Rattle.std.proofs.Common.{of_calls}
use Rattle.sixteen.specs.Rest.{rest}
use Rattle.sixteen.proofs.Arrays.{made_each}
use Rattle.sixteen.proofs.by_small.Goals as goal

pub returns : goal.returns
unfolding rest
returns c = made_each _ (λ k y q called. search of_calls) 0 c.from_fn.ensures.items
