-- `evaluator::merged` meets its contract: each call gives the number that its lane's truth chooses.
use Rattle.std.proofs.Common.{of_calls}
use Rattle.sixteen.proofs.Arrays.{made_each}
use Rattle.evaluator.proofs.merged.Goals as goal

pub returns : goal.returns
returns c = made_each _ (λ k y q called. search of_calls) 0 c.from_fn.ensures.items
