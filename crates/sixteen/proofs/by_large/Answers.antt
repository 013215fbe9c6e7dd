-- `sixteen::by_large` meets its contract: each call gives the remainder of its lane, by a comparison.
use lib.ListN.{get_or}
use Rattle.std.proofs.Common.{of_calls}
use Rattle.sixteen.proofs.Arrays.{made_each}
use Rattle.sixteen.proofs.Division.{large}
use Rattle.sixteen.proofs.by_large.Goals as goal

pub returns : goal.returns
returns c =
    made_each _ (λ k y q called. (rw (large (get_or c.args.lanes k 0) _ c.requires) (search of_calls), search of_calls)) 0 c.from_fn.ensures.items
