-- `sixteen::by_lanes` meets its contract: each call gives the remainder of its lane, and what lacks is where the divisor is
-- not above 0.
use lib.ListN.{get_or-replicate}
use Rattle.std.proofs.Common.{of_calls}
use Rattle.sixteen.proofs.Arrays.{made_each}
use Rattle.sixteen.proofs.by_lanes.Goals as goal

pub returns : goal.returns
returns c = record {
  value = made_each _ (λ k y q called. search of_calls) 0 c.from_fn.ensures.items;
  none = λ j l. rw (
    c.mask.ensures j l,
    c.other.ensures j l,
    c.below.ensures j l,
    get_or-replicate 16 j c.args.less 0 l,
  );
}
