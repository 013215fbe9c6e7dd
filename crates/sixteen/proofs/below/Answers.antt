-- `sixteen::below` meets its contract: each call gives the test of its lane.
use mathlib.Core.Bool.{false}
use Rattle.std.proofs.Common.{of_calls}
use Rattle.sixteen.proofs.Arrays.{made_each}
use Rattle.sixteen.proofs.below.Goals as goal

pub returns : goal.returns
returns c = made_each _ (λ k y q called. search of_calls) false c.from_fn.ensures.items
