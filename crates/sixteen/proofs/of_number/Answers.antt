-- `sixteen::of_number` meets its contract, part by part.
use mathlib.Core.Path.{◌∙◌}
use lib.ListN.{get_or-replicate}
use Rattle.sixteen.proofs.of_number.Goals as goal

pub returns : goal.returns
returns c = record {
  value = λ j l. get_or-replicate 16 j _ 0 l ∙ c.remainder.ensures;
  none = c.lacking.ensures;
}
