-- `rows::try_texts` meets its contract.
use mathlib.Core.Path.{refl}
use Rattle.rows.proofs.try_texts.Goals as goal

pub returns : goal.returns
returns c = record { places = refl; named = refl; counted = refl }
