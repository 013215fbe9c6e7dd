-- `rows::guard_texts` meets its contract.
use mathlib.Core.Path.{refl}
use Rattle.rows.proofs.guard_texts.Goals as goal

pub returns : goal.returns
returns c = record { places = c.guards_at-ats.ensures; named = refl; counted = refl }
