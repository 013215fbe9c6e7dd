-- `lookup::Here::move_of` meets its contract: behind the regions nothing runs, and before it is `move_by`'s.
use native.Mathlib.Omega.{arith}
use mathlib.Core.Path.{◌∙◌}
use Rattle.lookup.proofs.Moving.{move_behind, move_inside}
use Rattle.lookup.proofs.Here.move_of.Goals as goal

pub returns-then-self-r : goal.returns-then-self-r
returns-then-self-r c = move_behind _ _ _ _ _ _ _ c.if-self-r.true

pub returns : goal.returns
returns c = (rw c.from.ensures at c.move_by.ensures) ∙ move_inside _ _ _ _ _ _ _ (omega (arith, c.if-self-r.false))
