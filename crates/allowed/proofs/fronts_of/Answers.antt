-- `allowed::fronts_of` meets its contract: without a broadcast, told on all guards that hold are the first on each.
use mathlib.Core.Path.{ap, ◌∙◌}
use Rattle.waiters.specs.Told.{new_first}
use Rattle.allowed.proofs.Taking.{front_told}
use Rattle.allowed.proofs.fronts_of.Goals as goal

pub returns : goal.returns
returns c queued none u h w e =
    rw c.from.ensures at (c.told-told.ensures queued u h).1 ∙ ap (new_first _ _ _ _ _ u) e ∙ front_told _ _ _ _ _ u w none
