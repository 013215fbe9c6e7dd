-- `sixteen::both` meets its contract: one set, unless outside the other.
use mathlib.Core.Bool.{not-not}
use Rattle.sixteen.proofs.both.Goals as goal

pub returns : goal.returns
returns c = λ j l. rw (c.unless.ensures j l, c.other.ensures j l, not-not)
