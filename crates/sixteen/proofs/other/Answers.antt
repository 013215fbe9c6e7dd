-- `sixteen::other` meets its contract: all lanes, unless they are in the set.
use mathlib.Core.Bool.{true, false}
use lib.ListN.{get_or-replicate}
use Rattle.sixteen.proofs.other.Goals as goal

pub returns : goal.returns
returns c = λ j l. rw (c.unless.ensures j l, get_or-replicate 16 j true false l)
