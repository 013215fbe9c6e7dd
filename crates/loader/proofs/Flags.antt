-- The flags of the regions hold the places of a file's monitor.
use Prim.Native.Nat.{ℕ, ◌<◌}
use mathlib.Core.Path.{◌≡◌}
use mathlib.Core.List.{List}
use lib.ListN.{length, get_or}
use Rattle.syntax.specs.Tree.{Monitor, all}
use Rattle.logic.specs.Tests.{bit}
use Rattle.machine.specs.Held.{follows_by, HeldPlaces}
use Rattle.meaning.specs.Model.{begins_in, regions, follows, model}

pub held_places : {begins going_on : List ℕ} (m : Monitor)
    → ((r : ℕ) → r < length (regions m) → get_or begins r 0 ≡ bit (begins_in (all m.methods) r))
    → ((r : ℕ) → r < length (regions m) → follows m r ≡ follows_by r (get_or going_on r 0))
    → HeldPlaces (model m) begins going_on
unfolding model
held_places m by_begins by_follows =
    record { by_begins = by_begins; by_follows = by_follows }
