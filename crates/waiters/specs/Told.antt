-- Whom a body notifies anew, by the guards that it has made true.
use Rattle.std.specs.Prelude.{ℕ, ◌+◌, ◌*◌, ◌/◌, ◌%◌, Bool, false, not, ◌&&◌, ◌||◌, List, get_or, eqb}
use Rattle.machine.specs.Limits.{most_regions}
use Rattle.sets.specs.Set.{member}
use Rattle.machine.specs.Monitor.{Place, idle, waiting, due, Threads}
use Rattle.machine.specs.Decide.Step.{next}
use Rattle.waiters.specs.Slices.{guard_at, holds_at, guards_only}

-- a guard that was false and is true
unfoldable pub becomes_at : List ℕ → ℕ → ℕ → ℕ → Bool
becomes_at hs s s' g = holds_at hs g s' && not (holds_at hs g s)

-- a broadcast, by an entry's number
unfoldable pub broadcast_at : List ℕ → ℕ → ℕ → Bool
broadcast_at es r g = eqb (get_or es (r % most_regions * most_regions + g % most_regions) 0 / 4 % 2) 1

-- the guard of a waiter's place is one of some
unfoldable pub on_one : List ℕ → (ℕ → Bool) → Place → Bool
on_one gs some idle = false
on_one gs some (waiting w) = some (guard_at gs w)
on_one gs some (due w) = false

-- whether a region's entry tells the waiter at a place: its guard is broadcast to, or nobody ahead waits on it, where `met` are
-- the guards that those ahead wait on
unfoldable pub told_behind : List ℕ → List ℕ → ℕ → ℕ → Place → Bool
told_behind gs es r met idle = false
told_behind gs es r met (waiting w) = broadcast_at es r (guard_at gs w) || not (member met (guard_at gs w))
told_behind gs es r met (due w) = false

-- the same by the queue: thread u waits on one of some guards, and is first on it or the guard is broadcast to
unfoldable pub new_first : List ℕ → List ℕ → (ℕ → Bool) → Threads → ℕ → ℕ → Place → Bool
new_first gs es some p r u idle = false
new_first gs es some p r u (waiting w) =
    some (guard_at gs w) && (broadcast_at es r (guard_at gs w) || next (guards_only gs) p (guard_at gs w) u)
new_first gs es some p r u (due w) = false
