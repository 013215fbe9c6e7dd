-- Where a thread is after a body, and who waits on a guard, as the code asks it of single slices.
use Prim.Native.Nat.{ℕ, zero, suc, ◌+◌}
use mathlib.Core.Path.{◌≡◌, refl}
use mathlib.Core.List.{List}
use Rattle.machine.specs.Monitor as machine
use Rattle.machine.specs.Monitor.{on_guard}
use Rattle.machine.specs.Held.{follows_by}
use Rattle.waiters.specs.Slices.{slices, guards_only}

pub follows_due : (r n : ℕ) → (n ≡ 0 → ⊥) → follows_by r n ≡ machine.due (r + 1)
unfolding follows_by
follows_due r zero n = absurd (n refl)
follows_due r (suc k) n = refl

-- who waits on a guard asks nothing of the other slices
pub guards_alone : (hs as' gs bs os : List ℕ) (n g : ℕ) (q : machine.Place)
    → on_guard (slices hs as' gs bs os n) g q ≡ on_guard (guards_only gs) g q
unfolding on_guard
guards_alone hs as' gs bs os n g machine.idle = refl
guards_alone hs as' gs bs os n g (machine.waiting w) = refl
guards_alone hs as' gs bs os n g (machine.due w) = refl
