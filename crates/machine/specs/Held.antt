-- How a monitor freed from its syntax is held in slices of numbers: what the code looks up instead of evaluating.
use Rattle.std.specs.Prelude.{ℕ, zero, suc, ◌+◌, ◌*◌, ◌<◌, ◌≤◌, ◌≡◌, true, false, List, get_or}
use Rattle.logic.specs.Tests.{bit}
use Rattle.sets.specs.Set.{member}
use Rattle.machine.specs.Limits.{most_states, most_regions}
use Rattle.machine.specs.Monitor.{Place, idle, due, Monitor}
use Rattle.machine.specs.Decide.Table.{runs, entry_of}
use Rattle.machine.specs.Algorithm1.{Entry, none, entry}

-- where a thread is after a region's body: due at the next region where the flag is 1, else idle
unfoldable pub follows_by : ℕ → ℕ → Place
follows_by r zero = idle
follows_by r (suc n) = due (r + 1)

-- few states, regions and guards; for each state the set of guards that hold there, and at region * most_states + state
-- the state after a region's body, where that body may run
pub record Held (m : Monitor) (kept holds after guard_of : List ℕ) : Type 0 where
  pub few_states : m.states ≤ most_states
  pub few_regions : m.regions ≤ most_regions
  pub few_guards : m.guards ≤ most_regions
  pub guard_below : (r : ℕ) → r < m.regions → m.guard_of r < m.guards
  pub kept_below : (s : ℕ) → m.kept s ≡ true → s < m.states
  pub after_below : (r s : ℕ) → r < m.regions → runs m r s ≡ true → m.after r s < m.states
  pub by_kept : (s : ℕ) → s < m.states → get_or kept s 0 ≡ bit (m.kept s)
  pub by_holds : (g s : ℕ) → g < m.guards → s < m.states → member (get_or holds s 0) g ≡ m.holds g s
  pub by_after : (r s : ℕ) → r < m.regions → runs m r s ≡ true → get_or after (r * most_states + s) 0 ≡ m.after r s
  pub by_guard : (r : ℕ) → r < m.regions → get_or guard_of r 0 ≡ m.guard_of r

-- which regions begin a method, and which have another behind them in it
pub record HeldPlaces (m : Monitor) (begins going_on : List ℕ) : Type 0 where
  pub by_begins : (r : ℕ) → r < m.regions → get_or begins r 0 ≡ bit (m.begins r)
  pub by_follows : (r : ℕ) → r < m.regions → m.follows r ≡ follows_by r (get_or going_on r 0)

-- for each region a set of guards such that its body leaves every guard outside the set as it was
unfoldable pub HeldTouched : Monitor → List ℕ → Type 0
HeldTouched m sets =
    (r g s : ℕ) → r < m.regions → g < m.guards → member (get_or sets r 0) g ≡ false → runs m r s ≡ true
    → m.holds g (m.after r s) ≡ m.holds g s

-- an entry as a number: 0 for none, else 1, and 2 more where it is unconditional, and 4 more where it is a broadcast
unfoldable pub code_of : Entry → ℕ
code_of none = 0
code_of (entry a b) = 1 + 2 * bit a + 4 * bit b

-- the entries of a monitor are held at region * most_regions + guard
unfoldable pub HeldEntries : Monitor → List ℕ → Type 0
HeldEntries m es = (r g : ℕ) → r < m.regions → g < m.guards → get_or es (r * most_regions + g) 0 ≡ code_of (entry_of m r g)
