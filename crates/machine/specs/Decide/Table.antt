-- The table, computed, and the machine that goes by a table. `proofs/Entries` shows that its entries are those of
-- `Algorithm1`.
use Rattle.std.specs.Prelude.{ℕ, Bool, true, false, not, ◌&&◌, ◌||◌, eqb}
use Rattle.machine.specs.Monitor.{Place, idle, waiting, due, Threads, Monitor}
use Rattle.logic.specs.Tests.{any}
use Rattle.machine.specs.Decide.Step.{next, Told}
use Rattle.machine.specs.Algorithm1.{Entry, entry, none}

module _ (m : Monitor) where
  -- a region's body may run from state s: the kept condition and the region's guard hold
  unfoldable pub runs : ℕ → ℕ → Bool
  runs r s = m.kept s && m.holds (m.guard_of r) s

  -- from some state, region r's body leads from s to s' such that a test of both passes
  unfoldable pub some_move : ℕ → (ℕ → ℕ → Bool) → Bool
  some_move r test = any m.states (λ s. runs r s && test s (m.after r s))

  unfoldable pub every_move : ℕ → (ℕ → ℕ → Bool) → Bool
  every_move r test = not (some_move r (λ s s'. not (test s s')))

  -- "from some state with the region's guard true and the other guard false, the body makes the other guard true"
  unfoldable pub stands : ℕ → ℕ → Bool
  stands r g = some_move r (λ s s'. not (m.holds g s) && m.holds g s')

  -- "the body makes it true from every such state"
  unfoldable pub unconditional : ℕ → ℕ → Bool
  unconditional r g = every_move r (λ s s'. m.holds g s || m.holds g s')

  -- some region having guard g leaves it true from a state where it was true: its entries are broadcasts
  unfoldable pub broadcast : ℕ → Bool
  broadcast g = any m.regions (λ w. eqb (m.guard_of w) g && some_move w (λ s s'. m.holds g s'))

  unfoldable pub entry_of : ℕ → ℕ → Entry
  entry_of r g = elim (stands r g) [ true ↦ entry (unconditional r g) (broadcast g) | false ↦ none ]

-- an entry acts on a waiter: does the waiter's guard hold, and is it next in line
unfoldable pub acts : Entry → Bool → Bool → Bool
acts none h f = false
acts (entry a b) h f = (a || h) && (b || f)

module _ (m : Monitor) (e : ℕ → ℕ → Entry) where
  unfoldable pub entry_told : ℕ → Threads → ℕ → ℕ → Place → Bool
  entry_told s p r u idle = false
  entry_told s p r u (waiting w) = acts (e r (m.guard_of w)) (m.holds (m.guard_of w) s) (next m p (m.guard_of w) u)
  entry_told s p r u (due w) = false

  -- "The table's machine takes the region's entries", here those of any table
  unfoldable pub table_told : Told
  table_told s p r u = entry_told s p r u (p.place u)
