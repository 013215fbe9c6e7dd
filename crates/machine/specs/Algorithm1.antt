-- The table in words ("The table"; source document 001, Algorithm 1), over a monitor freed from its syntax: when an
-- entry stands, is unconditional and is a signal. What may run and what is kept is asked of the monitor.
use Rattle.std.specs.Prelude.{ℕ, ◌<◌, ◌≡◌, Bool, true, false}
use Rattle.machine.specs.Monitor.{Monitor}

-- what the table has for a region and a guard: nothing, or an entry that is unconditional or not, and a broadcast or a
-- signal (R 7.3, 7.4, 7.5)
pub data Entry : Type 0 where
  none : Entry
  entry : Bool → Bool → Entry

module _ (m : Monitor) where
  -- a guard's truth in a state, as a condition
  unfoldable pub Holds : ℕ → ℕ → Type 0
  Holds g s = m.holds g s ≡ true

  unfoldable pub Fails : ℕ → ℕ → Type 0
  Fails g s = m.holds g s ≡ false

  -- the body of region r may run from state s (R 5.2)
  pub record MayRun (r s : ℕ) : Type 0 where
    pub is_kept : m.kept s ≡ true
    pub guard : Holds (m.guard_of r) s

  -- {kept condition ∧ Guard(r) ∧ P} Body(r) {Q} (R 7.2, 7.7)
  unfoldable pub Triple : ℕ → (ℕ → Type 0) → (ℕ → Type 0) → Type 0
  Triple r P Q = (s : ℕ) → MayRun r s → P s → Q (m.after r s)

  -- "from some state with the region's guard true and the other guard false, the body makes the other guard true"
  -- (R 7.3)
  pub record Stands (r g : ℕ) : Type 0 where
    pub from : ℕ
    pub may_run : MayRun r from
    pub before : Fails g from
    pub after : Holds g (m.after r from)

  -- "every region having that guard leaves it false from every state where it was true" (R 7.5)
  unfoldable pub Signals : ℕ → Type 0
  Signals g = (w : ℕ) → w < m.regions → m.guard_of w ≡ g → Triple w (Holds g) (Fails g)
