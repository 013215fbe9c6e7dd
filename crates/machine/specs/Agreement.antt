-- Both machines on one list: what it is that they agree ("Both machines on one list"; demand 3).
use Rattle.std.specs.Prelude.{ℕ, ◌≤◌, ◌<◌, ◌≡◌, true, false, ◌⊎◌, List, length, take}
use Rattle.machine.specs.Monitor.{due, line, Monitor, Frame, Config, all_idle, Run, accepted, stopped}
use Rattle.machine.specs.Decide.Step.{is_waiting, plain_told, run}
use Rattle.machine.specs.Decide.Table.{table_told, entry_of}
use Rattle.machine.specs.Rules.{Waits, Front}
use Rattle.machine.specs.Recheck.{Recheck}

-- "An answer is the number (0 for accepted) and two places, 0 where unused"; a frame's refusal uses the first
-- (R 10.2, 10.3, 10.4)
unfoldable pub answer : Run → ℕ × ℕ
answer (accepted c) = (0, 0)
answer (stopped a k) = (a, k)

-- What is compared at a point, and which waiters are notified there (R 11.6)
pub record SamePoint (m : Monitor) (plain table : Config) : Type 0 where
  -- (R 12.9)
  pub same_state : plain.state ≡ table.state
  -- each thread at the same place, and one queue, so with the same turn (R 12.9)
  pub same_threads : plain.threads ≡ table.threads
  -- (R 12.10)
  pub is_kept : m.kept table.state ≡ true
  -- by the plain machine every waiter whose guard holds (R 12.12), by the table's the one next in line (R 12.11)
  pub all_notified :
      (g u : ℕ) → m.holds g plain.state ≡ true → Waits m plain.threads g u → plain.notified u ≡ true
  pub next_notified :
      (g u : ℕ) → m.holds g table.state ≡ true → Front (line m table.threads g) u → table.notified u ≡ true

-- Two machines, as runs of a list of frames, agree on a list; `recheck` says which of its frames are rechecks
pub record AgreeOn
    (m : Monitor) (plain table : List Frame → Run) (recheck : List Frame → ℕ → Type 0) (fs : List Frame) : Type 0 where
  -- both give the same answer, except that the table's may refuse a recheck (R 12.8)
  pub same_answer : (answer (plain fs) ≡ answer (table fs)) ⊎ ((k : ℕ) × (table fs ≡ stopped 14 k) × recheck fs k)
  -- "A point is a prefix of the list, the empty one and the whole included" (R 11.5, 12.9)
  pub every_point :
      (n : ℕ) → n ≤ length fs → (c : Config) → table (take n fs) ≡ accepted c
      → (d : Config) × (plain (take n fs) ≡ accepted d) × SamePoint m d c

-- the two runs from state s, with all idle and none notified (R 11.2)
unfoldable pub plain_run : Monitor → ℕ → List Frame → Run
plain_run m s fs = run m (plain_told m) 0 (all_idle s) fs

-- by the table of the file (R 11.3)
unfoldable pub table_run : Monitor → ℕ → List Frame → Run
table_run m s fs = run m (table_told m (entry_of m)) 0 (all_idle s) fs

-- from every state that meets the kept condition, on every list of frames (R 11.1, 11.2)
unfoldable pub Agrees : Monitor → Type 0
Agrees m = (s : ℕ) → m.kept s ≡ true → (fs : List Frame) → AgreeOn m (plain_run m s) (table_run m s) Recheck fs

-- What the check of a file guarantees of its monitor (R 3.3, 5.18, 9.22, 9.34)
pub record Checked (m : Monitor) : Type 0 where
  pub below : (s : ℕ) → m.kept s ≡ true → s < m.states
  pub keeps : (r s : ℕ) → m.kept s ≡ true → m.holds (m.guard_of r) s ≡ true → m.kept (m.after r s) ≡ true
  pub outside : (r s : ℕ) → m.regions ≤ r → m.holds (m.guard_of r) s ≡ false
  pub leaves : (r : ℕ) → is_waiting (m.follows r) ≡ false
  pub onward : (r w : ℕ) → m.follows r ≡ due w → w < m.regions
