-- Demand 3: for every accepted monitor, every state that meets the kept condition and every list of frames, run from
-- there with all threads idle, both machines agree: the same answer, unless the table's answers 14 at a recheck, and at
-- every point up to which the table's machine accepts the same values, places and turns, and under the table the first waiter
-- on any guard that holds is notified. The claim is `Demand3`; `AgreeOn` says what agreeing is.
use Rattle.std.specs.Prelude.{ℕ, ◌<◌, ◌≡◌, true, ◌⊎◌, List, get_or}
use Rattle.std.proofs.Math.ListN.{get_elem?}
use Rattle.syntax.specs.Tree.{Monitor}
use Rattle.machine.specs.Monitor.{Frame, waiting}
use Rattle.machine.specs.Agreement.{AgreeOn}
use Rattle.sets.specs.Set.{member}
use Rattle.machine.specs.Recheck.{Recheck}
use Rattle.meaning.specs.Value.{truth}
use Rattle.meaning.specs.Answer.{Answer, answer, accepted}
use Rattle.meaning.specs.Decide.Check.{check}
use Rattle.meaning.specs.Model.{vars, kept, model, region, guard_of}
use Rattle.meaning.specs.Calls.{plain_machine, table_machine, Record, Running, ran, refused_file, not_run}
use Rattle.meaning.specs.Decide.Calls.{run_list, running}
use Rattle.meaning.specs.Trace.{FrameRecords, lines_of}
use Rattle.std.proofs.Math.Option.{some}

pub record Demand3 : Type 0 where
  -- (R 12.8, 12.9, 12.10, 12.11, 12.12, 12.13)
  pub agree :
      (file : List ℕ) (m : Monitor) → check file ≡ accepted m → (s : ℕ) → kept m s ≡ true → (fs : List Frame)
      → AgreeOn (model m) (run_list m plain_machine s) (run_list m table_machine s) Recheck fs

-- What it says of the calls' results, for every file, trace and state number. A point of a list is a trace itself, so
-- what is said of a trace is said of each of its points.

-- "An answer is the number (0 for accepted) and two places" (R 10.1, 10.2)
unfoldable pub run_answer : Running → Answer
run_answer (ran r) = answer 0 0 0
run_answer (refused_file a) = a
run_answer (not_run a) = a

pub record SameRunning (file bytes : List ℕ) (s : ℕ) : Type 0 where
  -- (R 12.8)
  pub same_answer :
      (run_answer (running file bytes s plain_machine) ≡ run_answer (running file bytes s table_machine))
      ⊎ ((fs : List Frame) × (k : ℕ) × FrameRecords fs × (bytes ≡ lines_of fs)
      × (running file bytes s table_machine ≡ not_run (answer 14 k 0)) × Recheck fs k)
  -- each variable's value and the place and the turn of each of the sixteen threads (R 12.9)
  pub same_record :
      (b : Record) → running file bytes s table_machine ≡ ran b
      → (a : Record) × (running file bytes s plain_machine ≡ ran a) × (a.values ≡ b.values) × (a.places ≡ b.places)
      × (a.turns ≡ b.turns)

-- in the record, thread u waits at region r, none waiting on the guard of r has a lower turn, and that guard holds
-- (R 9.27, 11.9)
pub record FirstWaiter (m : Monitor) (b : Record) (u r : ℕ) : Type 0 where
  pub waits : get_elem? b.places u ≡ some (waiting r)
  pub guard : truth (region m r).guard (vars m) b.values ≡ true
  pub none_ahead :
      (v q : ℕ) → get_elem? b.places v ≡ some (waiting q) → guard_of m q ≡ guard_of m r
      → get_or b.turns v 0 < get_or b.turns u 0 → ⊥

-- under the table, at the end of every trace that it accepts (R 12.11)
unfoldable pub FirstNotified : List ℕ → List ℕ → ℕ → Type 0
FirstNotified file bytes s =
    (m : Monitor) → check file ≡ accepted m → (b : Record) → running file bytes s table_machine ≡ ran b
    → (u r : ℕ) → FirstWaiter m b u r → member b.notified u ≡ true
