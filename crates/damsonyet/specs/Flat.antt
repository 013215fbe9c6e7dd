-- The results of a run with each place and each turn as a byte, against the meanings: every part of each, for every input. As
-- `run/specs/Results` and `calls/specs/Results` say it of the code's own.
use Rattle.std.specs.Prelude.{ℕ, ◌<◌, ◌≤◌, ◌≡◌, true, false, ◌⊎◌, List, length, get_or, pos}
use Rattle.syntax.specs.Limits.{most_vars}
use Rattle.syntax.specs.Tree.{Monitor}
use Rattle.machine.specs.Monitor.{Frame, idle}
use Rattle.machine.specs.Recheck.{Recheck}
use Rattle.machine.specs.Agreement.{AgreeOn}
use Rattle.meaning.specs.Held.{Offset}
use Rattle.meaning.specs.Answer.{answer, accepted}
use Rattle.meaning.specs.Lines.{place_byte}
use Rattle.meaning.specs.Model.{model}
use Rattle.meaning.specs.Trace.{FrameRecords, lines_of}
use Rattle.meaning.specs.Decide.Check.{check}
use Rattle.meaning.specs.Calls.{Record, Running, ran, refused_file, not_run, plain_machine, table_machine, Startable}
use Rattle.meaning.specs.Decide.Calls.{run_list, running}
use Rattle.threads.specs.Held.{places_of, turns_of}
use Rattle.point.specs.Held.{held_byte}
use Rattle.run.specs.declared.Running as code
use Rattle.answers.specs.Says.{Says}
use Rattle.damsonyet.specs.declared.Ran.{Ran}
use Rattle.damsonyet.specs.declared.BothRan.{BothRan}

-- a record of a run: each value with 128 added, 128 in the slots without a variable; each thread's place as `runner`
-- prints it (R 13.13), and its turn
pub record Records (rec : Record) (r : Ran) : Type 0 where
  pub vars : r.vars ≡ length rec.values
  pub values : (k : ℕ) → k < length rec.values → Offset (get_or rec.values k (pos 0)) (get_or r.values k 0)
  pub unused : (k : ℕ) → k < most_vars → length rec.values ≤ k → get_or r.values k 0 ≡ 128
  pub places : (t : ℕ) → t < 16 → get_or r.places t 0 ≡ place_byte (get_or rec.places t idle)
  pub turns : (t : ℕ) → t < 16 → get_or r.turns t 0 ≡ get_or rec.turns t 0
  pub notified : r.notified ≡ rec.notified
  pub how_many_is : r.how_many ≡ rec.how_many

-- the record that stands beside a refusal: no values, all idle, every turn 0, none notified (R 16.17)
pub record NoRecord (r : Ran) : Type 0 where
  pub vars : r.vars ≡ 0
  pub values : (k : ℕ) → k < most_vars → get_or r.values k 0 ≡ 128
  pub places : (t : ℕ) → t < 16 → get_or r.places t 0 ≡ place_byte idle
  pub turns : (t : ℕ) → t < 16 → get_or r.turns t 0 ≡ 0
  pub notified : r.notified ≡ 0
  pub how_many_is : r.how_many ≡ 0

-- what a run gives, and whether its refusal is the file's (R 10.5, 16.17)
unfoldable pub RanAs : Running → Ran → Type 0
RanAs (ran rec) r = Says r.answer (answer 0 0 0) × Records rec r × (r.of_file ≡ false)
RanAs (refused_file a) r = Says r.answer a × NoRecord r × (r.of_file ≡ true)
RanAs (not_run a) r = Says r.answer a × NoRecord r × (r.of_file ≡ false)

-- demand 3 of two results (R 12.8, 12.9)
pub record SameRan (bytes : List ℕ) (plain table : Ran) : Type 0 where
  pub same_answer :
      (plain.answer ≡ table.answer)
      ⊎ ((fs : List Frame) × (k : ℕ) × FrameRecords fs × (bytes ≡ lines_of fs)
      × Says table.answer (answer 14 k 0) × Recheck fs k)
  pub same_vars : table.answer.number ≡ 0 → plain.vars ≡ table.vars
  pub same_values :
      table.answer.number ≡ 0 → (k : ℕ) → k < most_vars → get_or plain.values k 0 ≡ get_or table.values k 0
  pub same_places :
      table.answer.number ≡ 0 → (t : ℕ) → t < 16 → get_or plain.places t 0 ≡ get_or table.places t 0
  pub same_turns :
      table.answer.number ≡ 0 → (t : ℕ) → t < 16 → get_or plain.turns t 0 ≡ get_or table.turns t 0

-- both machines on one list: each result, demand 3 of the two, and of every point of the list (R 12.9, 12.11)
pub record BothAgree (file bytes : List ℕ) (start : ℕ) (r : BothRan) : Type 0 where
  pub plain_ran : RanAs (running file bytes start plain_machine) r.plain
  pub table_ran : RanAs (running file bytes start table_machine) r.table
  pub same : SameRan bytes r.plain r.table
  pub points :
      (m : Monitor) → check file ≡ accepted m → Startable m start → (fs : List Frame) → bytes ≡ lines_of fs
      → AgreeOn (model m) (run_list m plain_machine start) (run_list m table_machine start) Recheck fs

-- Inside: a result of the code and the same with bytes for places

pub record Flattens (x : code.Running) (r : Ran) : Type 0 where
  pub answer : r.answer ≡ x.answer
  pub vars : r.vars ≡ x.record.vars
  pub values : r.values ≡ x.record.values
  pub places : (t : ℕ) → t < 16 → get_or r.places t 0 ≡ held_byte (places_of x.record.threads t)
  pub turns : (t : ℕ) → t < 16 → get_or r.turns t 0 ≡ turns_of x.record.threads t
  pub notified : r.notified ≡ x.record.notified
  pub how_many_is : r.how_many ≡ x.record.how_many
  pub of_file : r.of_file ≡ x.of_file
