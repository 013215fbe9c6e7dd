-- The results of the library's calls against the meanings: every part of each, for every input.
use Rattle.std.specs.Prelude.{ℕ, ◌*◌, ◌<◌, ◌≤◌, ◌≡◌, ◌⊎◌, List, map, length, get_or}
use Rattle.answers.specs.Says.{Says}
use Rattle.meaning.specs.Calls.{plain_machine, table_machine, Startable}
use Rattle.meaning.specs.Decide.Calls.{run_list, running}
use Rattle.meaning.specs.Trace.{FrameRecords, lines_of}
use Rattle.meaning.specs.Calls as calls
use Rattle.syntax.specs.Tree.{Monitor}
use Rattle.machine.specs.Held.{HeldEntries}
use Rattle.meaning.specs.Answer.{answer, Verdict, accepted, refused}
use Rattle.meaning.specs.Decide.Check.{check}
use Rattle.meaning.specs.State.{start_number}
use Rattle.meaning.specs.Model.{vars, model}
use Rattle.machine.specs.Monitor.{Frame}
use Rattle.machine.specs.Recheck.{Recheck}
use Rattle.machine.specs.Agreement.{AgreeOn}
use Rattle.syntax.specs.Limits.{most_vars}
use Rattle.threads.specs.Held.{place_of}
use Rattle.run.specs.Results.{Runs}
use Rattle.run.specs.declared.Running.{Running}
use Rattle.meaning.specs.Points as points
use Rattle.demands.specs.Points.{EveryPoint}
use Rattle.meaning.specs.Load as load
use Rattle.meaning.specs.Decide.Load.{load_of}
use Rattle.demands.specs.Load.{CountFits, IsLoad}
use Rattle.calls.specs.declared.Made.{Made}
use Rattle.calls.specs.declared.Placing.{Placing}
use Rattle.calls.specs.declared.Pointing.{Pointing}

-- placing: the answer, the length, the chosen tries, the touched pairs and every byte of the buffer afterwards
pub record Places (p : calls.Placing) (r : Placing) (buffer : List ℕ) : Type 0 where
  pub answer : Says r.answer p.answer
  pub length : r.length ≡ p.length
  pub chosen : r.chosen ≡ p.chosen
  pub pairs : r.pairs ≡ p.pairs
  pub bytes : buffer ≡ p.buffer

-- the points of a run: both answers, how many there are, and every byte of the buffer afterwards (R 15.2)
pub record Points (p : points.Pointing) (r : Pointing) (buffer : List ℕ) : Type 0 where
  pub plain : Says r.plain p.plain
  pub table : Says r.table p.table
  pub count : r.count ≡ p.count
  pub bytes : buffer ≡ p.buffer

-- and what they are in words, where nothing is refused before the first frame (R 15.4)
unfoldable pub PointsSay : List ℕ → List ℕ → ℕ → List ℕ → Type 0
PointsSay file bytes start buffer =
    (m : Monitor) → check file ≡ accepted m → points.point_room bytes ≤ length buffer → Startable m start
    → (fs : List Frame) → FrameRecords fs → bytes ≡ lines_of fs
    → (points.points_of file bytes start buffer ≡ points.list_points m start fs buffer) × EveryPoint m start fs buffer

-- a load: the answer, how many frames are made, and every byte of the buffer afterwards (R 17.1)
pub record Makes (p : load.Made) (r : Made) (buffer : List ℕ) : Type 0 where
  pub answer : Says r.answer p.answer
  pub count : r.count ≡ p.count
  pub bytes : buffer ≡ p.buffer

-- and what its frames are in words, where nothing is refused (R 17.15, 17.16)
unfoldable pub LoadSays : List ℕ → ℕ → ℕ → ℕ → List ℕ → Type 0
LoadSays file seed count wanted buffer =
    (m : Monitor) → check file ≡ accepted m → CountFits count → load.frame_size * wanted ≤ length buffer
    → (fs : List Frame)
    × (load_of file seed count wanted buffer ≡ load.made_of fs buffer) × IsLoad file m seed count wanted fs

-- demand 3 of two results: what they say of one another on one trace
pub record SameResults (bytes : List ℕ) (plain table : Running) : Type 0 where
  -- the same answer, number and places, or the table's is 14 at a frame that is a recheck (R 12.8)
  pub same_answer :
      (plain.answer ≡ table.answer)
      ⊎ ((fs : List Frame) × (k : ℕ) × FrameRecords fs × (bytes ≡ lines_of fs)
      × Says table.answer (answer 14 k 0) × Recheck fs k)
  -- where the table's is 0: as many variables, each value, and the place and the turn of each thread (R 12.9)
  pub same_vars : table.answer.number ≡ 0 → plain.record.vars ≡ table.record.vars
  pub same_values :
      table.answer.number ≡ 0 → (k : ℕ) → k < most_vars
      → get_or plain.record.values k 0 ≡ get_or table.record.values k 0
  pub same_places :
      table.answer.number ≡ 0
      → map (λ t. place_of t.place) plain.record.threads ≡ map (λ t. place_of t.place) table.record.threads
  pub same_turns :
      table.answer.number ≡ 0
      → map (λ t. t.turn) plain.record.threads ≡ map (λ t. t.turn) table.record.threads

-- both machines on one list: each result, demand 3 of the two, and of every point of the list (R 12.9, 12.11)
pub record Agrees (file bytes : List ℕ) (start : ℕ) (plain table : Running) : Type 0 where
  pub plain_runs : Runs (running file bytes start plain_machine) plain
  pub table_runs : Runs (running file bytes start table_machine) table
  pub same : SameResults bytes plain table
  pub points :
      (m : Monitor) → check file ≡ accepted m → Startable m start → (fs : List Frame) → bytes ≡ lines_of fs
      → AgreeOn (model m) (run_list m plain_machine start) (run_list m table_machine start) Recheck fs

-- the entries of an accepted file's table, held as numbers
unfoldable pub EntriesOf : List ℕ → List ℕ → Type 0
EntriesOf file entries = (m : Monitor) → check file ≡ accepted m → HeldEntries (model m) entries

-- the number of the state at the start values
unfoldable pub start_of : Verdict → ℕ
start_of (accepted m) = start_number (vars m)
start_of (refused a) = 0

-- the start state: its number, and that an accepted file runs from it (R 13.9)
pub record Starts (file : List ℕ) (r : ℕ) : Type 0 where
  pub number : r ≡ start_of (check file)
  pub counts : (m : Monitor) → check file ≡ accepted m → Startable m r
