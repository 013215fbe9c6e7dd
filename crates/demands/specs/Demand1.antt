-- Demand 1: a file or trace of any bytes gets a verdict or a numbered refusal with its place, and a refused hand-in
-- writes to no buffer. The claim is `Demand1`; what each call's verdict is stands above it.
use Rattle.meaning.specs.Trace as trace
use Rattle.std.specs.Prelude.{ℕ, ◌≤◌, ◌<◌, ◌≡◌, ◌↔◌, List, ◌++◌, length, drop}
use Rattle.syntax.specs.Tree.{Monitor}
use Rattle.machine.specs.Monitor.{Frame, Config, all_idle}
use Rattle.machine.specs.Rules.{Rules, Stops}
use Rattle.meaning.specs.State.{start_number}
use Rattle.meaning.specs.Answer.{Answer, answer, Verdict, accepted}
use Rattle.meaning.specs.Decide.Check.{check}
use Rattle.meaning.specs.Decide.Choice.{chosen_bits}
use Rattle.meaning.specs.Decide.Touch.{pairs_of}
use Rattle.meaning.specs.Model.{vars, model}
use Rattle.meaning.specs.Decide.Table.{table_of}
use Rattle.meaning.specs.Calls.{Startable, notices_of, Placing, not_placed, Machine, record_of}
use Rattle.meaning.specs.Calls.{Running, ran, refused_file, not_run}
use Rattle.meaning.specs.Decide.Calls.{place, running}
use Rattle.meaning.specs.Accepted.{Accepted}
use Rattle.meaning.specs.Trace.{FrameRecords, lines_of}
use Rattle.meaning.specs.Refusal.{Refusal, HasVerdict}

-- Placing, for every file and buffer

-- (R 7.13)
pub data PlacesAs (file buffer : List ℕ) : Placing → Type 0 where
  -- 1 to 9 and 15 (R 7.14)
  file_refused : {a : Answer} → Refusal file a → PlacesAs file buffer (not_placed a buffer)
  -- 10: "table buffer shorter than the table" (R 7.15)
  too_short : {m : Monitor} → Accepted file m → length buffer < length (table_of (model m))
      → PlacesAs file buffer (not_placed (answer 10 0 0) buffer)
  -- "success writes the table from byte 0 and keeps the bytes behind it"; the chosen tries and the touched
  -- pairs are reported (R 7.16, 5.14, 7.22)
  placed :
      {m : Monitor} → Accepted file m → length (table_of (model m)) ≤ length buffer
      → PlacesAs file buffer
      (record {
        answer = answer 0 0 0;
        length = length (table_of (model m));
        chosen = chosen_bits m;
        pairs = pairs_of m;
        buffer = table_of (model m) ++ drop (length (table_of (model m))) buffer;
      })

-- Running, for every file, trace, state number and machine

-- (R 8.11)
pub data RunsAs (file bytes : List ℕ) (s : ℕ) (w : Machine) : Running → Type 0 where
  -- 1 to 9 and 15 (R 8.13)
  no_monitor : {a : Answer} → Refusal file a → RunsAs file bytes s w (refused_file a)
  -- 11 (R 8.12)
  no_start : {m : Monitor} → Accepted file m → (Startable m s → ⊥) → RunsAs file bytes s w (not_run (answer 11 0 0))
  -- 12: "first line that is no frame" (R 8.9)
  bad_line :
      {m : Monitor} {k : ℕ} → Accepted file m → Startable m s → trace.NoFrameAt bytes k
      → RunsAs file bytes s w (not_run (answer 12 k 0))
  -- 13 and 14, "frame by frame, 13 first" (R 9.8, 9.9)
  frame_refused :
      {m : Monitor} {fs : List Frame} {a k : ℕ} → Accepted file m → Startable m s → FrameRecords fs → bytes ≡ lines_of fs
      → Stops (model m) (notices_of m w) 0 (all_idle s) fs a k → RunsAs file bytes s w (not_run (answer a k 0))
  -- the rules allow every frame (R 10.5)
  all_allowed :
      {m : Monitor} {fs : List Frame} {c : Config} → Accepted file m → Startable m s → FrameRecords fs
      → bytes ≡ lines_of fs
      → Rules (model m) (notices_of m w) (all_idle s) fs c → RunsAs file bytes s w (ran (record_of m c))

-- from the start values no machine answers 11 (R 13.9)
unfoldable pub NeverEleven : List ℕ → List ℕ → Type 0
NeverEleven file bytes =
    (m : Monitor) → check file ≡ accepted m → (w : Machine) (a : Answer)
    → running file bytes (start_number (vars m)) w ≡ not_run a → a.number ≡ 11 → ⊥

pub record Demand1 : Type 0 where
  -- a file of any bytes has a verdict, and no second one, and the check gives it (R 12.1)
  pub one_verdict : (file : List ℕ) → (v : Verdict) × HasVerdict file v × ((w : Verdict) → HasVerdict file w → w ≡ v)
  pub checks : (file : List ℕ) (v : Verdict) → (check file ≡ v) ↔ HasVerdict file v
  -- placing and running give what is said above, for every input, and nothing else (R 12.2)
  pub places : (file buffer : List ℕ) (p : Placing) → (place file buffer ≡ p) ↔ PlacesAs file buffer p
  pub runs : (file bytes : List ℕ) (s : ℕ) (w : Machine) (x : Running)
      → (running file bytes s w ≡ x) ↔ RunsAs file bytes s w x
  -- "a refused hand-in writes to no buffer" (R 12.3)
  pub writes_nothing :
      (file buffer : List ℕ) → ((place file buffer).answer.number ≡ 0 → ⊥) → (place file buffer).buffer ≡ buffer
  -- the state at the start values counts, so 11 is no answer to a run from there (R 13.9)
  pub starts : (file : List ℕ) (m : Monitor) → check file ≡ accepted m → Startable m (start_number (vars m))
  pub never_11 : (file bytes : List ℕ) → NeverEleven file bytes
