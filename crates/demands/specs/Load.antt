-- A repeatable load (document 02, E6): what the call `load` answers, for every input, and what the frames are that it makes.
-- The claim is `DemandLoad`.
use Rattle.std.specs.Prelude.{ℕ, ◌*◌, ◌≤◌, ◌<◌, ◌≡◌, ◌↔◌, List, length}
use Rattle.syntax.specs.Tree.{Monitor}
use Rattle.machine.specs.Monitor.{Frame, Config, all_idle}
use Rattle.machine.specs.Rules.{Rules}
use Rattle.machine.specs.Recheck.{Recheck}
use Rattle.machine.specs.Load.{Takes, Rechecks, Loads}
use Rattle.meaning.specs.Answer.{Answer, answer, accepted}
use Rattle.meaning.specs.State.{start_number}
use Rattle.meaning.specs.Model.{vars, model}
use Rattle.meaning.specs.Calls.{Machine, plain_machine, notices_of, Record, ran}
use Rattle.meaning.specs.Decide.Check.{check}
use Rattle.meaning.specs.Decide.Calls.{running}
use Rattle.meaning.specs.Accepted.{Accepted}
use Rattle.meaning.specs.Refusal.{Refusal}
use Rattle.meaning.specs.Trace.{FrameRecords, lines_of}
use Rattle.meaning.specs.Load.{frame_size, Made, not_made, made_of}
use Rattle.meaning.specs.Decide.Load.{load_frames, load_of}

-- a thread count that 16 passes (R 17.12)
unfoldable pub CountFits : ℕ → Type 0
CountFits count = (1 ≤ count) × (count ≤ 16)

-- "From a 32-bit seed"; "the run begins at the start values" (R 17.2, 17.3)
abbrev pub LoadIs : Monitor → ℕ → ℕ → ℕ → List Frame → Type 0
LoadIs m seed count wanted fs = Loads (model m) count wanted (all_idle (start_number (vars m))) seed fs

-- The call, for every file, seed, thread count, wanted count and buffer (R 17.1)
pub data MakesAs (file : List ℕ) (seed count wanted : ℕ) (buffer : List ℕ) : Made → Type 0 where
  -- 16 "before any other" (R 17.12)
  no_count : (CountFits count → ⊥) → MakesAs file seed count wanted buffer (not_made (answer 16 0 0) buffer)
  -- 1 to 9 and 15 (R 17.12)
  no_file : {a : Answer} → CountFits count → Refusal file a → MakesAs file seed count wanted buffer (not_made a buffer)
  -- 10: "a buffer under seven bytes a wanted frame" (R 17.13)
  no_room : {m : Monitor} → CountFits count → Accepted file m → length buffer < frame_size * wanted
      → MakesAs file seed count wanted buffer (not_made (answer 10 0 0) buffer)
  -- the frames of the load, the bytes behind kept (R 17.11)
  made :
      {m : Monitor} {fs : List Frame} → CountFits count → Accepted file m → frame_size * wanted ≤ length buffer
      → LoadIs m seed count wanted fs
      → MakesAs file seed count wanted buffer (made_of fs buffer)

-- What the frames are, of an accepted file
pub record IsLoad (file : List ℕ) (m : Monitor) (seed count wanted : ℕ) (fs : List Frame) : Type 0 where
  -- they are what the draws take, and nothing else is (R 17.6, 17.7, 17.8, 17.9, 17.10)
  pub by_draws : (gs : List Frame) → LoadIs m seed count wanted gs ↔ (gs ≡ fs)
  -- no more than are wanted, each with numbers that a line can hold, and none is a recheck (R 8.6, 17.6, 17.10)
  pub at_most : length fs ≤ wanted
  pub records : FrameRecords fs
  pub no_recheck : (k : ℕ) → Recheck fs k → ⊥
  -- "Every trace so made is accepted by both machines" (R 17.15)
  pub accepts : (w : Machine) → (r : Record) × (running file (lines_of fs) (start_number (vars m)) w ≡ ran r)
  -- fewer than are wanted only where the plain machine allows these threads nothing but rechecks (R 17.16)
  pub short :
      length fs < wanted
      → (c : Config) → Rules (model m) (notices_of m plain_machine) (all_idle (start_number (vars m))) fs c
      → (f : Frame) → f.thread < count → Takes (model m) c f → Rechecks (model m) c f

pub record DemandLoad : Type 0 where
  -- the call gives what is said above, for every input, and nothing else (R 17.1)
  pub makes : (file : List ℕ) (seed count wanted : ℕ) (buffer : List ℕ) (r : Made)
      → (load_of file seed count wanted buffer ≡ r) ↔ MakesAs file seed count wanted buffer r
  -- a refusal writes to no buffer (R 17.14)
  pub writes_nothing :
      (file : List ℕ) (seed count wanted : ℕ) (buffer : List ℕ)
      → ((load_of file seed count wanted buffer).answer.number ≡ 0 → ⊥)
      → (load_of file seed count wanted buffer).buffer ≡ buffer
  -- and its frames are the load's (R 17.15, 17.16)
  pub load :
      (file : List ℕ) (m : Monitor) → check file ≡ accepted m → (seed count wanted : ℕ) → CountFits count
      → IsLoad file m seed count wanted (load_frames m seed count wanted)
