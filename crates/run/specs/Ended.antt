-- What the code says of a run before its first frame, and what the end of its run says of a machine's run of the list.
use Rattle.std.specs.Prelude.{ℕ, ◌<◌, ◌≡◌, Bool, true, false, List, take, ⊤, Option, Result, Ok, Err}
use Rattle.syntax.specs.Tree.{Monitor}
use Rattle.meaning.specs.Model.{kept}
use Rattle.meaning.specs.Decide.Frames.{frames_of, frames, none_at}
use Rattle.answers.specs.declared.Refusal.{Refusal}
use Rattle.answers.specs.declared.Refusal.TheVariants.{NoStart, NoFrame}
use Rattle.machine.specs.Monitor.{Config, Frame, Run, accepted, stopped}
use Rattle.stepper.specs.declared.Run as code
use Rattle.stepper.specs.Shown.{of_machine, Shows}
use Rattle.run.specs.Way.{stop_number, stop_frame}
use Rattle.run.specs.declared.frames.Stop.{Stop}
use Rattle.run.specs.declared.frames.Ended.{Ended}

-- 11 and 12, before any frame is judged
pub data Admits (m : Monitor) (s : ℕ) (bytes : List ℕ) (r : Result ⊤ Refusal) : Type 0 where
  not_kept : kept m s ≡ false → r ≡ Err NoStart → Admits m s bytes r
  no_frame : (k : ℕ) → kept m s ≡ true → frames_of bytes ≡ none_at k → r ≡ Err (NoFrame k) → Admits m s bytes r
  all_frames : (fs : List Frame) → kept m s ≡ true → frames_of bytes ≡ frames fs → r ≡ Ok tt → Admits m s bytes r

-- a machine's part of an end
abbrev pub stop_in : Bool → Ended → Option Stop
stop_in w e = of_machine w e.plain e.table

-- every frame is taken: 0, and the last point
pub record EndsAll (w : Bool) (e : Ended) (c : Config) : Type 0 where
  pub number : stop_number (stop_in w e) ≡ 0
  pub frame : stop_frame (stop_in w e) ≡ 0
  pub shows : Shows w e.run c

-- a frame is refused: the refusal's number and the frame
pub record EndsAt (w : Bool) (runs : List Frame → Run) (fs : List Frame) (e : Ended) (a k : ℕ) : Type 0 where
  pub number : stop_number (stop_in w e) ≡ a
  pub frame : stop_frame (stop_in w e) ≡ k
  -- where that is the plain machine's, the record shows the point before it
  pub last : w ≡ false → (c : Config) × (runs (take k fs) ≡ accepted c) × Shows w e.run c

-- by the machine's run of the list
unfoldable pub EndsAs : Bool → (List Frame → Run) → List Frame → Ended → Run → Type 0
EndsAs w runs fs e (accepted c) = EndsAll w e c
EndsAs w runs fs e (stopped a k) = EndsAt w runs fs e a k

-- a machine's end by its parts, with what the record of a run asks of it: the state is one of so many, and a refusal has
-- a number
unfoldable pub StopsAs : Bool → ℕ → Option Stop → code.Run → Run → Type 0
StopsAs w count stop r (accepted c) = (stop_number stop ≡ 0) × Shows w r c × (c.state < count)
StopsAs w count stop r (stopped a k) = (stop_number stop ≡ a) × (stop_frame stop ≡ k) × (a ≡ 0 → ⊥)
