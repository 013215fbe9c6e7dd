-- What the record of both machines' runs shows of a point of a machine's run, and what a step of the code says of that
-- machine's step.
use Rattle.std.specs.Prelude.{ℕ, ◌<◌, ◌≡◌, Bool, true, false}
use Rattle.sets.specs.Set.{member}
use Rattle.machine.specs.Monitor.{SameThreads, Monitor, Config}
use Rattle.machine.specs.Decide.Step.{Outcome, moved, refused, step, plain_told, Told}
use Rattle.machine.specs.Monitor as machine
use Rattle.machine.specs.Decide.Table.{entry_of, table_told}
use Rattle.threads.specs.Held.{threads_of, Turned}
use Rattle.stepper.specs.Answered.{answered}
use Rattle.stepper.specs.declared.Run.{Run}
use Rattle.stepper.specs.declared.Frame.{Frame}
use Rattle.stepper.specs.declared.Outcome as code

-- of two things the plain machine's, or the table's where the choice is true
unfoldable pub of_machine : {A : Type 0} → Bool → A → A → A
of_machine false plain table = plain
of_machine true plain table = table

-- a machine's notices
abbrev pub notices_in : Bool → Run → ℕ
notices_in w r = of_machine w r.plain r.table

-- the state, what is known of each of sixteen threads, their turns, and who is notified on the machine
pub record Shows (w : Bool) (r : Run) (c : Config) : Type 0 where
  pub state : r.state ≡ c.state
  pub threads : SameThreads (threads_of r.threads) c.threads
  pub turns : Turned r.threads
  pub notices : (t : ℕ) → t < 16 → member (notices_in w r) t ≡ c.notified t

unfoldable pub frame_of : Frame → machine.Frame
frame_of f = record { thread = f.thread; region = f.region; flag = f.flag }

-- whom a body notifies, on the table's machine or the plain one
unfoldable pub told_on : Monitor → Bool → Told
told_on m true = table_told m (entry_of m)
told_on m false = plain_told m

-- a machine's number in an outcome of the code
abbrev pub number_in : Bool → code.Outcome → ℕ
number_in w o = answered (of_machine w o.answers.plain o.answers.table)

-- the code's outcome against the machine's: a refusal's number, or 0 and a record that shows the next point
unfoldable pub Steps : Bool → code.Outcome → Outcome → Type 0
Steps w o (moved c) = (number_in w o ≡ 0) × Shows w o.run c
Steps w o (refused a) = number_in w o ≡ a

-- where neither machine takes the frame the record is as it was
unfoldable pub Stays : Run → code.Outcome → Type 0
Stays before o = (answered o.answers.plain ≡ 0 → ⊥) → (answered o.answers.table ≡ 0 → ⊥) → o.run ≡ before

unfoldable pub step_by : Monitor → Bool → Config → Frame → Outcome
step_by m w c f = step m (told_on m w) c (frame_of f)
