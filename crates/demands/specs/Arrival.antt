-- Waiters by arrival (document 02, E4): of every accepted file, at every point of either machine's run, who is in the
-- queue, what the turns are and in which order, the lines by them, what a frame more makes of them, and the count. The
-- claim is `DemandArrival`.
use Rattle.std.specs.Prelude.{ℕ, ◌≡◌, true, List}
use Rattle.syntax.specs.Tree.{Monitor}
use Rattle.machine.specs.Monitor.{Frame, Config, all_idle}
use Rattle.machine.specs.Rules.{Rule, Rules}
use Rattle.machine.specs.Arrival.{Lined, Turns, Lines, TurnsAfter, InOrder, Listed, Counts}
use Rattle.meaning.specs.Answer.{accepted}
use Rattle.meaning.specs.Decide.Check.{check}
use Rattle.meaning.specs.Model.{kept, model}
use Rattle.meaning.specs.Calls.{Machine, notices_of}

-- at a point c to which the frames fs lead
pub record ByArrival (m : Monitor) (w : Machine) (fs : List Frame) (c : Config) : Type 0 where
  -- (R 9.37, 9.38, 9.39)
  pub lined : Lined (model m) c.threads
  pub turns : Turns (model m) c.threads
  pub in_order : InOrder (model m) fs c.threads
  -- (R 9.19, 9.27)
  pub lines : Lines (model m) c.threads
  -- (R 9.40)
  pub after : (f : Frame) (d : Config) → Rule (model m) (notices_of m w) c f d
      → TurnsAfter (model m) c.threads f d.threads
  -- (R 9.41)
  pub listed : Listed (model m) (notices_of m w) c
  pub counts : Counts (model m) (notices_of m w) c

pub record DemandArrival : Type 0 where
  -- from every state that meets the kept condition, on every list of frames that the machine's rules allow (R 12.19)
  pub arrival :
      (file : List ℕ) (m : Monitor) → check file ≡ accepted m → (w : Machine) (s : ℕ) → kept m s ≡ true
      → (fs : List Frame) (c : Config) → Rules (model m) (notices_of m w) (all_idle s) fs c → ByArrival m w fs c
