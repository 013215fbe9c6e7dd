-- What the code says of the allowed frames, by the record alone: how many each thread has, how many there are, and which one
-- stands at an index; and of a record that shows a point of the plain machine's run, which frame a draw takes there.
use Rattle.std.specs.Prelude.{ℕ, zero, suc, ◌+◌, ◌-◌, ◌%◌, ◌≤◌, ◌<◌, ◌≡◌, Bool, true, false, List, [], length, get_or, Option, Some, None}
use Rattle.logic.specs.Tests.{bit}
use Rattle.sets.specs.Set.{member}
use Rattle.machine.specs.Monitor.{Place, idle, waiting, due, Monitor, Config, threads}
use Rattle.machine.specs.Monitor as machine
use Rattle.machine.specs.Decide.Step.{is_due}
use Rattle.machine.proofs.Offers.{begun}
use Rattle.machine.proofs.Points.{PlainPoint}
use Rattle.machine.proofs.Reached.{Reached}
use Rattle.threads.specs.Held.{places_of}
use Rattle.threads.specs.declared.Thread.{Thread}
use Rattle.stepper.specs.Shown.{Shows, frame_of}
use Rattle.stepper.specs.declared.Run.{Run}
use Rattle.stepper.specs.declared.Frame as code
use Rattle.allowed.specs.declared.Methods.{Methods}
use Rattle.allowed.specs.declared.Spot.{Spot}

-- what a function gives for 0, 1, .. n - 1, added up
unfoldable pub sum_each : ℕ → (ℕ → ℕ) → ℕ
sum_each zero f = 0
sum_each (suc n) f = sum_each n f + f n

-- how many frames a thread has where nobody is due: by its place, whether it is the first on a guard that holds, and how many
-- methods there are
unfoldable pub offered_by : Place → Bool → ℕ → ℕ
offered_by idle front methods = methods
offered_by (waiting w) front methods = bit front
offered_by (due w) front methods = 0

-- that of each thread
unfoldable pub offered_at : List Thread → ℕ → ℕ → ℕ → ℕ
offered_at each methods fronts t = offered_by (places_of each t) (member fronts t) methods

-- the region of a thread's frame at an index
unfoldable pub region_by : Place → ℕ → List ℕ → ℕ
region_by idle i first = get_or first (i % 16) 0
region_by (waiting w) i first = w
region_by (due w) i first = w

-- the frame at an index is that of a thread, so many having been passed over
pub record PickedAt (each : List Thread) (n methods : ℕ) (first : List ℕ) (fronts index : ℕ) (r : Spot) : Type 0 where
  pub below : r.thread < n
  pub from : sum_each r.thread (offered_at each methods fronts) ≤ index
  pub to : index < sum_each r.thread (offered_at each methods fronts) + offered_at each methods fronts r.thread
  pub region :
      r.region ≡ region_by (places_of each r.thread) (index - sum_each r.thread (offered_at each methods fronts)) first

-- a frame is found there
pub record Picks (each : List Thread) (n methods : ℕ) (first : List ℕ) (fronts index : ℕ) (r : Option Spot) : Type 0 where
  pub spot : Spot
  pub found : r ≡ Some spot
  pub picked : PickedAt each n methods first fronts index spot

-- the first regions of a monitor's methods are held
pub record HeldMethods (m : Monitor) (ms : Methods) : Type 0 where
  pub count : ms.count ≡ length (begun m)
  pub few : length (begun m) ≤ 16
  pub each : (i : ℕ) → i < length (begun m) → get_or ms.first i 0 ≡ get_or (begun m) i 0

-- a record shows a point of the plain machine's run, and only the thread of the last frame can be due there
pub record PlainAt (m : Monitor) (n : ℕ) (run : Run) (last : ℕ) (c : Config) : Type 0 where
  pub shows : Shows false run c
  pub reached : Reached m c
  pub point : PlainPoint m c.state c.threads c.notified
  pub below : last < n
  pub due_last : (u : ℕ) → u < threads → is_due (c.threads.place u) ≡ true → u ≡ last

-- the frame of a list that a draw takes; none of an empty one
pub record Chooses (fs : List machine.Frame) (draw : ℕ) (r : Option code.Frame) : Type 0 where
  pub none : r ≡ None → fs ≡ []
  pub some : (f : code.Frame) → r ≡ Some f → 0 < length fs
  pub taken : (f : code.Frame) → r ≡ Some f → (d : machine.Frame) → frame_of f ≡ get_or fs (draw % length fs) d
