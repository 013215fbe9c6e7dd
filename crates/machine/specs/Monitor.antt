-- A monitor freed from its syntax, and a point of a run: what the table and the two machines speak of ("Frames and the
-- two machines").
use Rattle.std.specs.Prelude.{ℕ, ◌<◌, ◌≡◌, Bool, false, List, [], eqb}
use Rattle.machine.specs.Queue.{those, place_in}

-- where a thread is: idle, or waiting at a region, or due at a region (R 9.4)
pub data Place : Type 0 where
  idle : Place
  waiting due : ℕ → Place

-- What the table and the machines ask of a monitor. A state is its number (R 3.17), regions and guards are numbered
-- from 0 (R 3.2, 3.9).
pub record Monitor : Type 0 where
  -- how many states, regions and guards there are (R 3.2, 3.9, 3.14)
  pub states : ℕ
  pub regions : ℕ
  pub guards : ℕ
  -- the guard of a region, and whether a guard holds in a state (R 3.5, 4.9)
  pub guard_of : ℕ → ℕ
  pub holds : ℕ → ℕ → Bool
  -- the state after a region's body (R 4.19)
  pub after : ℕ → ℕ → ℕ
  -- the kept condition (R 5.1); false of a number that is no state's
  pub kept : ℕ → Bool
  -- does a region begin a method (R 3.3), and where is a thread after a region's body: due at the next region, or idle
  -- (R 9.22)
  pub begins : ℕ → Bool
  pub follows : ℕ → Place

-- one line of a trace; the flag is 01 where the guard held and the body ran (R 8.5, 8.7)
pub record Frame : Type 0 where
  pub thread : ℕ
  pub region : ℕ
  pub flag : Bool

-- how many threads there are (R 9.2)
unfoldable pub threads : ℕ
threads = 16

-- what is known of all threads: where each is, and beside it the queue of those who wait, the earliest to begin at its
-- front (R 9.3, 9.37)
pub record Threads : Type 0 where
  pub place : ℕ → Place
  pub queue : List ℕ

-- two that are alike on the sixteen threads, and with one queue
pub record SameThreads (p p' : Threads) : Type 0 where
  pub same_place : (u : ℕ) → u < threads → p.place u ≡ p'.place u
  pub same_queue : p.queue ≡ p'.queue

-- a waiter's place in the queue; 0 of a thread that is idle or due (R 9.39)
unfoldable pub turn_at : Place → ℕ → ℕ
turn_at idle n = 0
turn_at (waiting r) n = n
turn_at (due r) n = 0

-- "its turn among all who wait": its place in the queue, so how many of them began before it (R 9.38)
unfoldable pub turn : Threads → ℕ → ℕ
turn p u = turn_at (p.place u) (place_in p.queue u)

module _ (m : Monitor) where
  -- a place at which a thread waits on guard g (R 9.5)
  unfoldable pub on_guard : ℕ → Place → Bool
  on_guard g idle = false
  on_guard g (waiting w) = eqb (m.guard_of w) g
  on_guard g (due w) = false

  unfoldable pub waits_on : Threads → ℕ → ℕ → Bool
  waits_on p g u = on_guard g (p.place u)

  -- the line on a guard: the queue cut down to those who wait on it (R 9.27)
  unfoldable pub line : Threads → ℕ → List ℕ
  line p g = those (waits_on p g) p.queue

-- a point of a run, over states of any kind: the state, what is known of all threads, and who has a notice that is not
-- used up (R 9.3)
pub record Point (S : Type 0) : Type 0 where
  pub state : S
  pub threads : Threads
  pub notified : ℕ → Bool

-- a point whose state is a number, as the machines compute it
abbrev pub Config : Type 0
Config = Point ℕ

-- a point with another state in its place
abbrev pub with_state : {S T : Type 0} → T → Point S → Point T
with_state x c = record { state = x; threads = c.threads; notified = c.notified }

-- every place is idle, and nobody waits (R 9.6)
abbrev pub idle_threads : Threads
idle_threads = record { place = λ _. idle; queue = [] }

-- "At the start all are idle and none notified" (R 9.6)
unfoldable pub all_idle : {S : Type 0} → S → Point S
all_idle s = record { state = s; threads = idle_threads; notified = λ _. false }

-- the end of a run of a list: its last point, or a refusal's number and the frame (R 9.8, 10.5)
pub data Run : Type 0 where
  accepted : Config → Run
  stopped : ℕ → ℕ → Run
