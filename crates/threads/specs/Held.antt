-- What the code's threads hold: the place and the turn of each, the queue, and with these what is known of all threads.
use Rattle.std.specs.Prelude.{ℕ, ◌<◌, ◌≡◌, true, false, ◌&&◌, List, eqb, leb, ltb, get_or}
use Rattle.machine.specs.Monitor as machine
use Rattle.machine.specs.Monitor.{turn}
use Rattle.machine.specs.Queue.{has}
use Rattle.machine.specs.Arrival.{Once}
use Rattle.machine.specs.Decide.Step.{put, is_waiting}
use Rattle.queue.specs.Packed.{queue_of}
use Rattle.threads.specs.declared.Place.{Place}
use Rattle.threads.specs.declared.Place.TheVariants.{Idle, Waiting, Due}
use Rattle.threads.specs.declared.Thread.{Thread}
use Rattle.threads.specs.declared.Threads.{Threads}

unfoldable pub place_of : Place → machine.Place
place_of Idle = machine.idle
place_of (Waiting r) = machine.waiting r
place_of (Due r) = machine.due r

unfoldable pub idle_thread : Thread
idle_thread = record { place = Idle; turn = 0 }

-- the place and the turn of thread u
unfoldable pub places_of : List Thread → ℕ → machine.Place
places_of ts u = place_of (get_or ts u idle_thread).place

unfoldable pub turns_of : List Thread → ℕ → ℕ
turns_of ts u = (get_or ts u idle_thread).turn

-- where each is, and the queue of those who wait
abbrev pub threads_of : Threads → machine.Threads
threads_of t = record { place = places_of t.each; queue = queue_of t.order t.waiting }

-- the turns that are held are those of the queue
pub record Turned (t : Threads) : Type 0 where
  pub turns : (u : ℕ) → u < machine.threads → turns_of t.each u ≡ turn (threads_of t) u

-- exactly those who wait are in the queue, each once
pub record Queued (t : Threads) : Type 0 where
  pub once : Once (queue_of t.order t.waiting)
  pub waits :
      (u : ℕ) → u < machine.threads → has (queue_of t.order t.waiting) u ≡ is_waiting (places_of t.each u)

-- the turns with that of thread t replaced
unfoldable pub put_turn : (ℕ → ℕ) → ℕ → ℕ → ℕ → ℕ
put_turn p t n u = elim (eqb u t) [ true ↦ n | false ↦ p u ]

-- the threads with the place and the turn of thread t replaced
pub record Puts (before : List Thread) (t : ℕ) (place : machine.Place) (n : ℕ) (after : List Thread) : Type 0 where
  pub places : (u : ℕ) → u < machine.threads → places_of after u ≡ put (places_of before) t place u
  pub turns : (u : ℕ) → u < machine.threads → turns_of after u ≡ put_turn (turns_of before) t n u

-- the turn held while turns are written anew: a thread's place in the queue if that place is among those gone over, else
-- what was held before
unfoldable pub between : ℕ → ℕ → ℕ → ℕ → ℕ
between from to place held = elim (leb from place && ltb place to) [ true ↦ place | false ↦ held ]
