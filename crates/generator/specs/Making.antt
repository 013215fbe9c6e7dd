-- What making frames says: how many there are, and every byte of the buffer.
use Rattle.std.specs.Prelude.{ℕ, ◌*◌, ◌≤◌, ◌<◌, ◌≡◌, true, List, length}
use Rattle.machine.specs.Monitor.{Monitor, all_idle}
use Rattle.machine.specs.Agreement.{Checked}
use Rattle.machine.specs.Held.{Held, HeldPlaces}
use Rattle.machine.specs.Decide.Load.{load_from}
use Rattle.meaning.specs.Load.{frame_size, made_of}

-- what is asked: the slices hold a checked monitor, the start is kept, the threads are 1 to 16, and the buffer has room for the
-- frames that are wanted
pub record MakeAsked (n wanted state : ℕ) (holds after guard_of begins going_on : List ℕ) (regions : ℕ) (out : List ℕ)
    (m : Monitor) (kept : List ℕ) : Type 0 where
  pub count : m.regions ≡ regions
  pub held : Held m kept holds after guard_of
  pub places : HeldPlaces m begins going_on
  pub checked : Checked m
  pub start : m.kept state ≡ true
  pub some : 0 < n
  pub few : n ≤ 16
  pub room : frame_size * wanted ≤ length out

-- the frames of the load, and their lines from byte 0
pub record MakesFrames (m : Monitor) (seed n wanted state r : ℕ) (before after : List ℕ) : Type 0 where
  pub count : r ≡ (made_of (load_from m n wanted (all_idle state) seed) before).count
  pub bytes : after ≡ (made_of (load_from m n wanted (all_idle state) seed) before).buffer
