-- What writing the points of a list says: each machine's end, how many points there are, and every byte of the buffer.
use Rattle.std.specs.Prelude.{ℕ, ◌+◌, ◌-◌, ◌*◌, ◌<◌, ◌≤◌, ◌≡◌, Bool, true, false, List, ◌++◌, length, take, drop, Option}
use Rattle.syntax.specs.Tree.{Monitor}
use Rattle.sets.specs.Set.{member}
use Rattle.machine.specs.Monitor.{Frame}
use Rattle.machine.specs.Held.{Held}
use Rattle.meaning.specs.Answer.{Answer}
use Rattle.meaning.specs.Model.{vars, guards, model}
use Rattle.meaning.specs.Decide.Table.{for_each}
use Rattle.digits.specs.Written.{Writes}
use Rattle.meaning.specs.Points.{point_at, point_count, point_size, stop_answer, notices_at}
use Rattle.variables.specs.Bounded.{Bounded}
use Rattle.variables.specs.declared.Bounds.{Bounds}
use Rattle.stepper.specs.Shown.{of_machine}
use Rattle.run.specs.Way.{Asked, run_of, Way, stop_number, stop_frame}
use Rattle.run.specs.declared.frames.Going.{Going}
use Rattle.run.specs.declared.frames.Stop.{Stop}
use Rattle.points.specs.declared.Written.{Written}

-- what is asked: the slices hold the monitor of a file, the bytes are frames, and the buffer has room for their points
pub record PointsAsked (bytes : List ℕ) (state : ℕ) (bounds : Bounds) (count_of_guards : ℕ)
    (holds after guard_of begins going_on entries : List ℕ) (regions : ℕ) (out : List ℕ) (m : Monitor) (kept : List ℕ) (fs : List Frame) : Type 0 where
  pub asked : Asked bytes state holds after guard_of begins going_on entries regions (model m) kept fs
  pub bounded : Bounded (vars m) bounds
  pub guard_count : count_of_guards ≡ length (guards m)
  pub room : point_size * (length fs + 1) ≤ length out

-- what is known where a point is written: both machines are behind the first k frames, and two sets have each machine's
-- notices at the point before
pub record PointStands (m : Monitor) (s : ℕ) (fs : List Frame) (k : ℕ) (bounds : Bounds) (count_of_guards : ℕ)
    (holds : List ℕ) (g : Going) (plain table : ℕ) : Type 0 where
  pub way : Way (model m) s fs g k
  pub kept_slice : List ℕ
  pub after_slice : List ℕ
  pub guard_slice : List ℕ
  pub held : Held (model m) kept_slice holds after_slice guard_slice
  pub bounded : Bounded (vars m) bounds
  pub guard_count : count_of_guards ≡ length (guards m)
  pub plain_before : (u : ℕ) → u < 16 → member plain u ≡ notices_at (run_of (model m) false s (take (k - 1) fs)) u
  pub table_before :
      stop_number g.lost ≡ 0 → (u : ℕ) → u < 16 → member table u
      ≡ notices_at (run_of (model m) true s (take (k - 1) fs)) u

-- what is written up to a point: the points so far, of 49 bytes each
pub record Listed (m : Monitor) (s : ℕ) (fs : List Frame) (n : ℕ) (before : List ℕ) (to : ℕ) (after : List ℕ) : Type 0 where
  pub writes : Writes (for_each n 0 (point_at m s fs)) before 0 to after
  pub long : length (for_each n 0 (point_at m s fs)) ≡ 49 * n

-- a stop of the code says an answer
pub record StopSays (stop : Option Stop) (a : Answer) : Type 0 where
  pub number : stop_number stop ≡ a.number
  pub frame : stop_frame stop ≡ a.first
  pub no_second : a.second ≡ 0

pub record WritesPoints (m : Monitor) (s : ℕ) (fs : List Frame) (r : Written) (before after : List ℕ) : Type 0 where
  pub stops : (w : Bool) → StopSays (of_machine w r.plain r.table) (stop_answer (run_of (model m) w s fs))
  pub count : r.count ≡ point_count (run_of (model m) false s fs) fs
  pub bytes : after ≡ for_each r.count 0 (point_at m s fs) ++ drop (point_size * r.count) before
