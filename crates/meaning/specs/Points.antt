-- Every point of a run as bytes in a lent buffer: what the call `points` gives. A point is a prefix of the list, taken as a
-- trace from the same state; what both machines have in common there stands once.
use Rattle.std.specs.Prelude.{ℕ, ◌+◌, ◌-◌, ◌*◌, ◌/◌, ◌%◌, Bool, true, false, not, ◌&&◌, List, [], ◌∷◌, ◌++◌, length, get_or, take, drop, ℤ, pos, ◌+ℤ◌, nat_abs, ltb}
use Rattle.syntax.specs.Limits.{most_vars}
use Rattle.syntax.specs.Tree.{Monitor}
use Rattle.machine.specs.Monitor.{Threads, Config, Frame, Run, accepted, stopped, threads, turn}
use Rattle.meaning.specs.Answer.{Answer, answer}
use Rattle.meaning.specs.Answer as verdict
use Rattle.meaning.specs.State.{state_at}
use Rattle.meaning.specs.Model.{vars, kept, holds}
use Rattle.meaning.specs.Calls.{Machine, plain_machine, table_machine}
use Rattle.meaning.specs.Bits.{each_from, bits}
use Rattle.meaning.specs.Lines.{place_byte}
use Rattle.meaning.specs.Decide.Check.{check}
use Rattle.meaning.specs.Decide.Table.{for_each}
use Rattle.meaning.specs.Decide.Frames.{Frames, frames, none_at, frames_of}
use Rattle.meaning.specs.Decide.Calls.{run_list}

-- The bytes of a point

-- (R 15.5)
abbrev pub point_size : ℕ
point_size = 49

-- each variable's value plus 128, and 128 in the slots without a variable (R 15.6)
unfoldable pub value_bytes : List ℤ → List ℕ
value_bytes values = each_from most_vars 0 (λ k. nat_abs (get_or values k (pos 0) +ℤ pos 128))

-- the sixteen places, as `runner` prints them (R 15.7, 13.13)
unfoldable pub place_bytes : Threads → List ℕ
place_bytes p = each_from threads 0 (λ t. place_byte (p.place t))

-- the sixteen turns (R 15.13)
unfoldable pub turn_bytes : Threads → List ℕ
turn_bytes p = each_from threads 0 (turn p)

-- a set of sixteen, low byte first (R 15.8)
unfoldable pub set_bytes : (ℕ → Bool) → List ℕ
set_bytes f = bits (each_from threads 0 f) % 256 ∷ bits (each_from threads 0 f) / 256 ∷ []

-- the numbers, the places and the guards that hold: once for both machines (R 15.6, 15.7, 15.8)
unfoldable pub shared_bytes : Monitor → Config → List ℕ
shared_bytes m c =
    value_bytes (state_at (vars m) c.state) ++ (place_bytes c.threads ++ set_bytes (λ g. holds m g c.state))

-- who is notified, and who of these was not before: whom the frame has told (R 15.9, 15.10)
unfoldable pub notice_bytes : (ℕ → Bool) → (ℕ → Bool) → List ℕ
notice_bytes before now = set_bytes now ++ set_bytes (λ u. now u && not (before u))

-- who is notified at the end of a run (R 15.10)
unfoldable pub notices_at : Run → ℕ → Bool
notices_at (accepted c) u = c.notified u
notices_at (stopped a k) u = false

-- the plain machine's run up to a point, behind that up to the point before; where it has stopped there is no point
-- (R 15.4, 15.9)
unfoldable pub plain_part : Monitor → Run → Run → List ℕ
plain_part m before (accepted c) = shared_bytes m c ++ notice_bytes (notices_at before) c.notified
plain_part m before (stopped a k) = []

-- the table's: marked absent where it has stopped (R 15.11, 15.12)
unfoldable pub table_part : Run → Run → List ℕ
table_part before (accepted c) = 1 ∷ notice_bytes (notices_at before) c.notified
table_part before (stopped a k) = 0 ∷ 0 ∷ 0 ∷ 0 ∷ 0 ∷ []

-- the turns, once for both machines (R 15.13)
unfoldable pub turn_part : Run → List ℕ
turn_part (accepted c) = turn_bytes c.threads
turn_part (stopped a k) = []

-- point k of a list: the runs of its first k frames; before point 0 nobody is notified (R 15.4, 15.10)
unfoldable pub point_at : Monitor → ℕ → List Frame → ℕ → List ℕ
point_at m s fs k =
    let run : Machine → ℕ → Run = λ w n. run_list m w s (take n fs) in
    plain_part m (run plain_machine (k - 1)) (run plain_machine k)
    ++ (table_part (run table_machine (k - 1)) (run table_machine k) ++ turn_part (run plain_machine k))

-- The call

-- both answers, how many points are written, and every byte of the buffer afterwards (R 15.2)
pub record Pointing : Type 0 where
  pub plain : Answer
  pub table : Answer
  pub count : ℕ
  pub buffer : List ℕ

-- a refusal of the file, the buffer, the start or a line: both machines', and nothing is written (R 15.3)
abbrev pub no_points : Answer → List ℕ → Pointing
no_points a buffer = record { plain = a; table = a; count = 0; buffer = buffer }

-- a machine's answer to a list (R 10.2, 10.3)
unfoldable pub stop_answer : Run → Answer
stop_answer (accepted c) = answer 0 0 0
stop_answer (stopped a k) = answer a k 0

-- the points up to where the plain machine stops (R 15.4)
unfoldable pub point_count : Run → List Frame → ℕ
point_count (accepted c) fs = length fs + 1
point_count (stopped a k) fs = k + 1

-- of a list of frames (R 15.2, 15.4)
unfoldable pub list_points : Monitor → ℕ → List Frame → List ℕ → Pointing
list_points m s fs buffer =
    let n = point_count (run_list m plain_machine s fs) fs in
    record {
      plain = stop_answer (run_list m plain_machine s fs);
      table = stop_answer (run_list m table_machine s fs);
      count = n;
      buffer = for_each n 0 (point_at m s fs) ++ drop (point_size * n) buffer;
    }

-- 12 over the whole trace (R 15.3)
unfoldable pub frame_points : Monitor → ℕ → Frames → List ℕ → Pointing
frame_points m s (frames fs) buffer = list_points m s fs buffer
frame_points m s (none_at k) buffer = no_points (answer 12 k 0) buffer

-- 11 (R 15.3)
unfoldable pub points_from : Monitor → ℕ → List ℕ → List ℕ → Pointing
points_from m s trace buffer =
    elim (kept m s) [ true ↦ frame_points m s (frames_of trace) buffer | false ↦ no_points (answer 11 0 0) buffer ]

-- what a list in the bytes of a trace has at most (R 15.3)
unfoldable pub point_room : List ℕ → ℕ
point_room trace = point_size * (length trace / 7 + 1)

-- of a file, a trace, a state's number and a buffer: the file's refusals, and 10 (R 15.1, 15.3)
unfoldable pub points_of : List ℕ → List ℕ → ℕ → List ℕ → Pointing
points_of file trace s buffer =
    elim (check file) [
      | verdict.accepted m ↦
          elim (ltb (length buffer) (point_room trace))
          [ true ↦ no_points (answer 10 0 0) buffer | false ↦ points_from m s trace buffer ]
      | verdict.refused a ↦ no_points a buffer
    ]
