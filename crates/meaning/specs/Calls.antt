-- What the library's calls give: of placing the answer, the length and every byte of the buffer; of a run the record or
-- the answer.
use Rattle.std.specs.Prelude.{ℕ, ◌<◌, ◌≡◌, true, List, ℤ}
use Rattle.syntax.specs.Tree.{Monitor}
use Rattle.machine.specs.Monitor.{Place, Config, threads, turn}
use Rattle.machine.specs.Rules.{Notices, PlainNotices, TableNotices}
use Rattle.machine.specs.Decide.Table.{entry_of}
use Rattle.meaning.specs.State.{count, state_at}
use Rattle.meaning.specs.Kept.{kept_at}
use Rattle.meaning.specs.Answer.{Answer}
use Rattle.meaning.specs.Bits.{each_from, bits, ones}
use Rattle.meaning.specs.Model.{vars, model}

-- Placing: the answer, the table's length, the chosen tries as sixteen bits, how many pairs of region and guard are
-- touched, and every byte of the buffer afterwards

-- (R 7.13)
pub record Placing : Type 0 where
  pub answer : Answer
  pub length : ℕ
  pub chosen : ℕ
  pub pairs : ℕ
  pub buffer : List ℕ

-- "A refusal writes to no buffer" (R 7.14, 7.15)
abbrev pub not_placed : Answer → List ℕ → Placing
not_placed a buffer = record { answer = a; length = 0; chosen = 0; pairs = 0; buffer = buffer }

-- Running

-- (R 9.1)
pub data Machine : Type 0 where
  plain_machine table_machine : Machine

-- the record of a run: each variable's value, the place and the turn of each of sixteen threads, the set of notified
-- threads and how many (R 10.6, 10.7, 10.8, 10.9, 10.13)
pub record Record : Type 0 where
  pub values : List ℤ
  pub places : List Place
  pub turns : List ℕ
  pub notified : ℕ
  pub how_many : ℕ

-- the record of a point (R 10.5, 10.6, 10.7, 10.8, 10.9, 10.13)
unfoldable pub record_of : Monitor → Config → Record
record_of m c =
    record {
      values = state_at (vars m) c.state;
      places = each_from threads 0 c.threads.place;
      turns = each_from threads 0 (turn c.threads);
      notified = bits (each_from threads 0 c.notified);
      how_many = ones (each_from threads 0 c.notified);
    }

-- what a run gives: its record, the file's refusal, or a refusal of the start or of the trace (R 8.13, 10.5)
pub data Running : Type 0 where
  ran : Record → Running
  refused_file : Answer → Running
  not_run : Answer → Running

-- 11: "start state number not below the count of states, or kept condition false there"; a state that counts
-- (R 8.12)
pub record Startable (m : Monitor) (s : ℕ) : Type 0 where
  pub below : s < count (vars m)
  pub keeps : kept_at m (state_at (vars m) s) ≡ true

-- whom a body notifies, by the source's Figures 4 and 6 (R 9.24, 9.25)
unfoldable pub notices_of : Monitor → Machine → Notices
notices_of m plain_machine = PlainNotices (model m)
notices_of m table_machine = TableNotices (model m) (entry_of (model m))
