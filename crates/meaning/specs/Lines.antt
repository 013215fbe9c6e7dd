-- What the programs print ("Program lines").
use Rattle.std.specs.Prelude.{ℕ, ◌+◌, ◌/◌, ◌%◌, List, [], ◌∷◌, ◌++◌, take, ℤ, pos, ◌+ℤ◌, nat_abs}
use Rattle.syntax.specs.Tree.{Monitor}
use Rattle.machine.specs.Monitor.{Place, idle, waiting, due}
use Rattle.meaning.specs.State.{start_number}
use Rattle.meaning.specs.Answer.{Answer, accepted, refused}
use Rattle.meaning.specs.Decide.Check.{check}
use Rattle.meaning.specs.Model.{vars, model}
use Rattle.meaning.specs.Hex.{hex2}
use Rattle.meaning.specs.Decide.Table.{table_of}
use Rattle.meaning.specs.Calls.{Machine, plain_machine, table_machine, Record}
use Rattle.meaning.specs.Calls.{Running, ran, refused_file, not_run}
use Rattle.meaning.specs.Decide.Calls.{run_from}

-- four digits, for a place (R 13.15)
unfoldable pub hex4 : ℕ → List ℕ
hex4 n = hex2 (n / 256) ++ hex2 (n % 256)

-- "A refusal line has two, four and four such digits" (R 13.15)
unfoldable pub refusal_line : Answer → List ℕ
refusal_line a = hex2 a.number ++ (hex4 a.first ++ (hex4 a.second ++ (10 ∷ [])))

-- "FF idle, 00 to 0F waiting at that region, 10 to 1F due at that region plus 16" (R 13.13)
unfoldable pub place_byte : Place → ℕ
place_byte idle = 255
place_byte (waiting r) = r
place_byte (due r) = r + 16

-- "each value plus 128" (R 13.12)
unfoldable pub value_digits : List ℤ → List ℕ
value_digits [] = []
value_digits (a ∷ as') = hex2 (nat_abs (a +ℤ pos 128)) ++ value_digits as'

-- (R 13.12)
unfoldable pub place_digits : List Place → List ℕ
place_digits [] = []
place_digits (p ∷ ps) = hex2 (place_byte p) ++ place_digits ps

-- (R 13.1, 13.12)
unfoldable pub record_line : Record → List ℕ
record_line r = hex2 0 ++ (value_digits r.values ++ (place_digits r.places ++ (10 ∷ [])))

-- (R 13.12, 13.15)
unfoldable pub run_line : Running → List ℕ
run_line (ran r) = record_line r
run_line (refused_file a) = refusal_line a
run_line (not_run a) = refusal_line a

-- a machine's line for a trace, from the start values (R 13.9)
unfoldable pub machine_line : Monitor → Machine → List ℕ → List ℕ
machine_line m w trace = run_line (run_from m w (start_number (vars m)) trace)

-- the table's bytes, or the refusal's line (R 13.2, 13.3)
unfoldable pub placer : List ℕ → List ℕ
placer file = elim (check file) [ accepted m ↦ table_of (model m) | refused a ↦ refusal_line a ]

-- "it judges a longer trace by its first 65,536 bytes" (R 13.7)
abbrev pub trace_bytes : ℕ
trace_bytes = 65536

-- (R 13.10, 13.11)
unfoldable pub runner : List ℕ → List ℕ → List ℕ
runner file trace =
    elim (check file) [
      | accepted m ↦
          machine_line m plain_machine (take trace_bytes trace) ++ machine_line m table_machine (take trace_bytes trace)
      | refused a ↦ refusal_line a
    ]
