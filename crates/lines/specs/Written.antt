-- A run's record as the code holds it, what it writes of each part, and what putting a line into a lent buffer says.
use Rattle.std.specs.Prelude.{ℕ, ◌+◌, ◌%◌, ◌<◌, ◌≡◌, List, [], ◌∷◌, ◌++◌, map, length, get_or, pos}
use Rattle.machine.specs.Monitor as machine
use Rattle.meaning.specs.Held.{Offset}
use Rattle.meaning.specs.Hex.{hex2}
use Rattle.meaning.specs.Decide.Table.{for_each}
use Rattle.meaning.specs.Calls as calls
use Rattle.demands.specs.Widths.{RecordFits}
use Rattle.threads.specs.Held.{place_of, places_of}
use Rattle.threads.specs.declared.Thread.{Thread}
use Rattle.digits.specs.Written.{Writes}

-- each value with 128 added, and the threads' places; the record's numbers fit their digits
pub record Fits (rec : calls.Record) (vars : ℕ) (values : List ℕ) (threads : List Thread) : Type 0 where
  pub counted : vars ≡ length rec.values
  pub held : (k : ℕ) → k < length rec.values → Offset (get_or rec.values k (pos 0)) (get_or values k 0)
  pub places : map (λ t. place_of t.place) threads ≡ rec.places
  pub digits : RecordFits rec

-- what the code writes of a place, of the first bytes, of the first values and of the first threads
unfoldable pub byte_of : machine.Place → ℕ
byte_of machine.idle = 255
byte_of (machine.waiting r) = r
byte_of (machine.due r) = r % 16 + 16

unfoldable pub value_at : List ℕ → ℕ → List ℕ
value_at values k = hex2 (get_or values k 0 % 256)

unfoldable pub place_at : List Thread → ℕ → List ℕ
place_at threads t = hex2 (byte_of (places_of threads t))

unfoldable pub each_at : List ℕ → ℕ → List ℕ
each_at bytes n = for_each n 0 (λ k. hex2 (get_or bytes k 0))

unfoldable pub values_at : List ℕ → ℕ → List ℕ
values_at values n = for_each n 0 (value_at values)

unfoldable pub places_at : List Thread → ℕ → List ℕ
places_at threads n = for_each n 0 (place_at threads)

-- the line of a record that is held so
unfoldable pub held_line : (vars : ℕ) (values : List ℕ) (threads : List Thread) → List ℕ
held_line vars values threads = hex2 0 ++ (values_at values vars ++ (places_at threads 16 ++ (10 ∷ [])))

-- a line put into a lent buffer: it is written where there is room for it; else the buffer is as it was, and so is the
-- place
pub record PutsLine (line : List ℕ) (room : Type 0) (before : List ℕ) (at next : ℕ) (after : List ℕ) : Type 0 where
  pub written : room → Writes line before at next after
  pub kept : (room → ⊥) → (next ≡ at) × (after ≡ before)
