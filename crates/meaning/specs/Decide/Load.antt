-- The call `load`, computed (document 02, E6): of a file, a seed, how many threads there are, a wanted count of frames and a
-- lent buffer.
use Rattle.std.specs.Prelude.{ℕ, ◌*◌, Bool, true, false, ◌||◌, List, length, eqb, ltb}
use Rattle.syntax.specs.Tree.{Monitor}
use Rattle.machine.specs.Monitor.{Frame, threads, all_idle}
use Rattle.machine.specs.Decide.Load.{load_from}
use Rattle.meaning.specs.Answer.{answer, accepted, refused}
use Rattle.meaning.specs.State.{start_number}
use Rattle.meaning.specs.Model.{vars, model}
use Rattle.meaning.specs.Load.{frame_size, Made, not_made, made_of}
use Rattle.meaning.specs.Decide.Check.{check}

-- "the run begins at the start values": the load of an accepted file by a seed, of so many threads, up to a wanted count
-- (R 17.2, 17.3)
unfoldable pub load_frames : Monitor → ℕ → ℕ → ℕ → List Frame
load_frames m seed count wanted = load_from (model m) count wanted (all_idle (start_number (vars m))) seed

-- "a buffer under seven bytes a wanted frame", whatever comes out (R 17.13)
unfoldable pub made_in : Monitor → ℕ → ℕ → ℕ → List ℕ → Made
made_in m seed count wanted buffer =
    elim (ltb (length buffer) (frame_size * wanted))
    [ true ↦ not_made (answer 10 0 0) buffer | false ↦ made_of (load_frames m seed count wanted) buffer ]

-- "thread count not 1 to 16" (R 17.12)
unfoldable pub bad_count : ℕ → Bool
bad_count count = eqb count 0 || ltb threads count

-- 16 "before any other", then the file's refusals, then 10 (R 17.12, 17.13)
unfoldable pub load_of : List ℕ → ℕ → ℕ → ℕ → List ℕ → Made
load_of file seed count wanted buffer =
    elim (bad_count count) [
      | true ↦ not_made (answer 16 0 0) buffer
      | false ↦
          elim (check file)
          [ accepted m ↦ made_in m seed count wanted buffer | refused a ↦ not_made a buffer ]
    ]
