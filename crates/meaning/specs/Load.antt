-- A repeatable load (document 02, E6): what the call `load` gives.
use Rattle.std.specs.Prelude.{ℕ, List, ◌++◌, length, drop}
use Rattle.machine.specs.Monitor.{Frame}
use Rattle.meaning.specs.Answer.{Answer, answer}
use Rattle.meaning.specs.Trace.{lines_of}

-- how many bytes a wanted frame takes of the buffer (R 17.13)
abbrev pub frame_size : ℕ
frame_size = 7

-- the answer, how many frames there are, and every byte of the buffer afterwards (R 17.1)
pub record Made : Type 0 where
  pub answer : Answer
  pub count : ℕ
  pub buffer : List ℕ

-- "A refusal writes to no buffer", and makes no frame (R 17.14)
abbrev pub not_made : Answer → List ℕ → Made
not_made a buffer = record { answer = a; count = 0; buffer = buffer }

-- "the frames go to a lent buffer with their count, the bytes behind kept" (R 17.11)
unfoldable pub made_of : List Frame → List ℕ → Made
made_of fs buffer =
    record {
      answer = answer 0 0 0;
      count = length fs;
      buffer = lines_of fs ++ drop (length (lines_of fs)) buffer;
    }
