-- What the code finds at a byte of a trace, and in a whole trace, by the definitions of frames.
use Rattle.std.specs.Prelude.{ℕ, ◌<◌, ◌≡◌, Bool, true, false, List, [], ◌∷◌, length, drop, Result, Ok, Err}
use Rattle.std.proofs.Math.Option.{Option, none, some}
use Rattle.machine.specs.Monitor as machine
use Rattle.meaning.specs.Decide.Frames.{lines_from, frame_of, Frames, frames, none_at, frames_of}
use Rattle.meaning.specs.Decide.Frames as meaning
use Rattle.trace.specs.declared.BadLine.{BadLine}

-- a frame with its thread, region and flag; a line that is no frame; or the trace's end
pub data Line : Type 0 where
  Frame : ℕ → ℕ → Bool → Line
  Bad End : Line

unfoldable pub line_for : Option machine.Frame → Line
line_for none = Bad
line_for (some f) = Frame f.thread f.region f.flag

-- the first of some lines
unfoldable pub first_of : List meaning.Line → Line
first_of [] = End
first_of (l ∷ ls) = line_for (frame_of l)

unfoldable pub line_at : List ℕ → ℕ → Line
line_at trace at = first_of (lines_from [] (drop at trace))

-- a frame's line begins at a byte
pub record FrameThere (trace : List ℕ) (at : ℕ) : Type 0 where
  pub thread : ℕ
  pub region : ℕ
  pub flag : Bool
  pub is : Frame thread region flag ≡ line_at trace at

-- what a test for that tells
pub record Tells (trace : List ℕ) (at : ℕ) (r : Bool) : Type 0 where
  pub frame : r ≡ true → FrameThere trace at
  pub none_there : r ≡ false → at < length trace → Bad ≡ line_at trace at

-- how many frames there are, or the number of the first line that is none
unfoldable pub counted_as : Frames → Result ℕ BadLine
counted_as (frames fs) = Ok (length fs)
counted_as (none_at k) = Err (record { number = k })

unfoldable pub counted_of : List ℕ → Result ℕ BadLine
counted_of trace = counted_as (frames_of trace)
