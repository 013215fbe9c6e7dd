-- Traces and their frames ("Frames and the two machines"), and what 12 names.
use Rattle.std.specs.Prelude.{ℕ, ◌<◌, ◌≡◌, List, [], ◌∷◌, ◌++◌, length}
use Rattle.machine.specs.Monitor.{Frame}
use Rattle.meaning.specs.Hex.{hex2, hex_bool}

-- What a frame's line is: "six such digits, then 0A, for thread (00 to 0F), region, flag"

-- (R 8.4, 8.5)
unfoldable pub frame_line : Frame → List ℕ
frame_line f = hex2 f.thread ++ (hex2 f.region ++ (hex_bool f.flag ++ (10 ∷ [])))

-- the numbers that a thread and a region may have (R 8.6)
unfoldable pub IsFrameRecord : Frame → Type 0
IsFrameRecord f = (f.thread < 16) × (f.region < 256)

-- each of a list (R 8.6)
pub data FrameRecords : List Frame → Type 0 where
  no_frame : FrameRecords []
  one_frame : {f : Frame} {fs : List Frame} → IsFrameRecord f → FrameRecords fs → FrameRecords (f ∷ fs)

-- the bytes of lines that are all frames (R 8.1, 8.4)
unfoldable pub lines_of : List Frame → List ℕ
lines_of [] = []
lines_of (f ∷ fs) = frame_line f ++ lines_of fs

-- bytes that are there, and begin with no frame's line (R 8.4, 8.8)
pub record NoFrameFirst (bs : List ℕ) : Type 0 where
  pub some_byte : bs ≡ [] → ⊥
  pub no_line : (f : Frame) (more : List ℕ) → IsFrameRecord f → bs ≡ frame_line f ++ more → ⊥

-- a trace is the lines of k frames, and then bytes that begin with no frame's line (R 8.3, 8.9)
pub record NoFrameAt (trace : List ℕ) (k : ℕ) : Type 0 where
  pub before : List Frame
  pub rest : List ℕ
  pub count : length before ≡ k
  pub records : FrameRecords before
  pub whole : trace ≡ lines_of before ++ rest
  pub first : NoFrameFirst rest
