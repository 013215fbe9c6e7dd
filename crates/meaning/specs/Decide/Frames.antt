-- Frames of a trace (12): "A trace has one frame a line".
use Rattle.std.specs.Prelude.{ℕ, ◌+◌, ◌*◌, ◌-◌, Bool, true, false, ◌&&◌, ◌||◌, List, [], ◌∷◌, reverse, length, get_or, eqb, ltb, leb}
use Rattle.std.proofs.Math.Option.{Option, none, some}
use Rattle.machine.specs.Monitor.{Frame}

-- a line of a trace, without its 0A; the last one may lack that
pub data Line : Type 0 where
  ended unended : List ℕ → Line

-- the lines of some bytes, after the bytes of a line that has begun, the last of these first
unfoldable pub lines_from : List ℕ → List ℕ → List Line
lines_from [] [] = []
lines_from (a ∷ as') [] = unended (reverse (a ∷ as')) ∷ []
lines_from begun (b ∷ bs) =
    elim (eqb b 10) [ true ↦ ended (reverse begun) ∷ lines_from [] bs | false ↦ lines_from (b ∷ begun) bs ]

-- "0-9 and A-F"
unfoldable pub is_hex : ℕ → Bool
is_hex b = (leb 48 b && leb b 57) || (leb 65 b && leb b 70)

unfoldable pub hex_value : ℕ → ℕ
hex_value b = elim (leb b 57) [ true ↦ b - 48 | false ↦ b - 55 ]

unfoldable pub all_hex : List ℕ → Bool
all_hex [] = true
all_hex (b ∷ bs) = is_hex b && all_hex bs

-- the value of the two digits from place k on
unfoldable pub pair_at : List ℕ → ℕ → ℕ
pair_at bs k = hex_value (get_or bs k 0) * 16 + hex_value (get_or bs (k + 1) 0)

-- "six such digits, then 0A, for thread (00 to 0F), region, flag (01 .., 00 ..)"
unfoldable pub is_frame : List ℕ → Bool
is_frame bs = eqb (length bs) 6 && all_hex bs && ltb (pair_at bs 0) 16 && ltb (pair_at bs 4) 2

unfoldable pub frame_of : Line → Option Frame
frame_of (ended bs) =
    elim (is_frame bs)
    [ true ↦ some (record { thread = pair_at bs 0; region = pair_at bs 2; flag = eqb (pair_at bs 4) 1 }) | false ↦ none ]
frame_of (unended bs) = none

-- the frames of a trace, or the number of the first line that is no frame
pub data Frames : Type 0 where
  frames : List Frame → Frames
  none_at : ℕ → Frames

unfoldable pub prepend : Frame → Frames → Frames
prepend f (frames fs) = frames (f ∷ fs)
prepend f (none_at k) = none_at k

-- lines are counted on from k
unfoldable pub frames_from : ℕ → List Line → Frames
frames_from k [] = frames []
frames_from k (l ∷ ls) = elim (frame_of l) [ none ↦ none_at k | some f ↦ prepend f (frames_from (k + 1) ls) ]

unfoldable pub frames_of : List ℕ → Frames
frames_of trace = frames_from 0 (lines_from [] trace)
