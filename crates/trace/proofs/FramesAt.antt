-- A trace whose lines are all frames: its i-th frame is what the code finds behind the ends of the lines before it,
-- which is byte 7 * i, and its end at 7 times their number.
use Prim.Native.Nat.{ℕ, zero, suc, ◌+◌, ◌*◌, ◌/◌, ◌%◌, ◌<◌, ◌≤◌}
use native.Mathlib.Omega.{arith}
use mathlib.Core.Path.{◌≡◌, refl, sym, subst, ap, ◌∙◌}
use mathlib.Core.Bool.{Bool, true, false}
use mathlib.Core.List.{List, [], ◌∷◌, ◌++◌}
use mathlib.Core.Option.{Option, none, some}
use lib.ListN.{length, take, drop, get_or, length-append, length-drop}
use lib.Dec.{eqb, ltb}
use borrow.Author.Tests.{ltb-true, ltb-false, le-leb}
use lib.Seq.{length-take-le, take-length, drop-append-add, drop-cons, drop-length, get_or-drop}
use Rattle.machine.specs.Monitor as machine
use Rattle.meaning.specs.Decide.Frames.{frame_of, Frames, frames, none_at, prepend, frames_from, frames_of}
use Rattle.meaning.specs.Decide.Frames as meaning
use Rattle.meaning.specs.Trace.{frame_line, IsFrameRecord, FrameRecords, no_frame, one_frame, lines_of}
use Rattle.meaning.proofs.Frames.{line_seven, lines_seven, frames_read}
use Rattle.logic.proofs.Bools.{split}
use Rattle.meaning.specs.Hex.{hex_digit, hex2, hex_bool}
use Rattle.logic.proofs.Bools.{different}
use Rattle.trace.specs.Decoded.{value_of, numbers_at}
use Rattle.trace.specs.Lined.{line_for, first_of, line_at, counted_as, counted_of}
use Rattle.trace.specs.Lined as line
use Rattle.std.specs.Prelude.{Ok, Err}
use Rattle.trace.specs.declared.BadLine.{BadLine}

-- what the code finds where a frame's line begins
pub record FrameAt (trace : List ℕ) (at : ℕ) (f : machine.Frame) : Type 0 where
  pub found : line_at trace at ≡ line.Frame f.thread f.region f.flag
  pub numbers : numbers_at trace at ≡ record { thread = f.thread; region = f.region; flag = f.flag }
  pub thread : f.thread < 16
  pub region : f.region < 256

-- and where the trace ends
pub record EndAt (trace : List ℕ) (at : ℕ) : Type 0 where
  pub found : line_at trace at ≡ line.End
  pub whole : at ≡ length trace

-- the first frame of lines that are all frames
first_frame : List machine.Frame → line.Line
first_frame [] = line.End
first_frame (f ∷ fs) = line_for (some f)

first_frame_lem : (k : ℕ) (ls : List meaning.Line) (fs : List machine.Frame) → frames_from k ls ≡ frames fs
    → first_of ls ≡ first_frame fs
unfolding frames_from prepend first_of first_frame
first_frame_lem k [] [] e = refl
first_frame_lem k [] (f ∷ fs) e = different (cc)
first_frame_lem k (l ∷ ls) fs e = go (frame_of l) refl (frames_from (k + 1) ls) refl fs e
  where
    go : (o : Option machine.Frame) → frame_of l ≡ o → (r : Frames) → frames_from (k + 1) ls ≡ r
        → (fs : List machine.Frame) → frames_from k (l ∷ ls) ≡ frames fs → line_for (frame_of l) ≡ first_frame fs
    go none p r q fs e = let e₂ = rw (frames_from, p) at e in different (cc)
    go (some f) p (none_at j) q fs e = let e₂ = rw (frames_from, p, q) at e in different (cc)
    go (some f) p (frames gs) q [] e = let e₂ = rw (frames_from, p, q) at e in different (cc)
    go (some f) p (frames gs) q (g ∷ hs) e = let e₂ = rw (frames_from, p, q) at e in let s : f ≡ g = cc in rw (p, s)

-- where the i-th line begins: behind the ends of those before it
start_of : List machine.Frame → ℕ → ℕ
start_of fs i = length (lines_of (take i fs))

-- the one place that knows how long a line is
start_seven : (fs : List machine.Frame) (i : ℕ) → i ≤ length fs → start_of fs i ≡ 7 * i
unfolding start_of
start_seven fs i h = lines_seven (take i fs) ∙ rw (length-take-le i fs h) refl

-- the bytes from the i-th line on are those of the frames from the i-th on
lines_drop : (fs : List machine.Frame) (i : ℕ) → drop (start_of fs i) (lines_of fs) ≡ lines_of (drop i fs)
unfolding start_of lines_of
lines_drop fs zero = refl
lines_drop [] (suc i) = refl
lines_drop (f ∷ fs) (suc i) =
    rw (length-append) (drop-append-add (frame_line f) (lines_of fs) (start_of fs i) ∙ lines_drop fs i)

records_drop : {fs : List machine.Frame} (i : ℕ) → FrameRecords fs → FrameRecords (drop i fs)
records_drop zero r = r
records_drop (suc i) no_frame = no_frame
records_drop (suc i) (one_frame h r) = records_drop i r

record_at : {fs : List machine.Frame} (d : machine.Frame) (i : ℕ) → FrameRecords fs → i < length fs
    → IsFrameRecord (get_or fs i d)
record_at d i no_frame h = absurd (omega arith)
record_at d zero (one_frame h r) l = h
record_at d (suc i) (one_frame h r) l = record_at d i r (omega arith)

-- what the code finds at the i-th line
line_of : (fs : List machine.Frame) (i : ℕ) → FrameRecords fs → line_at (lines_of fs) (start_of fs i)
    ≡ first_frame (drop i fs)
unfolding line_at frames_of
line_of fs i r =
    rw (lines_drop fs i) (first_frame_lem 0 _ _ ((frames_read (lines_of (drop i fs)) (drop i fs)).1 (records_drop i r, refl)))

-- the value of a digit by arithmetic
value_digit : (n : ℕ) → n < 16 → value_of (hex_digit n) ≡ n
unfolding value_of hex_digit
value_digit n h =
    split (ltb n 10)
    (λ e. let l = ltb-true n 10 e in
    let q : (n + 48) / 64 ≡ 0 = omega arith in
    let m : (n + 48) % 16 ≡ n = omega arith in
    rw (hex_digit, e, q, m) (omega arith))
    (λ e. let l = ltb-false n 10 e in
    let q : (n + 55) / 64 ≡ 1 = omega arith in
    let m : (n + 55) % 16 + 9 ≡ n = omega arith in
    rw (hex_digit, e, q, m) (omega arith))

flag_byte : (b : Bool) (more : List ℕ) → eqb (get_or ((hex_bool b ++ (10 ∷ [])) ++ more) 1 0) 49 ≡ b
unfolding hex_bool hex2 hex_digit
flag_byte true more = refl
flag_byte false more = refl

-- the numbers of a frame's line, whatever follows it
line_numbers : (trace more : List ℕ) (at : ℕ) (f : machine.Frame) → IsFrameRecord f
    → drop at trace ≡ frame_line f ++ more
    → numbers_at trace at ≡ record { thread = f.thread; region = f.region; flag = f.flag }
unfolding IsFrameRecord frame_line hex2 numbers_at
line_numbers trace more at f ok e =
    let long : length (frame_line f ++ more) ≡ 7 + length more = rw (length-append, line_seven) refl in
    let room : at + 7 ≤ length trace = omega (arith, length-drop at trace, ap length e) in
    let byte : (k : ℕ) → get_or trace (at + k) 0 ≡ get_or (frame_line f ++ more) k 0 =
    λ k. sym (get_or-drop at trace k 0) ∙ ap (λ (bs : List ℕ). get_or bs k 0) e in
    let one : value_of (get_or trace (at + 1) 0) ≡ f.thread % 16 =
    ap value_of (byte 1) ∙ value_digit (f.thread % 16) (omega arith) in
    let two : value_of (get_or trace (at + 2) 0) ≡ f.region / 16 =
    ap value_of (byte 2) ∙ value_digit (f.region / 16) (omega arith) in
    let three : value_of (get_or trace (at + 3) 0) ≡ f.region % 16 =
    ap value_of (byte 3) ∙ value_digit (f.region % 16) (omega arith) in
    let five : eqb (get_or trace (at + 5) 0) 49 ≡ f.flag =
    ap (λ (b : ℕ). eqb b 49) (byte 5) ∙ flag_byte f.flag more in
    let thread : f.thread % 16 ≡ f.thread = omega arith in
    let region : f.region / 16 * 16 + f.region % 16 ≡ f.region = omega arith in
    rw (numbers_at, le-leb (at + 7) (length trace) room, one, two, three, five, thread, region)

module _ {trace : List ℕ} {fs : List machine.Frame} (e : frames_of trace ≡ frames fs) where
  pub frame_at : (d : machine.Frame) (i : ℕ) → i < length fs → FrameAt trace (7 * i) (get_or fs i d)
  unfolding IsFrameRecord first_frame line_for lines_of
  frame_at d i h =
      let p = (frames_read trace fs).0 e in
      let q = record_at d i p.0 h in
      let lines = p.1 in
      subst (λ (at : ℕ). FrameAt trace at (get_or fs i d)) (start_seven fs i (omega arith))
      (record {
        found = rw (p.1, line_of fs i p.0, drop-cons fs i d h);
        numbers =
            line_numbers trace (lines_of (drop (suc i) fs)) (start_of fs i) (get_or fs i d) (record_at d i p.0 h)
            (rw (p.1, lines_drop fs i, drop-cons fs i d h) refl);
        thread = q.0;
        region = q.1;
      })

  pub frames_end : EndAt trace (7 * length fs)
  unfolding first_frame start_of
  frames_end =
      let p = (frames_read trace fs).0 e in
      subst (EndAt trace) (start_seven fs (length fs) (omega arith))
      (record {
        found = rw (p.1, line_of fs (length fs) p.0, drop-length);
        whole = rw (p.1, start_of, take-length) refl;
      })

-- what a count says of the frames
pub record Counts (trace : List ℕ) (n : ℕ) : Type 0 where
  pub all : List machine.Frame
  pub read : frames_of trace ≡ frames all
  pub number : length all ≡ n

pub counted_frames : (trace : List ℕ) (n : ℕ) → counted_of trace ≡ Ok n → Counts trace n
unfolding counted_of counted_as
counted_frames trace n e = go (frames_of trace) refl
  where
    go : (r : Frames) → frames_of trace ≡ r → Counts trace n
    go (frames fs) p = let q = rw p at e in record { all = fs; read = p; number = cc }
    go (none_at k) p = let q = rw p at e in different (cc)

pub counted_bad : (trace : List ℕ) (k : ℕ) → counted_of trace ≡ Err (record { number = k }) → frames_of trace ≡ none_at k
unfolding counted_of counted_as
counted_bad trace k e = go (frames_of trace) refl
  where
    go : (r : Frames) → frames_of trace ≡ r → frames_of trace ≡ none_at k
    go (frames fs) p = let q = rw p at e in different (cc)
    go (none_at j) p =
        let q = rw p at e in
        let b : ◌≡◌ {A = BadLine} (record { number = j }) (record { number = k }) = cc in
        let n : j ≡ k = ap (λ (line : BadLine). line.number) b in
        cc
