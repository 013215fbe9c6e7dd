-- A trace is its frames' lines, and 12 names the first line that is no frame: what `frames_of` gives, for all bytes, by
-- cutting them at each 0A.
use Prim.Native.Nat.{ℕ, zero, suc, ◌+◌, ◌*◌, ◌<◌}
use native.Mathlib.Omega.{arith}
use mathlib.Core.Path.{◌≡◌, refl, sym, ap, ◌∙◌}
use mathlib.Core.Bool.{true, false, true≢false}
use mathlib.Core.Logic.{◌↔◌}
use mathlib.Core.List.{List, [], ◌∷◌, ◌++◌, append-nil, append_assoc, reverse, reverse-cons}
use mathlib.Core.Option.{none, some}
use lib.ListN.{length, length-append}
use lib.Seq.{append_snoc}
use lib.Dec.{eqb}
use borrow.Author.Tests.{eqb-true, eq-eqb, ltb-true, lt-ltb}
use Rattle.machine.specs.Monitor.{Frame}
use Rattle.meaning.specs.Hex.{hex2}
use Rattle.meaning.specs.Decide.Frames.{ended, unended, lines_from, all_hex, pair_at, is_frame, frame_of, Frames}
use Rattle.meaning.specs.Decide.Frames.{frames, none_at, prepend, frames_from, frames_of}
use Rattle.meaning.proofs.Digits.{two_digits, pair_digits, bit_digits, bit_back, back_bit}
use Rattle.logic.specs.Tests.{bit}
use Rattle.logic.proofs.Bools.{split, clash, both, and}
use Rattle.logic.proofs.Bools.{different}
use Rattle.meaning.specs.Trace.{FrameRecords, IsFrameRecord, NoFrameFirst, NoFrameAt, frame_line, lines_of}
use Rattle.meaning.specs.Trace.{no_frame}
use Rattle.meaning.specs.Trace.{one_frame}

-- a frame's line has seven bytes
pub line_seven : (f : Frame) → length (frame_line f) ≡ 7
unfolding frame_line hex2
line_seven f = rw bit_digits

pub lines_seven : (fs : List Frame) → length (lines_of fs) ≡ 7 * length fs
unfolding lines_of
lines_seven [] = refl
lines_seven (f ∷ fs) = simp (length-append, line_seven, lines_seven fs) (omega arith)

-- Lines

-- bytes without 0A
Free : List ℕ → Type 0
Free [] = Unit {0}
Free (b ∷ bs) = (eqb b 10 ≡ false) × Free bs

-- bytes have no 0A, or a first one
data FirstLine (bs : List ℕ) : Type 0 where
  no_end : Free bs → FirstLine bs
  first_end : (line more : List ℕ) → Free line → bs ≡ line ++ (10 ∷ more) → FirstLine bs

first_line : (bs : List ℕ) → FirstLine bs
unfolding Free
first_line [] = no_end tt
first_line (b ∷ bs) = split (eqb b 10) (λ e. first_end [] bs tt (rw (eqb-true b 10 e))) (λ e. under e (first_line bs))
  where
    under : eqb b 10 ≡ false → FirstLine bs → FirstLine (b ∷ bs)
    under e (no_end h) = no_end (e, h)
    under e (first_end line more h q) = first_end (b ∷ line) more (e, h) (ap (λ (x : List ℕ). b ∷ x) q)

same_line : (a b x y : List ℕ) → Free a → Free b → a ++ (10 ∷ x) ≡ b ++ (10 ∷ y) → (a ≡ b) × (x ≡ y)
unfolding Free
same_line [] [] x y h g e = (refl, cc)
same_line [] (c ∷ b) x y h g e = clash (eq-eqb c 10 (cc)) g.0
same_line (c ∷ a) [] x y h g e = clash (eq-eqb c 10 (cc)) h.0
same_line (c ∷ a) (d ∷ b) x y h g e = let r = same_line a b x y h.1 g.1 (cc) in let p = r.0 in (cc, r.1)

lines_through : (line begun more : List ℕ) → Free line → lines_from begun (line ++ (10 ∷ more))
    ≡ ended (reverse begun ++ line) ∷ lines_from [] more
unfolding Free lines_from
lines_through [] begun more h = rw append-nil
lines_through (b ∷ line) begun more h =
    rw (h.0, lines_from) (lines_through line (b ∷ begun) more h.1 ∙ rw (reverse-cons, append_snoc))

lines_end : (bs begun : List ℕ) (a : ℕ) → Free bs → (l : List ℕ) × (lines_from (a ∷ begun) bs ≡ unended l ∷ [])
unfolding Free lines_from
lines_end [] begun a h = (reverse (a ∷ begun), refl)
lines_end (b ∷ bs) begun a h = rw (h.0, lines_from) (lines_end bs (a ∷ begun) b h.1)

-- Frames and their digits

-- three numbers of two digits
six : ℕ → ℕ → ℕ → List ℕ
six x y z = hex2 x ++ (hex2 y ++ hex2 z)

record Six (x y z : ℕ) : Type 0 where
  free : Free (six x y z)
  hex : all_hex (six x y z) ≡ true
  sixth : length (six x y z) ≡ 6
  first : pair_at (six x y z) 0 ≡ x
  second : pair_at (six x y z) 2 ≡ y
  third : pair_at (six x y z) 4 ≡ z

six_digits : (x y z : ℕ) → x < 256 → y < 256 → z < 256 → Six x y z
unfolding six hex2 Free all_hex pair_at
six_digits x y z h g f =
    let a = two_digits x h in
    let b = two_digits y g in
    let c = two_digits z f in
    record {
      free = (a.high_free, (a.low_free, (b.high_free, (b.low_free, (c.high_free, (c.low_free, tt))))));
      hex =
          and a.high_hex
          (and a.low_hex (and b.high_hex (and b.low_hex (and c.high_hex (and c.low_hex refl)))));
      sixth = refl;
      first = a.value;
      second = b.value;
      third = c.value;
    }

-- six hexadecimal digits are three such numbers
digits_six : (bs : List ℕ) → length bs ≡ 6 → all_hex bs ≡ true
    → (pair_at bs 2 < 256) × (bs ≡ six (pair_at bs 0) (pair_at bs 2) (pair_at bs 4))
unfolding six all_hex pair_at
digits_six [] e h = absurd (omega arith)
digits_six (a ∷ []) e h = absurd (omega arith)
digits_six (a ∷ b ∷ []) e h = absurd (omega arith)
digits_six (a ∷ b ∷ c ∷ []) e h = absurd (omega arith)
digits_six (a ∷ b ∷ c ∷ d ∷ []) e h = absurd (omega arith)
digits_six (a ∷ b ∷ c ∷ d ∷ p ∷ []) e h = absurd (omega arith)
digits_six (a ∷ b ∷ c ∷ d ∷ p ∷ q ∷ []) e h =
    let h₁ = both _ _ h in
    let h₂ = both _ _ h₁.1 in
    let h₃ = both _ _ h₂.1 in
    let h₄ = both _ _ h₃.1 in
    let h₅ = both _ _ h₄.1 in
    let h₆ = both _ _ h₅.1 in
    let x = pair_digits a b h₁.0 h₂.0 in
    let y = pair_digits c d h₃.0 h₄.0 in
    let z = pair_digits p q h₅.0 h₆.0 in
    (y.0, rw (x.1, y.1, z.1))
digits_six (a ∷ b ∷ c ∷ d ∷ p ∷ q ∷ r ∷ bs) e h = absurd (omega arith)

-- a frame's digits, without the 0A
digits : Frame → List ℕ
digits f = six f.thread f.region (bit f.flag)

line_digits : (f : Frame) (more : List ℕ) → frame_line f ++ more ≡ digits f ++ (10 ∷ more)
unfolding frame_line digits six
line_digits f more = simp (bit_digits, append_assoc)

unfoldable pub frame_at : List ℕ → Frame
frame_at bs = record { thread = pair_at bs 0; region = pair_at bs 2; flag = eqb (pair_at bs 4) 1 }

pub is_frame_lem : (bs : List ℕ) → is_frame bs ≡ true → frame_of (ended bs) ≡ some (frame_at bs)
unfolding frame_of frame_at
is_frame_lem bs h = rw (h, frame_of)

is_none_lem : (bs : List ℕ) → is_frame bs ≡ false → frame_of (ended bs) ≡ none
unfolding frame_of
is_none_lem bs h = rw (h, frame_of)

-- the digits hold no 0A and read as the frame
digits_read : (f : Frame) → IsFrameRecord f → Free (digits f) × (frame_of (ended (digits f)) ≡ some f)
unfolding digits IsFrameRecord is_frame frame_at
digits_read f (t, r) =
    let v = bit_back f.flag in
    let s = six_digits f.thread f.region (bit f.flag) (omega arith) r (omega arith) in (
      s.free,
      is_frame_lem (digits f)
          (and (and (and (eq-eqb _ _ s.sixth) s.hex) (rw s.first (lt-ltb f.thread 16 t)))
          (rw s.third (lt-ltb (bit f.flag) 2 v.0)))
          ∙ rw (s.first, s.second, s.third, v.1),
    )

-- a line that reads as a frame is that frame's
read_digits : (bs : List ℕ) → is_frame bs ≡ true → IsFrameRecord (frame_at bs) × (bs ≡ digits (frame_at bs))
unfolding digits IsFrameRecord is_frame frame_at
read_digits bs h =
    let h₁ = both _ _ h in
    let h₂ = both _ _ h₁.0 in
    let h₃ = both _ _ h₂.0 in
    let s = digits_six bs (eqb-true (length bs) 6 h₃.0) h₃.1 in
    ((ltb-true (pair_at bs 0) 16 h₂.1, s.0), rw (back_bit (pair_at bs 4) (ltb-true (pair_at bs 4) 2 h₁.1)) s.1)

-- How bytes begin: there are none, or a frame's line, or neither

line_back : (line more : List ℕ) → is_frame line ≡ true → line ++ (10 ∷ more) ≡ frame_line (frame_at line) ++ more
line_back line more h = ap (λ (l : List ℕ). l ++ (10 ∷ more)) (read_digits line h).1
    ∙ sym (line_digits (frame_at line) more)

ends : (a x : List ℕ) → Free (a ++ (10 ∷ x)) → ⊥
unfolding Free
ends [] x h = true≢false h.0
ends (b ∷ a) x h = ends a x h.1

data Begins (bs : List ℕ) : Type 0 where
  empty : bs ≡ [] → Begins bs
  frame_first : (f : Frame) (more : List ℕ) → IsFrameRecord f → bs ≡ frame_line f ++ more → Begins bs
  neither : NoFrameFirst bs → Begins bs

begins : (bs : List ℕ) → FirstLine bs → Begins bs
begins [] l = empty refl
begins (b ∷ bs) (no_end h) =
    neither (record {
      some_byte = λ e. different (cc);
      no_line = λ f more r e. ends (digits f) more (rw (e, line_digits) at h);
    })
begins (b ∷ bs) (first_end line more h e) = split (is_frame line)
    (λ i. frame_first (frame_at line) more (read_digits line i).0 (e ∙ line_back line more i))
    (λ i. neither (record {
      some_byte = λ q. different (cc);
      no_line = λ f more₂ r q.
          let d = digits_read f r in
          let s = same_line line (digits f) more more₂ h d.0 (sym e ∙ q ∙ line_digits f more₂) in
          let l = s.0 in let j = d.1 in let n = is_none_lem line i in different (cc);
    }))

-- one frame's line, and then what follows
line_first : (k : ℕ) (f : Frame) (more : List ℕ) → IsFrameRecord f
    → frames_from k (lines_from [] (frame_line f ++ more)) ≡ prepend f (frames_from (k + 1) (lines_from [] more))
unfolding frames_from
line_first k f more h =
    let d = digits_read f h in
    rw (line_digits, lines_through (digits f) [] more d.0, frames_from, d.1)

-- no frame's line
none_first : (k : ℕ) (bs : List ℕ) → NoFrameFirst bs → FirstLine bs → frames_from k (lines_from [] bs) ≡ none_at k
unfolding frames_from lines_from Free frame_of
none_first k [] n (no_end h) = absurd (n.some_byte refl)
none_first k (b ∷ bs) n (no_end h) = rw (lines_from, h.0, (lines_end bs [] b h.1).1)
none_first k bs n (first_end line more h e) = split (is_frame line)
    (λ i. absurd (n.no_line (frame_at line) more (read_digits line i).0 (e ∙ line_back line more i)))
    (λ i. rw (e, lines_through line [] more h, frames_from, is_none_lem line i))

-- What is read, with the frames counted on from k

abbrev Reads : ℕ → Frames → List ℕ → Type 0
Reads k (frames fs) bs = FrameRecords fs × (bs ≡ lines_of fs)
Reads k (none_at j) bs = (i : ℕ) × (k + i ≡ j) × NoFrameAt bs i

reads_more : (k : ℕ) (f : Frame) (more : List ℕ) (o : Frames) → IsFrameRecord f → Reads (k + 1) o more
    → Reads k (prepend f o) (frame_line f ++ more)
unfolding prepend lines_of
reads_more k f more (frames fs) h (r, e) = (one_frame h r, ap (λ (x : List ℕ). frame_line f ++ x) e)
reads_more k f more (none_at j) h (i, c, s) = (
  suc i,
  omega arith,
  record {
    before = f ∷ s.before;
    rest = s.rest;
    count = ap suc s.count;
    records = one_frame h s.records;
    whole = rw (s.whole, append_assoc);
    first = s.first;
  },
)

reads : (n k : ℕ) (bs : List ℕ) → length bs < n → Reads k (frames_from k (lines_from [] bs)) bs
unfolding frames_from lines_from lines_of
reads zero k bs l = absurd (omega arith)
reads (suc n) k bs l = go (begins bs (first_line bs)) (λ more h. reads n (k + 1) more h)
  where
    go : Begins bs → ((more : List ℕ) → length more < n → Reads (k + 1) (frames_from (k + 1) (lines_from [] more)) more)
        → Reads k (frames_from k (lines_from [] bs)) bs
    go (empty e) rest = rw e (no_frame, refl)
    go (frame_first f more h e) rest =
        rw (e, line_first k f more h) (reads_more k f more _ h (rest more
        (omega (arith, simp length-append at (ap length (e ∙ line_digits f more))))))
    go (neither m) rest = rw (none_first k bs m (first_line bs)) (
      0,
      omega arith,
      record { before = []; rest = bs; count = refl; records = no_frame; whole = refl; first = m },
    )

-- the lines of frames are read as these frames, and what follows decides whether all is

lines_read : {fs : List Frame} (k : ℕ) → FrameRecords fs → frames_from k (lines_from [] (lines_of fs)) ≡ frames fs
unfolding frames_from lines_from lines_of prepend
lines_read k no_frame = refl
lines_read k (one_frame {f = f} {fs = fs} h r) = line_first k f (lines_of fs) h ∙ rw (lines_read (k + 1) r)

lines_stop : {fs : List Frame} (k : ℕ) (rest : List ℕ) → FrameRecords fs → NoFrameFirst rest
    → frames_from k (lines_from [] (lines_of fs ++ rest)) ≡ none_at (k + length fs)
unfolding lines_of prepend
lines_stop k rest no_frame n = none_first k rest n (first_line rest) ∙ ap none_at (omega arith)
lines_stop k rest (one_frame {f = f} {fs = fs} h r) n =
    rw (append_assoc, line_first k f (lines_of fs ++ rest) h, lines_stop (k + 1) rest r n) (ap none_at (omega arith))

-- "A trace has one frame a line": exactly the lines of frames are read whole
pub frames_read : (trace : List ℕ) (fs : List Frame)
    → (frames_of trace ≡ frames fs) ↔ (FrameRecords fs × (trace ≡ lines_of fs))
unfolding frames_of
frames_read trace fs =
    ((λ e. rw e at (reads (suc (length trace)) 0 trace (omega arith))), λ p. rw p.1 (lines_read 0 p.0))

-- 12: "first line that is no frame", the lines before it being frames
pub frames_stop : (trace : List ℕ) (k : ℕ) → (frames_of trace ≡ none_at k) ↔ NoFrameAt trace k
unfolding frames_of
frames_stop trace k = (
  λ e. let (i, c, s) = rw e at (reads (suc (length trace)) 0 trace (omega arith)) in let q : i ≡ k = omega arith in
      rw q at s,
  λ s. rw s.whole (lines_stop 0 s.rest s.records s.first ∙ ap none_at (let c = s.count in omega arith)),
)
