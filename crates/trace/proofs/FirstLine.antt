-- Laws of the first line of some bytes, by cutting them at each 0A: it is a frame's exactly where six digits of a
-- frame's values and then 0A come first; after a frame, the lines go on seven bytes further.
use Prim.Native.Nat.{ℕ, zero, suc, ◌+◌, ◌*◌, ◌≤◌, ◌<◌}
use native.Mathlib.Omega.{arith}
use native.Mathlib.Numerals.{add-one}
use mathlib.Core.Path.{◌≡◌, refl, sym, ap, ◌∙◌}
use mathlib.Core.Bool.{Bool, true, false, ◌&&◌}
use mathlib.Core.List.{List, [], ◌∷◌, ◌++◌, append-nil, reverse, reverse-cons}
use mathlib.Core.Option.{Option, none, some}
use lib.ListN.{length, drop, get_or, length-reverse, length-drop, drop_of_length-le}
use lib.Seq.{append_snoc, drop-cons, drop-drop, get_or-drop}
use lib.Dec.{eqb}
use borrow.Author.Tests.{eqb-true, eq-eqb, lt-ltb, ltb-true}
use Rattle.machine.specs.Monitor as machine
use Rattle.meaning.specs.Decide.Frames.{ended, lines_from, is_hex, hex_value, all_hex, pair_at, is_frame, frame_of, Frames}
use Rattle.meaning.specs.Decide.Frames.{frames, none_at, prepend, frames_from, frames_of}
use Rattle.meaning.specs.Decide.Frames as meaning
use Rattle.meaning.proofs.Digits.{pair_digits}
use Rattle.meaning.proofs.Frames.{frame_at, is_frame_lem}
use Rattle.logic.proofs.Bools.{both, and, split, clash, is_false, is_true_lem}
use Rattle.logic.proofs.Bools.{different}
use Rattle.trace.specs.Lined.{line_for, first_of, line_at, counted_as, counted_of}
use Rattle.trace.specs.Pairs.{pair_of}
use Rattle.trace.specs.Lined as line
use Rattle.std.specs.Prelude.{Result, Ok, Err}
use Rattle.trace.specs.declared.BadLine.{BadLine}

-- Two digits

pub pair_is : (a b : ℕ) → is_hex a ≡ true → is_hex b ≡ true → pair_of a b ≡ hex_value a * 16 + hex_value b
unfolding pair_of
pair_is a b h g = rw (h, g, pair_of)

pair_none : (a b : ℕ) → is_hex a && is_hex b ≡ false → pair_of a b ≡ 256
unfolding pair_of
pair_none a b h = rw (h, pair_of)

pub pair_hex : (a b : ℕ) → pair_of a b ≤ 255 → (is_hex a ≡ true) × (is_hex b ≡ true)
pair_hex a b h = both _ _ (is_true_lem (λ e. omega (arith, pair_none a b e)))

-- Frames of six bytes

-- what a frame's bytes are
record Tests (bs : List ℕ) : Type 0 where
  six : length bs ≡ 6
  hex : all_hex bs ≡ true
  thread : pair_at bs 0 < 16
  flag : pair_at bs 4 < 2

frame_tests : (bs : List ℕ) → is_frame bs ≡ true → Tests bs
unfolding is_frame
frame_tests bs h =
    let h₁ = both _ _ h in
    let h₂ = both _ _ h₁.0 in
    let h₃ = both _ _ h₂.0 in
    record {
      six = eqb-true (length bs) 6 h₃.0;
      hex = h₃.1;
      thread = ltb-true (pair_at bs 0) 16 h₂.1;
      flag = ltb-true (pair_at bs 4) 2 h₁.1;
    }

tests_frame : (bs : List ℕ) → Tests bs → is_frame bs ≡ true
unfolding is_frame
tests_frame bs t =
    and (and (and (eq-eqb _ _ t.six) t.hex) (lt-ltb (pair_at bs 0) 16 t.thread))
    (lt-ltb (pair_at bs 4) 2 t.flag)

no_tests : (bs : List ℕ) → (Tests bs → ⊥) → frame_of (ended bs) ≡ none
unfolding frame_of
no_tests bs h = let n = is_false (λ e. h (frame_tests bs e)) in rw (n, frame_of)

hex_both : (b : ℕ) (bs : List ℕ) → all_hex (b ∷ bs) ≡ true → (is_hex b ≡ true) × (all_hex bs ≡ true)
unfolding all_hex
hex_both b bs = both (is_hex b) (all_hex bs)

module _ (a b c d p q : ℕ) where
  -- six bytes whose pairs are in a frame's ranges
  pub six_frame : pair_of a b ≤ 15 → pair_of c d ≤ 255 → pair_of p q ≤ 1
      → line_for (frame_of (ended (a ∷ b ∷ c ∷ d ∷ p ∷ q ∷ [])))
      ≡ line.Frame (pair_of a b) (pair_of c d) (eqb (pair_of p q) 1)
  unfolding all_hex pair_at frame_at line_for
  six_frame h g f =
      let x = pair_hex a b (omega arith) in
      let y = pair_hex c d (omega arith) in
      let z = pair_hex p q (omega arith) in
      let x₂ = pair_is a b x.0 x.1 in
      let y₂ = pair_is c d y.0 y.1 in
      let z₂ = pair_is p q z.0 z.1 in
      let t : Tests (a ∷ b ∷ c ∷ d ∷ p ∷ q ∷ []) = record {
        six = refl;
        hex = and x.0 (and x.1 (and y.0 (and y.1 (and z.0 (and z.1 refl)))));
        thread = omega arith;
        flag = omega arith;
      } in
      rw (is_frame_lem (a ∷ b ∷ c ∷ d ∷ p ∷ q ∷ []) (tests_frame _ t), x₂, y₂, z₂)

  -- and six bytes whose pairs are not
  pub six_none : (pair_of a b ≤ 15 → pair_of c d ≤ 255 → pair_of p q ≤ 1 → ⊥)
      → line_for (frame_of (ended (a ∷ b ∷ c ∷ d ∷ p ∷ q ∷ []))) ≡ line.Bad
  unfolding pair_at line_for
  six_none n =
      rw (no_tests (a ∷ b ∷ c ∷ d ∷ p ∷ q ∷ []) (λ t.
      let h₁ = hex_both _ _ t.hex in
      let h₂ = hex_both _ _ h₁.1 in
      let h₃ = hex_both _ _ h₂.1 in
      let h₄ = hex_both _ _ h₃.1 in
      let h₅ = hex_both _ _ h₄.1 in
      let h₆ = hex_both _ _ h₅.1 in
      n
      (omega (arith, pair_is a b h₁.0 h₂.0, t.thread))
      (omega (arith, pair_is c d h₃.0 h₄.0, (pair_digits c d h₃.0 h₄.0).0))
      (omega (arith, pair_is p q h₅.0 h₆.0, t.flag))))

-- The first line of some bytes, after those of a line that has begun

ends_here : (begun bs : List ℕ) (b : ℕ) → eqb b 10 ≡ true → lines_from begun (b ∷ bs)
    ≡ ended (reverse begun) ∷ lines_from [] bs
unfolding lines_from
ends_here begun bs b h = rw (lines_from, h)

goes_on : (begun bs : List ℕ) (b : ℕ) → eqb b 10 ≡ false → lines_from begun (b ∷ bs) ≡ lines_from (b ∷ begun) bs
unfolding lines_from
goes_on begun bs b h = rw (lines_from, h)

-- a frame's line has six bytes
begun_bytes : (begun : List ℕ) → (length begun ≡ 6 → ⊥) → frame_of (ended (reverse begun)) ≡ none
begun_bytes begun h = no_tests (reverse begun) (λ t. h (sym (length-reverse begun) ∙ t.six))

-- no 0A where a frame's line would end
bad_first : (begun bs : List ℕ) → 0 < length begun + length bs
    → ((k : ℕ) → k + length begun ≡ 6 → k < length bs → get_or bs k 0 ≡ 10 → ⊥) → first_of (lines_from begun bs) ≡ line.Bad
unfolding first_of lines_from line_for frame_of
bad_first [] [] l h = absurd (omega arith)
bad_first (a ∷ begun) [] l h = refl
bad_first begun (b ∷ bs) l h = split (eqb b 10)
    (λ e. rw (ends_here begun bs b e, begun_bytes begun (λ s. h 0 (omega arith) (omega arith) (eqb-true b 10 e))))
    (λ e. rw (goes_on begun bs b e)
    (bad_first (b ∷ begun) bs (omega arith) (λ k p q. h (suc k) (omega arith) (omega arith))))

-- six bytes and then 0A are read as these six: a 0A among them is no digit
ten_digit : is_hex 10 ≡ false
unfolding is_hex
ten_digit = refl

ten_hex : (xs ys : List ℕ) → all_hex (xs ++ 10 ∷ ys) ≡ false
unfolding all_hex
ten_hex [] ys = rw ten_digit
ten_hex (x ∷ xs) ys = is_false (λ e. clash (hex_both x (xs ++ 10 ∷ ys) e).1 (ten_hex xs ys))

ten_none : (xs ys : List ℕ) → frame_of (ended (xs ++ 10 ∷ ys)) ≡ none
ten_none xs ys = no_tests _ (λ t. clash t.hex (ten_hex xs ys))

six_first : (begun bs more : List ℕ) → length begun + length bs ≡ 6
    → first_of (lines_from begun (bs ++ 10 ∷ more)) ≡ line_for (frame_of (ended (reverse begun ++ bs)))
unfolding first_of lines_from
six_first begun [] more l = rw append-nil
six_first begun (b ∷ bs) more l = split (eqb b 10)
    (λ e. rw (
      ends_here begun (bs ++ 10 ∷ more) b e,
      begun_bytes begun (omega arith),
      eqb-true b 10 e,
      ten_none (reverse begun) bs,
    ))
    (λ e. rw (goes_on begun (bs ++ 10 ∷ more) b e) (six_first (b ∷ begun) bs more (omega arith)
    ∙ rw (reverse-cons, append_snoc)))

-- Where the first line is a frame, it ends k bytes further, and the others begin there

pub record Next (begun bs : List ℕ) (k : ℕ) : Type 0 where
  pub its : meaning.Line
  pub frame : machine.Frame
  pub is : frame_of its ≡ some frame
  pub lines : lines_from begun bs ≡ its ∷ lines_from [] (drop k bs)
  pub fits : k ≤ length bs

-- a line that the code takes for a frame is one, of six bytes
some_frame : {t r : ℕ} {f : Bool} (bs : List ℕ) → line_for (frame_of (ended bs)) ≡ line.Frame t r f → is_frame bs ≡ true
unfolding line_for frame_of
some_frame bs h = is_true_lem (λ e. let h₂ = rw (frame_of, e) at h in different (cc))

next_first : {t r : ℕ} {f : Bool} (k : ℕ) (begun bs : List ℕ) → k + length begun ≡ 6 → first_of (lines_from begun bs)
    ≡ line.Frame t r f
    → Next begun bs (suc k)
unfolding first_of lines_from frame_of line_for
next_first k [] [] l h = different (cc)
next_first k (a ∷ begun) [] l h = different (cc)
next_first k begun (b ∷ bs) l h =
    split (eqb b 10) (λ e. here k l e)
    (λ e. further k l e (λ j m. next_first j (b ∷ begun) bs m (rw (goes_on begun bs b e) at h)))
  where
    here : (k : ℕ) → k + length begun ≡ 6 → eqb b 10 ≡ true → Next begun (b ∷ bs) (suc k)
    here k l e =
        let i = some_frame (reverse begun) (rw (ends_here begun bs b e) at h) in
        let t = frame_tests _ i in
        let z : k ≡ 0 = omega (arith, length-reverse begun, t.six) in
        record {
          its = ended (reverse begun);
          frame = frame_at (reverse begun);
          is = is_frame_lem (reverse begun) i;
          lines = rw z (ends_here begun bs b e);
          fits = omega arith;
        }

    further : (k : ℕ) → k + length begun ≡ 6 → eqb b 10 ≡ false
        → ((j : ℕ) → j + length (b ∷ begun) ≡ 6 → Next (b ∷ begun) bs (suc j)) → Next begun (b ∷ bs) (suc k)
    further zero l e rest =
        let h₂ = rw (goes_on begun bs b e) at h in
        let n = bad_first (b ∷ begun) bs (omega arith) (λ k p q. omega arith) in different (cc)
    further (suc j) l e rest =
        let r = rest j (omega arith) in
        record {
          its = r.its;
          frame = r.frame;
          is = r.is;
          lines = goes_on begun bs b e ∙ r.lines;
          fits =
              omega (arith, r.fits);
        }

-- The line at a byte of a trace

pub line_end : (trace : List ℕ) (at : ℕ) → length trace ≤ at → line.End ≡ line_at trace at
unfolding line_at first_of lines_from
line_end trace at h = rw (drop_of_length-le trace h)

pub line_bad : (trace : List ℕ) (at : ℕ) → at < length trace → (at + 6 < length trace → get_or trace (at + 6) 0 ≡ 10 → ⊥)
    → line.Bad ≡ line_at trace at
unfolding line_at
line_bad trace at l h =
    let n = length-drop at trace in
    sym (bad_first [] (drop at trace) (omega arith) (λ k p q e.
    let z : k ≡ 6 = omega arith in h (omega arith) (rw (z, get_or-drop) at e)))

-- the six bytes from a byte on
six_at : List ℕ → ℕ → List ℕ
six_at trace at =
    get_or trace at 0 ∷ get_or trace (at + 1) 0 ∷ get_or trace (at + 2) 0 ∷ get_or trace (at + 3) 0 ∷ get_or trace (at + 4) 0 ∷
    get_or trace (at + 5) 0 ∷ []

drop_one : (l : List ℕ) (i : ℕ) → i < length l → drop i l ≡ get_or l i 0 ∷ drop (i + 1) l
drop_one l i h = rw add-one (drop-cons l i 0 h)

drop_next : (l : List ℕ) (i k : ℕ) → i + k < length l → drop (i + k) l ≡ get_or l (i + k) 0 ∷ drop (i + (k + 1)) l
drop_next l i k h = let e : i + (k + 1) ≡ i + k + 1 = omega arith in rw e (drop_one l (i + k) h)

drop_seven : (trace : List ℕ) (at : ℕ) → at + 6 < length trace
    → drop at trace ≡ six_at trace at ++ (get_or trace (at + 6) 0 ∷ drop (at + 7) trace)
unfolding six_at
drop_seven trace at h =
    rw (
      drop_one trace at (omega arith),
      drop_next trace at 1 (omega arith),
      drop_next trace at 2 (omega arith),
      drop_next trace at 3 (omega arith),
      drop_next trace at 4 (omega arith),
      drop_next trace at 5 (omega arith),
      drop_next trace at 6 h,
    )

line_six : (trace : List ℕ) (at : ℕ) → at + 6 < length trace → get_or trace (at + 6) 0 ≡ 10 → line_at trace at
    ≡ line_for (frame_of (ended (six_at trace at)))
unfolding line_at six_at
line_six trace at h e = rw (drop_seven trace at h, e) (six_first [] (six_at trace at) (drop (at + 7) trace) refl)

-- what the code knows where seven bytes are there and the last is 0A: the values of its pairs
pub record PairsAt (trace : List ℕ) (at t r f : ℕ) : Type 0 where
  pub inside : at + 6 < length trace
  pub ends : get_or trace (at + 6) 0 ≡ 10
  pub thread : t ≡ pair_of (get_or trace at 0) (get_or trace (at + 1) 0)
  pub region : r ≡ pair_of (get_or trace (at + 2) 0) (get_or trace (at + 3) 0)
  pub flag : f ≡ pair_of (get_or trace (at + 4) 0) (get_or trace (at + 5) 0)

pub line_frame : {trace : List ℕ} {at t r f : ℕ} → PairsAt trace at t r f → t ≤ 15 → r ≤ 255 → f ≤ 1
    → line.Frame t r (eqb f 1) ≡ line_at trace at
unfolding six_at
line_frame {trace} {at} p h g e = rw (line_six trace at p.inside p.ends, p.thread, p.region, p.flag)
    (sym (six_frame _ _ _ _ _ _ (rw p.thread at h) (rw p.region at g) (rw p.flag at e)))

pub line_none : {trace : List ℕ} {at t r f : ℕ} → PairsAt trace at t r f → (t ≤ 15 → r ≤ 255 → f ≤ 1 → ⊥)
    → line.Bad ≡ line_at trace at
unfolding six_at
line_none {trace} {at} p n = rw (line_six trace at p.inside p.ends)
    (sym (six_none _ _ _ _ _ _ (rw (p.thread, p.region, p.flag) at n)))

-- Frames counted

-- with n frames before
unfoldable pub counted_from : ℕ → Frames → Result ℕ BadLine
counted_from n (frames fs) = Ok (n + length fs)
counted_from n (none_at k) = Err (record { number = k })

-- what is counted from a byte on, after n frames
unfoldable pub left_from : List ℕ → ℕ → ℕ → Result ℕ BadLine
left_from trace at n = counted_from n (frames_from n (lines_from [] (drop at trace)))

pub left_all : (trace : List ℕ) → counted_of trace ≡ left_from trace 0 0
unfolding counted_of counted_as frames_of left_from counted_from
left_all trace = go (frames_from 0 (lines_from [] trace))
  where
    go : (r : Frames) → counted_as r ≡ counted_from 0 r
    go (frames fs) = ap Ok (omega arith)
    go (none_at k) = refl

counted_more : (n : ℕ) (f : machine.Frame) (r : Frames) → counted_from n (prepend f r) ≡ counted_from (n + 1) r
unfolding counted_from prepend
counted_more n f (frames fs) = ap Ok (omega arith)
counted_more n f (none_at k) = refl

pub record LeftNext (trace : List ℕ) (at n : ℕ) : Type 0 where
  pub same : left_from trace at n ≡ left_from trace (at + 7) (n + 1)
  pub fits : at + 7 ≤ length trace

pub left_frame : {t r : ℕ} {f : Bool} (trace : List ℕ) (at n : ℕ) → line.Frame t r f ≡ line_at trace at
    → LeftNext trace at n
unfolding line_at left_from frames_from
left_frame trace at n h =
    let x = next_first 6 [] (drop at trace) refl (sym h) in
    let l = length-drop at trace in
    record {
      same = rw (x.lines, frames_from, x.is, counted_more, drop-drop);
      fits = omega (arith, x.fits);
    }

bad_none : (n : ℕ) (ls : List meaning.Line) → line.Bad ≡ first_of ls → frames_from n ls ≡ none_at n
unfolding first_of frames_from line_for
bad_none n [] h = different (cc)
bad_none n (l ∷ ls) h = go (frame_of l) refl
  where
    go : (o : Option machine.Frame) → frame_of l ≡ o → frames_from n (l ∷ ls) ≡ none_at n
    go none p = rw (frames_from, p)
    go (some f) p = let q = rw p at h in different (cc)

pub left_bad : (trace : List ℕ) (at n : ℕ) → line.Bad ≡ line_at trace at → left_from trace at n ≡ Err (record { number = n })
unfolding line_at left_from counted_from
left_bad trace at n h = rw (bad_none n _ h)

end_none : (n : ℕ) (ls : List meaning.Line) → line.End ≡ first_of ls → frames_from n ls ≡ frames []
unfolding first_of frames_from line_for
end_none n [] h = refl
end_none n (l ∷ ls) h = go (frame_of l) refl
  where
    go : (o : Option machine.Frame) → frame_of l ≡ o → frames_from n (l ∷ ls) ≡ frames []
    go none p = let q = rw p at h in different (cc)
    go (some f) p = let q = rw p at h in different (cc)

pub left_end : (trace : List ℕ) (at n : ℕ) → line.End ≡ line_at trace at → left_from trace at n ≡ Ok n
unfolding line_at left_from counted_from
left_end trace at n h = rw (end_none n _ h) (ap Ok (omega arith))
