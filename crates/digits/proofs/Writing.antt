-- One list written behind another: stores from a place on, two and four lists in turn, and a loop that writes what a
-- function gives for 0, 1, ..
use Prim.Native.Nat.{ℕ, ◌+◌, ◌/◌, ◌%◌, ◌<◌, ◌≤◌}
use mathlib.Core.Path.{◌≡◌, refl, ap, ◌∙◌, subst}
use mathlib.Core.List.{List, [], ◌∷◌, ◌++◌, append_assoc}
use native.Mathlib.Nat.{add-zero, add_assoc}
use native.Mathlib.Numerals.{add-one}
use native.Mathlib.Omega.{arith}
use lib.ListN.{length, take, drop, set, length-append, length-drop, take-append-drop}
use borrow.Rule.Slice.PartMut.{put_mid}
use lib.Seq.{take_at, drop-append-add, drop-drop, length-take-le, sets-eq}
use Rattle.meaning.specs.Hex.{hex_digit, hex2}
use Rattle.meaning.specs.Decide.Table.{for_each}
use Rattle.digits.specs.Written.{over, Writes}
use Rattle.digits.proofs.ForEach.{for_each_more, for_each_within}

-- nothing is written
pub over_none : (d : List ℕ) (at : ℕ) → over d at [] ≡ d
unfolding over
over_none d at = rw (add-zero, take-append-drop)

-- a second list is written behind a first
module _ (d : List ℕ) (at : ℕ) (s : List ℕ) (fits : at + length s ≤ length d) where
  front : length (take at d ++ s) ≡ at + length s
  front = rw (length-append, length-take-le at d (omega arith))

  pub length_over : length (over d at s) ≡ length d
  unfolding over
  length_over = rw (length-append, length-take-le at d (omega arith), length-append, length-drop) (omega arith)

  pub over_over : (t : List ℕ) → over (over d at s) (at + length s) t ≡ over d at (s ++ t)
  unfolding over
  over_over t =
      rw (
        ← append_assoc (take at d) s (drop (at + length s) d),
        take_at (take at d ++ s) (drop (at + length s) d) (at + length s) front,
        ← front,
        drop-append-add (take at d ++ s) (drop (length (take at d ++ s)) d) (length t),
        drop-drop,
        front,
        length-append,
        append_assoc,
        append_assoc,
        add_assoc,
      )

-- a part that is written whole
pub part_over : (d : List ℕ) (at n : ℕ) (s : List ℕ) → n ≡ length s → put_mid at n d s ≡ over d at s
unfolding over
part_over d at n s e = rw (e, drop-drop) refl

-- the two digits of a number below 256
pub two_digits :
    (n a b : ℕ) → n < 256 → a ≡ hex_digit (n / 16 % 16) → b ≡ hex_digit (n % 16 % 16) → a ∷ b ∷ [] ≡ hex2 n
unfolding hex2
two_digits n a b small pa pb =
    let ea : a ≡ hex_digit (n / 16) = pa ∙ ap hex_digit (omega arith) in
    let eb : b ≡ hex_digit (n % 16) = pb ∙ ap hex_digit (omega arith) in
    rw (ea, eb)

pub written_same : {s t d e : List ℕ} {at p : ℕ} → s ≡ t → Writes s d at p e → Writes t d at p e
written_same {d = d} {e = e} {at = at} {p = p} q w = subst (λ (l : List ℕ). Writes l d at p e) q w

pub written_none : (d : List ℕ) (at : ℕ) → Writes [] d at at d
written_none d at = record { bytes = rw over_none; behind = rw add-zero }

module _ {d e : List ℕ} {at p : ℕ} {s : List ℕ} (one : Writes s d at p e) (fits : at + length s ≤ length d) where
  pub written_length : length e ≡ length d
  written_length = rw one.bytes (length_over d at s fits)

  pub written_more : {q : ℕ} {t f : List ℕ} → Writes t e p q f → Writes (s ++ t) d at q f
  written_more {t = t} two =
      record {
        bytes = two.bytes ∙ rw (one.bytes, one.behind) (over_over d at s fits t);
        behind = rw length-append (omega (arith, one.behind, two.behind));
      }

-- four lists, one behind the other
pub written_four :
    {d e f g h : List ℕ} {at p q r s : ℕ} {w x y z : List ℕ} → Writes w d at p e → Writes x e p q f → Writes y f q r g
    → Writes z g r s h → at + length w + length x + length y ≤ length d → Writes (w ++ (x ++ (y ++ z))) d at s h
written_four one two three four fits =
    let l = written_length one (omega arith) in
    let m = written_length two (omega (arith, one.behind)) in
    written_more one (omega arith)
    (written_more two (omega (arith, one.behind)) (written_more three (omega (arith, one.behind, two.behind)) four))

-- A loop that writes what f gives for 0, 1, .. n - 1 over d from a place on, one behind the other: e is the list after
-- k turns and p the place behind them
module _ (n : ℕ) (f : ℕ → List ℕ) {d e : List ℕ} {at p : ℕ} (fits : at + length (for_each n 0 f) ≤ length d) (k : ℕ)
    (done : Writes (for_each k 0 f) d at p e) where
  pub turn_length : k ≤ n → length e ≡ length d
  turn_length h = let w = for_each_within k n f h in written_length done (omega arith)

  pub turn_room : k < n → p + length (f k) ≤ length e
  turn_room h =
      let w : length (for_each (k + 1) 0 f) ≤ length (for_each n 0 f) = for_each_within (k + 1) n f (omega arith) in
      let s : length (for_each (k + 1) 0 f) ≡ length (for_each k 0 f) + length (f k) = rw (for_each_more, length-append) in
      let l : length e ≡ length d = turn_length (omega arith) in
      let b = done.behind in
      omega arith

  pub turn : k < n → {q : ℕ} {u : List ℕ} → Writes (f k) e p q u → Writes (for_each (k + 1) 0 f) d at q u
  turn h w = let l = for_each_within k n f (omega arith) in rw for_each_more (written_more done (omega arith) w)
