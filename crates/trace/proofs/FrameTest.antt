-- A frame's line by tests of single bytes: digits, 0 at the first place of a thread and of a flag, 0 or 1 at a flag's
-- last, then 0A.
use Prim.Native.Nat.{ℕ, ◌+◌, ◌-◌, ◌/◌, ◌≤◌, ◌<◌}
use native.Mathlib.Omega.{arith}
use mathlib.Core.Path.{◌≡◌, refl}
use mathlib.Core.Bool.{Bool, true, false, ◌&&◌}
use mathlib.Core.Logic.{inl, ⊎_elim}
use mathlib.Core.List.{List}
use lib.ListN.{length, get_or}
use lib.Dec.{eqb}
use borrow.Author.Tests.{eqb-true, eq-eqb}
use Rattle.meaning.specs.Decide.Frames.{is_hex, hex_value}
use Rattle.meaning.proofs.Digits.{decides_hex, low_value, high_value, pair_digits}
use Rattle.logic.proofs.Bools.{both, and, Decides, clash, split_eq}
use Rattle.trace.specs.Lined.{Tells}
use Rattle.trace.specs.Pairs.{pair_of}
use Rattle.trace.proofs.FirstLine.{pair_is, pair_hex, PairsAt, line_bad, line_frame, line_none}

-- a digit of value 0 or 1, both ways
digit_bit : (b : ℕ) → is_hex b ≡ true → hex_value b ≤ 1 → b ≡ 48 + hex_value b
digit_bit b h l = ⊎_elim
    (λ p. omega (arith, low_value b p.1))
    (λ p. omega (arith, high_value b (omega arith)))
    ((decides_hex b).0 h)

bit_digit : (b : ℕ) → 48 ≤ b → b ≤ 49 → (is_hex b ≡ true) × (hex_value b ≡ b - 48)
bit_digit b l h = ((decides_hex b).1 (inl (l, omega arith)), low_value b (omega arith))

-- what six bytes of a frame are
record Marks (a b c d p q : ℕ) : Type 0 where
  thread : a ≡ 48
  second : is_hex b ≡ true
  third : is_hex c ≡ true
  fourth : is_hex d ≡ true
  flag : p ≡ 48
  bit : q / 2 ≡ 24

-- and the values of their pairs
record Ranges (a b c d p q : ℕ) : Type 0 where
  thread : pair_of a b ≤ 15
  region : pair_of c d ≤ 255
  flag : pair_of p q ≤ 1

module _ {a b c d p q : ℕ} where
  marks_ranges : Marks a b c d p q → Ranges a b c d p q
  marks_ranges m =
      let x = bit_digit a (omega (arith, m.thread)) (omega (arith, m.thread)) in
      let y = bit_digit p (omega (arith, m.flag)) (omega (arith, m.flag)) in
      let z = bit_digit q (omega (arith, m.bit)) (omega (arith, m.bit)) in
      record {
        thread =
            omega (arith, pair_is a b x.0 m.second, x.1, m.thread, (pair_digits b b m.second m.second).0);
        region = omega (arith, pair_is c d m.third m.fourth, (pair_digits c d m.third m.fourth).0);
        flag = omega (arith, pair_is p q y.0 z.0, y.1, z.1, m.flag, m.bit);
      }

  ranges_marks : Ranges a b c d p q → Marks a b c d p q
  ranges_marks r =
      let (x, y) = pair_hex a b (omega (arith, r.thread)) in
      let (z, w) = pair_hex c d r.region in
      let (u, v) = pair_hex p q (omega (arith, r.flag)) in
      let t = pair_is a b x y in
      let f = pair_is p q u v in
      record {
        thread = omega (arith, r.thread, t, digit_bit a x (omega (arith, r.thread)));
        second = y;
        third = z;
        fourth = w;
        flag = omega (arith, r.flag, f, digit_bit p u (omega (arith, r.flag)));
        bit = omega (arith, r.flag, f, digit_bit q v (omega (arith, r.flag)));
      }

-- the bytes of a frame's line from a byte on
record MarksAt (trace : List ℕ) (at : ℕ) : Type 0 where
  six :
      Marks (get_or trace at 0) (get_or trace (at + 1) 0) (get_or trace (at + 2) 0) (get_or trace (at + 3) 0)
      (get_or trace (at + 4) 0) (get_or trace (at + 5) 0)
  ends : get_or trace (at + 6) 0 ≡ 10

-- the tests that the code makes of them
unfoldable pub test_of : List ℕ → ℕ → Bool
test_of trace at =
    (is_hex (get_or trace (at + 1) 0) && is_hex (get_or trace (at + 2) 0) && is_hex (get_or trace (at + 3) 0))
    && (eqb (get_or trace at 0) 48 && eqb (get_or trace (at + 4) 0) 48 && eqb (get_or trace (at + 5) 0 / 2) 24
    && eqb (get_or trace (at + 6) 0) 10)

module _ (trace : List ℕ) (at : ℕ) where
  decides_test : Decides (test_of trace at) (MarksAt trace at)
  unfolding test_of
  decides_test = (
    λ h.
        let (ds, ms) = both _ _ h in
        let (x, d₃) = both _ _ ds in
        let (d₁, d₂) = both _ _ x in
        let (y, m₆) = both _ _ ms in
        let (z, m₅) = both _ _ y in
        let (m₀, m₄) = both _ _ z in
        record {
          six = record {
            thread = eqb-true _ _ m₀;
            second = d₁;
            third = d₂;
            fourth = d₃;
            flag = eqb-true _ _ m₄;
            bit = eqb-true _ _ m₅;
          };
          ends = eqb-true _ _ m₆;
        },
    λ m.
        let s = m.six in
        and (and (and s.second s.third) s.fourth)
        (and (and (and (eq-eqb _ _ s.thread) (eq-eqb _ _ s.flag)) (eq-eqb _ _ s.bit)) (eq-eqb _ _ m.ends)),
  )

  -- of a line that is long enough
  pub test_tells : at + 6 < length trace → Tells trace at (test_of trace at)
  test_tells l = record {
    frame = λ h.
        let m = decides_test.0 h in
        let r = marks_ranges m.six in
        record {
          thread = _;
          region = _;
          flag = _;
          is = line_frame (pairs m.ends) r.thread r.region r.flag;
        };
    none_there = λ h g. split_eq (get_or trace (at + 6) 0) 10
        (λ e. line_none (pairs e) (λ t r f.
        let six = ranges_marks (record { thread = t; region = r; flag = f }) in
        clash (decides_test.1 (record { six = six; ends = e })) h))
        (λ n. line_bad trace at g (λ i. n));
  }
    where
      pairs : (e : get_or trace (at + 6) 0 ≡ 10)
          → PairsAt trace at (pair_of (get_or trace at 0) (get_or trace (at + 1) 0))
          (pair_of (get_or trace (at + 2) 0) (get_or trace (at + 3) 0))
          (pair_of (get_or trace (at + 4) 0) (get_or trace (at + 5) 0))
      pairs e = record { inside = l; ends = e; thread = refl; region = refl; flag = refl }

  -- a line that is too short
  pub short_tells : length trace < at + 7 → Tells trace at false
  short_tells l = record {
    frame = λ h. clash h refl;
    none_there = λ h g. line_bad trace at g (λ i. absurd (omega arith));
  }
