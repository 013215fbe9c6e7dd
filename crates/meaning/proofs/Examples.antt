-- The bench examples that document 01 stars, in one table: a file, a trace, and what the programs print.
-- One theorem shows that the meanings print this, from the bytes of the file to the bytes of the lines.
use Prim.Native.Nat.{ℕ}
use mathlib.Core.Path.{◌≡◌, refl}
use mathlib.Core.List.{List, [], ◌∷◌, map}
use Rattle.syntax.specs.Bytes.{bytes}
use Rattle.meaning.proofs.Printing.{Case, placing, running_case, printing}

pub record Example : Type 0 where
  pub case : Case
  pub printed : List ℕ

unfoldable pub box : List ℕ
box = bytes "monitor box { var full = 0 in 0..1; keep true; method put { waituntil (full == 0) { full := 1; } } method get { waituntil (full == 1) { full := 0; } } }"

unfoldable pub readers : List ℕ
readers = bytes "monitor rw { var readers = 0 in 0..3; var writer = 0 in 0..1; keep true; method er { waituntil (writer == 0 && readers < 3) { readers := readers + 1; } } method xr { waituntil (true) { if (readers > 0) { readers := readers - 1; } } } method ew { waituntil (readers == 0 && writer == 0) { writer := 1; } } method xw { waituntil (true) { writer := 0; } } }"

unfoldable pub kept_below : List ℕ
kept_below = bytes "monitor m { var x = 0 in 0..3; keep x < 2; method a { waituntil (x == 3) { } } method b { waituntil (true) { if (x == 2) { x := 3; } } } }"

unfoldable pub kept_always : List ℕ
kept_always = bytes "monitor m { var x = 0 in 0..3; keep true; method a { waituntil (x == 3) { } } method b { waituntil (true) { if (x == 2) { x := 3; } } } }"

unfoldable pub overflow : List ℕ
overflow = bytes "monitor m { var x = 0 in 0..1; keep true; method a { waituntil (true) { x := x + 1; } } }"

unfoldable pub example : Case → List ℕ → Example
example c p = record { case = c; printed = p }

-- by number, as in document 01, the fourth as document 02's E4 has it
unfoldable pub examples : List Example
examples =
    -- 1
    example (placing box) (bytes "00010100\n01000100\n")
    -- 2
    ∷ example (running_case box (bytes "000100\n010001\n000101\n"))
    (bytes "0080FFFFFFFFFFFFFFFFFFFFFFFFFFFFFFFF\n0080FFFFFFFFFFFFFFFFFFFFFFFFFFFFFFFF\n")
    -- 3
    ∷ example (running_case box (bytes "000100\n000101\n")) (bytes "0E00010000\n0E00010000\n")
    ∷ example (running_case box (bytes "000100\n000100\n")) (bytes "0E00010000\n0E00010000\n")
    -- 4
    ∷ example (running_case box (bytes "010100\n000100\n020001\n010101\n"))
    (bytes "008001FFFFFFFFFFFFFFFFFFFFFFFFFFFFFF\n008001FFFFFFFFFFFFFFFFFFFFFFFFFFFFFF\n")
    -- 5
    ∷ example (running_case box (bytes "000100\n010001\n020101\n000100\n"))
    (bytes "008001FFFFFFFFFFFFFFFFFFFFFFFFFFFFFF\n008001FFFFFFFFFFFFFFFFFFFFFFFFFFFFFF\n")
    -- 6
    ∷ example (running_case box (bytes "000100\n010100\n020001\n030101\n010100\n"))
    (bytes "00800101FFFFFFFFFFFFFFFFFFFFFFFFFFFF\n0E00040000\n")
    -- 7
    ∷ example (placing readers) (bytes "01000001\n01020000\n03000001\n03020000\n")
    -- 8
    ∷ example (placing kept_below) (bytes "")
    ∷ example (placing kept_always) (bytes "01000001\n")
    -- 9
    ∷ example (placing overflow) (bytes "0900000001\n")
    ∷ []

pub examples_hold : map (λ e. printing e.case) examples ≡ map (λ e. e.printed) examples
unfolding examples example printing box readers kept_below kept_always overflow bytes
examples_hold = refl
