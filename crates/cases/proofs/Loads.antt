-- The second program's small cases for loads, and that the definitions give the same. Made by tools/theorems.
use Prim.Native.Nat.{ℕ}
use mathlib.Core.Path.{◌≡◌, refl}
use mathlib.Core.List.{List, [], ◌∷◌, ◌++◌}
use lib.ListN.{replicate}
use Rattle.syntax.specs.Bytes.{bytes}
use Rattle.meaning.specs.Lines.{refusal_line}
use Rattle.meaning.specs.Decide.Load.{load_of}
use Rattle.meaning.proofs.Printing.{printing}

-- of a file, a seed, how many threads there are, how many frames are wanted, and how long the buffer is: the answer's line, the
-- count of frames, and every byte of the buffer, which held 165 before
unfoldable load : List ℕ → ℕ → ℕ → ℕ → ℕ → List ℕ
load file seed threads wanted room =
    let l = load_of file seed threads wanted (replicate room 165) in
    refusal_line l.answer ++ (l.count ∷ l.buffer)

unfoldable asked : List (List ℕ)
asked =
    load (bytes "monitor box { var full = 0 in 0..1; keep true; method put { waituntil (full == 0) { full := 1; } } method get { waituntil (full == 1) { full := 0; } } }") 0 1 20 140
    ∷ load (bytes "monitor box { var full = 0 in 0..1; keep true; method put { waituntil (full == 0) { full := 1; } } method get { waituntil (full == 1) { full := 0; } } }") 2 1 20 140
    ∷ load (bytes "monitor box { var full = 0 in 0..1; keep true; method put { waituntil (full == 0) { full := 1; } } method get { waituntil (full == 1) { full := 0; } } }") 4 1 20 140
    ∷ load (bytes "monitor box { var full = 0 in 0..1; keep true; method put { waituntil (full == 0) { full := 1; } } method get { waituntil (full == 1) { full := 0; } } }") 4294967295 1 20 140
    ∷ load (bytes "monitor box { var full = 0 in 0..1; keep true; method put { waituntil (full == 0) { full := 1; } } method get { waituntil (full == 1) { full := 0; } } }") 2147483648 1 20 140
    ∷ load (bytes "monitor box { var full = 0 in 0..1; keep true; method put { waituntil (full == 0) { full := 1; } } method get { waituntil (full == 1) { full := 0; } } }") 65536 1 20 140
    ∷ load (bytes "monitor box { var full = 0 in 0..1; keep true; method put { waituntil (full == 0) { full := 1; } } method get { waituntil (full == 1) { full := 0; } } }") 10 1 2 14
    ∷ load (bytes "monitor box { var full = 0 in 0..1; keep true; method put { waituntil (full == 0) { full := 1; } } method get { waituntil (full == 1) { full := 0; } } }") 0 2 9 63
    ∷ load (bytes "monitor box { var full = 0 in 0..1; keep true; method put { waituntil (full == 0) { full := 1; } } method get { waituntil (full == 1) { full := 0; } } }") 3 2 9 63
    ∷ load (bytes "monitor box { var full = 0 in 0..1; keep true; method put { waituntil (full == 0) { full := 1; } } method get { waituntil (full == 1) { full := 0; } } }") 4 2 6 42
    ∷ load (bytes "monitor box { var full = 0 in 0..1; keep true; method put { waituntil (full == 0) { full := 1; } } method get { waituntil (full == 1) { full := 0; } } }") 0 16 6 42
    ∷ load (bytes "monitor box { var full = 0 in 0..1; keep true; method put { waituntil (full == 0) { full := 1; } } method get { waituntil (full == 1) { full := 0; } } }") 0 15 3 21
    ∷ load (bytes "monitor m { var x = 0 in 0..1; keep true; method m0 { waituntil (true) { } } method m1 { waituntil (true) { } } method m2 { waituntil (true) { } } }") 0 2 3 21
    ∷ load (bytes "monitor m { var x = 0 in 0..1; keep true; method m0 { waituntil (true) { } } method m1 { waituntil (true) { } } method m2 { waituntil (true) { } } }") 2 3 4 28
    ∷ load (bytes "monitor m { var x = 0 in 0..1; keep true; method m0 { waituntil (true) { } waituntil (true) { } } method m1 { waituntil (true) { } } }") 0 1 3 21
    ∷ load (bytes "monitor box { var full = 0 in 0..1; keep true; method put { waituntil (full == 0) { full := 1; } } method get { waituntil (full == 1) { full := 0; } } }") 2 2 9 63
    ∷ load (bytes "monitor box { var full = 0 in 0..1; keep true; method put { waituntil (full == 0) { full := 1; } } method get { waituntil (full == 1) { full := 0; } } }") 63 2 9 63
    ∷ load (bytes "monitor box { var full = 0 in 0..1; keep true; method put { waituntil (full == 0) { full := 1; } } method get { waituntil (full == 1) { full := 0; } } }") 15 3 6 42
    ∷ load (bytes "monitor box { var full = 0 in 0..1; keep true; method put { waituntil (full == 0) { full := 1; } } method get { waituntil (full == 1) { full := 0; } } }") 36 3 6 42
    ∷ load (bytes "monitor box { var full = 0 in 0..1; keep true; method put { waituntil (full == 0) { full := 1; } } method get { waituntil (full == 1) { full := 0; } } }") 301 3 6 42
    ∷ load (bytes "monitor m { var x = 0 in 0..1; keep true; method m0 { waituntil (x == 1) { x := 0; } } method m1 { waituntil (x == 1) { x := 0; } } method m2 { waituntil (x == 0) { x := 1; } } }") 537 3 4 28
    ∷ load (bytes "monitor m { var x = 0 in 0..1; var y = 0 in 0..1; keep true; method m0 { waituntil (x == 1) { x := 0; } } method m1 { waituntil (y == 1) { y := 0; } } method m2 { waituntil (true) { x := 1; y := 1; } } }") 290 3 5 35
    ∷ load (bytes "monitor m { var x = 0 in 0..1; var y = 0 in 0..1; keep true; method m0 { waituntil (x == 1) { x := 0; } } method m1 { waituntil (y == 1) { y := 0; } } method m2 { waituntil (true) { x := 1; y := 1; } } }") 7724 3 4 28
    ∷ load (bytes "monitor m { var x = 0 in 0..1; keep true; method m0 { waituntil (true) { } waituntil (true) { } } method m1 { waituntil (true) { } } }") 4 1 6 42
    ∷ load (bytes "monitor m { var x = 0 in 0..1; keep true; method m0 { waituntil (true) { } waituntil (true) { } } method m1 { waituntil (true) { } } }") 2 1 6 42
    ∷ load (bytes "monitor m { var x = 0 in 0..1; keep true; method m0 { waituntil (true) { } waituntil (true) { } } method m1 { waituntil (true) { } } }") 4 1 1 7
    ∷ load (bytes "monitor m { var x = 0 in 0..1; keep true; method m0 { waituntil (true) { } waituntil (x == 1) { x := 0; } } method m1 { waituntil (x == 0) { x := 1; } } }") 0 2 9 63
    ∷ load (bytes "monitor m { var x = 0 in 0..1; keep true; method m0 { waituntil (x == 0) { x := 1; } waituntil (x == 1) { x := 0; } } }") 77 1 5 35
    ∷ load (bytes "monitor m { var x = 0 in 0..1; keep true; method m0 { waituntil (x == 1) { x := 0; } waituntil (x == 1) { x := 0; } } method m1 { waituntil (x == 0) { x := 1; } } }") 20 2 5 35
    ∷ load (bytes "monitor m { var x = 0 in 0..1; keep true; method m0 { waituntil (x == 1) { x := 0; } } }") 0 3 5 35
    ∷ load (bytes "monitor m { var x = 0 in 0..1; keep true; method m0 { waituntil (x == 1) { x := 0; } } }") 0 3 3 21
    ∷ load (bytes "monitor m { var x = 0 in 0..1; keep true; method m0 { waituntil (x == 1) { x := 0; } } }") 0 3 2 14
    ∷ load (bytes "monitor m { var x = 0 in 0..1; keep true; method m0 { waituntil (true) { } } }") 0 1 4 28
    ∷ load (bytes "monitor m { var x = 0 in 0..1; keep true; method m0 { waituntil (x == 0) { x := 1; } } }") 2 2 9 63
    ∷ load (bytes "monitor box { var full = 1 in 0..1; keep true; method put { waituntil (full == 0) { full := 1; } } method get { waituntil (full == 1) { full := 0; } } }") 0 1 5 35
    ∷ load (bytes "monitor box { var full = 1 in 0..1; keep true; method put { waituntil (full == 0) { full := 1; } } method get { waituntil (full == 1) { full := 0; } } }") 2 1 2 14
    ∷ load (bytes "monitor m { var x = 1 in -1..2; keep x < 2; try x != 0; try x < 3; method m0 { waituntil (x > -1) { x := x - 1; } } method m1 { waituntil (x mod 2 == 1) { x := 1; } } }") 0 1 5 35
    ∷ load (bytes "monitor box { var full = 0 in 0..1; keep true; method put { waituntil (full == 0) { full := 1; } } method get { waituntil (full == 1) { full := 0; } } }") 0 0 3 21
    ∷ load (bytes "monitor box { var full = 0 in 0..1; keep true; method put { waituntil (full == 0) { full := 1; } } method get { waituntil (full == 1) { full := 0; } } }") 0 17 3 21
    ∷ load (bytes "monitor box { var full = 0 in 0..1; keep true; method put { waituntil (full == 0) { full := 1; } } method get { waituntil (full == 1) { full := 0; } } }") 0 257 3 21
    ∷ load (bytes "monitor box { var full = 0 in 0..1; keep true; method put { waituntil (full == 0) { full := 1; } } method get { waituntil (full == 1) { full := 0; } } }") 0 65537 3 21
    ∷ load (bytes "monitor box { var full = 0 in 0..1; keep true; method put { waituntil (full == 0) { full := 1; } } method get { waituntil (full == 1) { full := 0; } } }") 0 4294967297 3 21
    ∷ load (bytes "monitor box { var full = 0 in 0..1; keep true; method put { waituntil (full == 0) { full := 1; } } method get { waituntil (full == 1) { full := 0; } } }") 0 8589934594 3 21
    ∷ load (bytes "monitor box { var full = 0 in 0..1; keep true; method put { waituntil (full == 0) { full := 1; } } method get { waituntil (full == 1) { full := 0; } } }") 0 18446744073709551615 3 21
    ∷ load (bytes "monitor box { var full = 0 in 0..1; keep true; method put { waituntil (full == 0) { full := 1; } } method get { waituntil (full == 1) { full := 0; } } }") 0 0 0 0
    ∷ load (bytes "monitor box { var full = 0 in 0..1; keep true; method put { waituntil (full == 0) { full := 1; } } method get { waituntil (full == 1) { full := 0; } } }") 0 17 3 20
    ∷ load ([]) 0 0 1 7
    ∷ load ([]) 0 16 1 6
    ∷ load (bytes "monitor m") 0 1 1 7
    ∷ load (bytes "monitor box { var full = 0 in 0..1; keep full == 1; method put { waituntil (full == 0) { full := 1; } } method get { waituntil (full == 1) { full := 0; } } }") 0 1 2 14
    ∷ load (bytes "monitor box { var full = 0 in 0..1; keep true; method put { waituntil (full == 0) { full := 2; } } method get { waituntil (full == 1) { full := 0; } } }") 0 1 2 14
    ∷ load (bytes "monitor box { var full = 0 in 0..1; keep true; method put { waituntil (full == 0) { full := 2; } } method get { waituntil (full == 1) { full := 0; } } }") 0 0 2 14
    ∷ load (bytes "monitor box { var full = 0 in 0..1; keep true; method put { waituntil (full == 0) { full := 2; } } method get { waituntil (full == 1) { full := 0; } } }") 0 1 2 13
    ∷ load (bytes "monitor box { var full = 0 in 0..1; keep true; method put { waituntil (full mod 0 == 0) { full := 1; } } method get { waituntil (full == 1) { full := 0; } } }") 0 2 2 0
    ∷ load (bytes "monitor box { var full = 0 in 0..1; keep true; method put { waituntil (full == 0) { full := 1; } } method get { waituntil (full == 1) { empty := 0; } } }") 0 2 2 14
    ∷ load (bytes "monitor box { var full = 0 in 0..1; keep true; method put { waituntil (full == 0) { full := 1; } } method get { waituntil (full == 1) { full := 0; } } }") 4 1 3 21
    ∷ load (bytes "monitor box { var full = 0 in 0..1; keep true; method put { waituntil (full == 0) { full := 1; } } method get { waituntil (full == 1) { full := 0; } } }") 4 1 3 20
    ∷ load (bytes "monitor box { var full = 0 in 0..1; keep true; method put { waituntil (full == 0) { full := 1; } } method get { waituntil (full == 1) { full := 0; } } }") 4 1 3 18
    ∷ load (bytes "monitor box { var full = 0 in 0..1; keep true; method put { waituntil (full == 0) { full := 1; } } method get { waituntil (full == 1) { full := 0; } } }") 4 1 2 30
    ∷ load (bytes "monitor box { var full = 0 in 0..1; keep true; method put { waituntil (full == 0) { full := 1; } } method get { waituntil (full == 1) { full := 0; } } }") 4 1 1 0
    ∷ load (bytes "monitor box { var full = 0 in 0..1; keep true; method put { waituntil (full == 0) { full := 1; } } method get { waituntil (full == 1) { full := 0; } } }") 4 1 0 0
    ∷ load (bytes "monitor box { var full = 0 in 0..1; keep true; method put { waituntil (full == 0) { full := 1; } } method get { waituntil (full == 1) { full := 0; } } }") 4 1 0 5
    ∷ load (bytes "monitor box { var full = 0 in 0..1; keep true; method put { waituntil (full == 0) { full := 1; } } method get { waituntil (full == 1) { full := 0; } } }") 0 1 20 14
    ∷ load (bytes "monitor box { var full = 0 in 0..1; keep true; method put { waituntil (full == 0) { full := 1; } } method get { waituntil (full == 1) { full := 0; } } }") 0 1 20 139
    ∷ load (bytes "monitor box { var full = 0 in 0..1; keep true; method put { waituntil (full == 0) { full := 1; } } method get { waituntil (full == 1) { full := 0; } } }") 0 1 18446744073709551615 140
    ∷ load (bytes "monitor box { var full = 0 in 0..1; keep true; method put { waituntil (full == 0) { full := 1; } } method get { waituntil (full == 1) { full := 0; } } }") 0 1 18446744073709551615 0
    ∷ load (bytes "monitor box { var full = 0 in 0..1; keep true; method put { waituntil (full == 0) { full := 1; } } method get { waituntil (full == 1) { full := 0; } } }") 0 1 2635249153387078803 14
    ∷ load (bytes "monitor box { var full = 0 in 0..1; keep true; method put { waituntil (full == 0) { full := 1; } } method get { waituntil (full == 1) { full := 0; } } }") 0 1 2635249153387078804 14
    ∷ load (bytes "monitor box { var full = 0 in 0..1; keep true; method put { waituntil (full == 0) { full := 1; } } method get { waituntil (full == 1) { full := 0; } } }") 0 1 2635249153387078802 14
    ∷ load (bytes "monitor box { var full = 0 in 0..1; keep true; method put { waituntil (full == 0) { full := 1; } } method get { waituntil (full == 1) { full := 0; } } }") 0 1 613566757 14
    ∷ load (bytes "monitor box { var full = 0 in 0..1; keep true; method put { waituntil (full == 0) { full := 1; } } method get { waituntil (full == 1) { full := 0; } } }") 0 1 4294967296 140
    ∷ load (bytes "monitor box { var full = 0 in 0..1; keep true; method put { waituntil (full == 0) { full := 1; } } method get { waituntil (full == 1) { full := 0; } } }") 0 1 2305843009213693952 140
    ∷ []

unfoldable told : List (List ℕ)
told =
    (bytes "0000000000\n" ++ (2 ∷ (bytes "000001\n000000\n" ++ replicate 126 165)))
    ∷ (bytes "0000000000\n" ++ (1 ∷ (bytes "000100\n" ++ replicate 133 165)))
    ∷ (bytes "0000000000\n" ++ (3 ∷ (bytes "000001\n000101\n000100\n" ++ replicate 119 165)))
    ∷ (bytes "0000000000\n" ++ (1 ∷ (bytes "000100\n" ++ replicate 133 165)))
    ∷ (bytes "0000000000\n" ++ (2 ∷ (bytes "000001\n000000\n" ++ replicate 126 165)))
    ∷ (bytes "0000000000\n" ++ (1 ∷ (bytes "000100\n" ++ replicate 133 165)))
    ∷ (bytes "0000000000\n" ++ (2 ∷ (bytes "000001\n000101\n" ++ replicate 0 165)))
    ∷ (bytes "0000000000\n" ++ (3 ∷ (bytes "010001\n000000\n010000\n" ++ replicate 42 165)))
    ∷ (bytes "0000000000\n" ++ (2 ∷ (bytes "010100\n000100\n" ++ replicate 49 165)))
    ∷ (bytes "0000000000\n" ++ (6 ∷ (bytes "000001\n000101\n000100\n010001\n000101\n010001\n" ++ replicate 0 165)))
    ∷ (bytes "0000000000\n" ++ (6 ∷ (bytes "070001\n080000\n040000\n020101\n0F0001\n060000\n" ++ replicate 0 165)))
    ∷ (bytes "0000000000\n" ++ (3 ∷ (bytes "0A0001\n080000\n020000\n" ++ replicate 0 165)))
    ∷ (bytes "0000000000\n" ++ (3 ∷ (bytes "000201\n010101\n000201\n" ++ replicate 0 165)))
    ∷ (bytes "0000000000\n" ++ (4 ∷ (bytes "010201\n010001\n020201\n010001\n" ++ replicate 0 165)))
    ∷ (bytes "0000000000\n" ++ (3 ∷ (bytes "000001\n000101\n000001\n" ++ replicate 0 165)))
    ∷ (bytes "0000000000\n" ++ (4 ∷ (bytes "000100\n010001\n010101\n010100\n" ++ replicate 35 165)))
    ∷ (bytes "0000000000\n" ++ (4 ∷ (bytes "010100\n000001\n000101\n000100\n" ++ replicate 35 165)))
    ∷ (bytes "0000000000\n" ++ (6 ∷ (bytes "020100\n000100\n010001\n020101\n010100\n020001\n" ++ replicate 0 165)))
    ∷ (bytes "0000000000\n" ++ (6 ∷ (bytes "020100\n000100\n010001\n020101\n020001\n000101\n" ++ replicate 0 165)))
    ∷ (bytes "0000000000\n" ++ (6 ∷ (bytes "010100\n000100\n020001\n010101\n010001\n010000\n" ++ replicate 0 165)))
    ∷ (bytes "0000000000\n" ++ (4 ∷ (bytes "010100\n000000\n020201\n010101\n" ++ replicate 0 165)))
    ∷ (bytes "0000000000\n" ++ (5 ∷ (bytes "010000\n000100\n020201\n000101\n010001\n" ++ replicate 0 165)))
    ∷ (bytes "0000000000\n" ++ (4 ∷ (bytes "010000\n000100\n020201\n000101\n" ++ replicate 0 165)))
    ∷ (bytes "0000000000\n" ++ (6 ∷ (bytes "000001\n000101\n000201\n000001\n000101\n000001\n" ++ replicate 0 165)))
    ∷ (bytes "0000000000\n" ++ (6 ∷ (bytes "000201\n000001\n000101\n000201\n000201\n000001\n" ++ replicate 0 165)))
    ∷ (bytes "0000000000\n" ++ (1 ∷ (bytes "000001\n" ++ replicate 0 165)))
    ∷ (bytes "0000000000\n" ++ (4 ∷ (bytes "010001\n010100\n000001\n000100\n" ++ replicate 35 165)))
    ∷ (bytes "0000000000\n" ++ (5 ∷ (bytes "000001\n000101\n000001\n000101\n000001\n" ++ replicate 0 165)))
    ∷ (bytes "0000000000\n" ++ (5 ∷ (bytes "010000\n000201\n010001\n010100\n000201\n" ++ replicate 0 165)))
    ∷ (bytes "0000000000\n" ++ (3 ∷ (bytes "020000\n000000\n010000\n" ++ replicate 14 165)))
    ∷ (bytes "0000000000\n" ++ (3 ∷ (bytes "020000\n000000\n010000\n" ++ replicate 0 165)))
    ∷ (bytes "0000000000\n" ++ (2 ∷ (bytes "020000\n000000\n" ++ replicate 0 165)))
    ∷ (bytes "0000000000\n" ++ (4 ∷ (bytes "000001\n000001\n000001\n000001\n" ++ replicate 0 165)))
    ∷ (bytes "0000000000\n" ++ (3 ∷ (bytes "010001\n000000\n010000\n" ++ replicate 42 165)))
    ∷ (bytes "0000000000\n" ++ (1 ∷ (bytes "000000\n" ++ replicate 28 165)))
    ∷ (bytes "0000000000\n" ++ (2 ∷ (bytes "000101\n000001\n" ++ replicate 0 165)))
    ∷ (bytes "0000000000\n" ++ (3 ∷ (bytes "000001\n000001\n000000\n" ++ replicate 14 165)))
    ∷ (bytes "1000000000\n" ++ (0 ∷ ([] ++ replicate 21 165)))
    ∷ (bytes "1000000000\n" ++ (0 ∷ ([] ++ replicate 21 165)))
    ∷ (bytes "1000000000\n" ++ (0 ∷ ([] ++ replicate 21 165)))
    ∷ (bytes "1000000000\n" ++ (0 ∷ ([] ++ replicate 21 165)))
    ∷ (bytes "1000000000\n" ++ (0 ∷ ([] ++ replicate 21 165)))
    ∷ (bytes "1000000000\n" ++ (0 ∷ ([] ++ replicate 21 165)))
    ∷ (bytes "1000000000\n" ++ (0 ∷ ([] ++ replicate 21 165)))
    ∷ (bytes "1000000000\n" ++ (0 ∷ ([] ++ replicate 0 165)))
    ∷ (bytes "1000000000\n" ++ (0 ∷ ([] ++ replicate 20 165)))
    ∷ (bytes "1000000000\n" ++ (0 ∷ ([] ++ replicate 7 165)))
    ∷ (bytes "0400000000\n" ++ (0 ∷ ([] ++ replicate 6 165)))
    ∷ (bytes "0400090000\n" ++ (0 ∷ ([] ++ replicate 7 165)))
    ∷ (bytes "0800240000\n" ++ (0 ∷ ([] ++ replicate 14 165)))
    ∷ (bytes "0900000000\n" ++ (0 ∷ ([] ++ replicate 14 165)))
    ∷ (bytes "1000000000\n" ++ (0 ∷ ([] ++ replicate 14 165)))
    ∷ (bytes "0900000000\n" ++ (0 ∷ ([] ++ replicate 13 165)))
    ∷ (bytes "0F004C0000\n" ++ (0 ∷ ([] ++ replicate 0 165)))
    ∷ (bytes "0600880000\n" ++ (0 ∷ ([] ++ replicate 14 165)))
    ∷ (bytes "0000000000\n" ++ (3 ∷ (bytes "000001\n000101\n000100\n" ++ replicate 0 165)))
    ∷ (bytes "0A00000000\n" ++ (0 ∷ ([] ++ replicate 20 165)))
    ∷ (bytes "0A00000000\n" ++ (0 ∷ ([] ++ replicate 18 165)))
    ∷ (bytes "0000000000\n" ++ (2 ∷ (bytes "000001\n000101\n" ++ replicate 16 165)))
    ∷ (bytes "0A00000000\n" ++ (0 ∷ ([] ++ replicate 0 165)))
    ∷ (bytes "0000000000\n" ++ (0 ∷ ([] ++ replicate 0 165)))
    ∷ (bytes "0000000000\n" ++ (0 ∷ ([] ++ replicate 5 165)))
    ∷ (bytes "0A00000000\n" ++ (0 ∷ ([] ++ replicate 14 165)))
    ∷ (bytes "0A00000000\n" ++ (0 ∷ ([] ++ replicate 139 165)))
    ∷ (bytes "0A00000000\n" ++ (0 ∷ ([] ++ replicate 140 165)))
    ∷ (bytes "0A00000000\n" ++ (0 ∷ ([] ++ replicate 0 165)))
    ∷ (bytes "0A00000000\n" ++ (0 ∷ ([] ++ replicate 14 165)))
    ∷ (bytes "0A00000000\n" ++ (0 ∷ ([] ++ replicate 14 165)))
    ∷ (bytes "0A00000000\n" ++ (0 ∷ ([] ++ replicate 14 165)))
    ∷ (bytes "0A00000000\n" ++ (0 ∷ ([] ++ replicate 14 165)))
    ∷ (bytes "0A00000000\n" ++ (0 ∷ ([] ++ replicate 140 165)))
    ∷ (bytes "0A00000000\n" ++ (0 ∷ ([] ++ replicate 140 165)))
    ∷ []

same : asked ≡ told
unfolding load asked told printing
same = refl
