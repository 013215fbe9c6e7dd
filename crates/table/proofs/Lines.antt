-- A table's lines: the nine bytes of one, the stores that write it, and how many lines there are.
use Prim.Native.Nat.{ℕ, zero, suc, ◌+◌, ◌*◌, ◌/◌, ◌%◌, ◌<◌, ◌≤◌}
use mathlib.Core.Path.{◌≡◌, refl, sym, ap, ◌∙◌}
use mathlib.Core.Bool.{Bool, true, false, not}
use mathlib.Core.List.{List, [], ◌∷◌}
use native.Mathlib.Nat.{zero-add, mod-eq_of_lt, div-eq_of_lt}
use native.Mathlib.Numerals.{add-one}
use native.Mathlib.Omega.{arith}
use lib.ListN.{length, get_or, take, drop, length-append, length-drop}
use lib.Seq.{get_or-drop}
use lib.Dec.{eqb}
use borrow.Author.Tests.{lt-ltb, le-ltb, eqb-true, eq-eqb}
use Rattle.std.specs.List.{count_by}
use Rattle.std.proofs.lemmas.List.Sums.{count_by_more_no, count_by_more_yes}
use Rattle.logic.proofs.Bools.{split, clash}
use Rattle.machine.specs.Algorithm1.{entry}
use Rattle.meaning.specs.Hex.{hex_digit, hex2, hex_bool}
use Rattle.meaning.specs.Decide.Table.{entry_line, for_each}
use Rattle.table.specs.Slices.{entry_by, line_at, table_at}
use Rattle.digits.specs.Written.{over}
use Rattle.digits.proofs.ForEach.{for_each_more}
use Rattle.table.specs.Written.{placed_of, buffer_of, WritesTable, PutsTable}
use Rattle.std.specs.Prelude.{Result, Ok, Err}
use Rattle.table.specs.declared.TooShort.{TooShort}

-- a line has nine bytes
length_line : (r g : ℕ) (a b : Bool) → length (entry_line r g (entry a b)) ≡ 9
unfolding entry_line hex2 hex_bool
length_line r g true true = refl
length_line r g true false = refl
length_line r g false true = refl
length_line r g false false = refl

no_line : (r g code : ℕ) → code ≡ 0 → entry_line r g (entry_by code) ≡ []
unfolding entry_line entry_by
no_line r g zero e = refl
no_line r g (suc n) e = absurd (omega arith)

line_nine : (r g code : ℕ) → (code ≡ 0 → ⊥) → length (entry_line r g (entry_by code)) ≡ 9
unfolding entry_by
line_nine r g zero h = absurd (h refl)
line_nine r g (suc n) h = length_line r g (eqb (suc n / 2 % 2) 1) (eqb (suc n / 4 % 2) 1)

-- the two digits of a number below 16, and of a Boolean that a bit says
hex2_small : (n : ℕ) → n < 16 → hex2 n ≡ 48 ∷ hex_digit n ∷ []
unfolding hex2 hex_digit
hex2_small n h = rw (div-eq_of_lt h, mod-eq_of_lt h)

hex_bool_bit : (n : ℕ) → n < 2 → hex_bool (eqb n 1) ≡ 48 ∷ (48 + n) ∷ []
unfolding hex_bool hex2 hex_digit
hex_bool_bit zero h = refl
hex_bool_bit (suc zero) h = refl
hex_bool_bit (suc (suc n)) h = absurd (omega arith)

-- the nine bytes of a line, whose digits are d and e
pub line_bytes :
    (r g code d e : ℕ) → r < 16 → g < 16 → 0 < code → d ≡ hex_digit (r % 16) → e ≡ hex_digit (g % 16)
    → 48 ∷ d ∷ 48 ∷ e ∷ 48 ∷ (48 + code / 2 % 2) ∷ 48 ∷ (48 + code / 4 % 2) ∷ 10 ∷ [] ≡ entry_line r g (entry_by code)
unfolding entry_line entry_by
line_bytes r g zero d e hr hg h hd he = absurd (omega arith)
line_bytes r g (suc n) d e hr hg h hd he =
    rw (
      hex2_small r hr,
      hex2_small g hg,
      hex_bool_bit (suc n / 2 % 2) (omega arith),
      hex_bool_bit (suc n / 4 % 2) (omega arith),
      hd,
      he,
      mod-eq_of_lt hr,
      mod-eq_of_lt hg,
    )

-- the line of an entry that is held as 0, and of another
module _ (es : List ℕ) (r g : ℕ) where
  pub line_none : get_or es (r * 16 + g) 0 ≡ 0 → line_at es r g ≡ []
  unfolding line_at
  line_none e = no_line r g (get_or es (r * 16 + g) 0) e

  pub line_some : (get_or es (r * 16 + g) 0 ≡ 0 → ⊥) → length (line_at es r g) ≡ 9
  unfolding line_at
  line_some h = line_nine r g (get_or es (r * 16 + g) 0) h

-- one turn of a loop that counts the lines that a function gives for 0, 1, ..
pub count_more :
    (n l k : ℕ) (f : ℕ → List ℕ) → n * 9 ≡ length (for_each k 0 f) → l * 9 ≡ length (f k)
    → (n + l) * 9 ≡ length (for_each (k + 1) 0 f)
count_more n l k f e here = rw (for_each_more, length-append) (omega arith)

-- the entries that stand, counted
pub count_lines : (es : List ℕ) (r n : ℕ) → r * 16 + n ≤ length es
    → count_by (λ code. not (eqb code 0)) (take n (drop (r * 16) es)) * 9 ≡ length (for_each n 0 (line_at es r))
unfolding for_each
count_lines es r zero h = refl
count_lines es r (suc n) h =
    let codes = drop (r * 16) es in
    let there : n < length codes = omega (arith, length-drop (r * 16) es) in
    let same : get_or codes n 0 ≡ get_or es (r * 16 + n) 0 = get_or-drop (r * 16) es n 0 in
    let before = count_lines es r n (omega arith) in
    let one_more : count_by (λ code. not (eqb code 0)) (take (n + 1) codes) * 9 ≡ length (for_each (n + 1) 0 (line_at es r)) =
    split (eqb (get_or codes n 0) 0)
    (λ e.
    let l = ap length (line_none es r n (sym same ∙ eqb-true _ _ e)) in
    let more = count_by_more_no (λ code. not (eqb code 0)) codes n 0 there (ap not e) in
    let turn = count_more (count_by (λ code. not (eqb code 0)) (take n codes)) 0 n (line_at es r) before (omega arith) in
    omega arith)
    (λ e.
    let l = line_some es r n (λ z. clash (eq-eqb _ _ (same ∙ z)) e) in
    let more = count_by_more_yes (λ code. not (eqb code 0)) codes n 0 there (ap not e) in
    let turn = count_more (count_by (λ code. not (eqb code 0)) (take n codes)) 1 n (line_at es r) before (omega arith) in
    omega arith) in
    rw add-one at one_more

-- what is written where the buffer is too short, and where it is not
pub writes_short : (t b : List ℕ) → length b < length t → WritesTable t b (Err (record {})) b
unfolding placed_of buffer_of
writes_short t b h =
    record {
      answer = rw (lt-ltb (length b) (length t) h, placed_of);
      buffer =
          rw (lt-ltb (length b) (length t) h, buffer_of);
    }

pub writes_long : (t b : List ℕ) (n : ℕ) (a : List ℕ) → length t ≤ length b → n ≡ length t → a ≡ over b 0 t
    → WritesTable t b (Ok n) a
unfolding placed_of buffer_of over
writes_long t b n a h en ea =
    record {
      answer = rw (le-ltb (length b) (length t) h, placed_of, en);
      buffer = rw (le-ltb (length b) (length t) h, buffer_of, ea, zero-add);
    }

-- entries that are written, or not for too many regions or guards
pub put : {entries before after : List ℕ} {regions guards : ℕ} {r : Result ℕ TooShort} → regions ≤ 16 → guards ≤ 16
    → WritesTable (table_at entries regions guards) before r after → PutsTable entries regions guards before r after
put hr hg w = record { written = λ _ _. w; refused = λ large. absurd (large hr hg) }

pub not_put : {entries before : List ℕ} {regions guards : ℕ} → (regions ≤ 16 → guards ≤ 16 → ⊥)
    → PutsTable entries regions guards before (Err (record {})) before
not_put large = record { written = λ hr hg. absurd (large hr hg); refused = λ _. (refl, refl) }
