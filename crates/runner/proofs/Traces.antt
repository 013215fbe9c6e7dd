-- A trace in two parts: what fills the short buffer, and what is read on behind it.
use Rattle.std.proofs.Common.{ℕ, ◌+◌, ◌≤◌, ◌<◌, ◌≡◌, List, [], ◌++◌, Option, None, Some, sym, ap, ◌∙◌, subst, length, take, drop, min, arith, append_assoc, append-nil, length-take-le, take-append-drop, take_at}
use Rattle.std.proofs.Math.Seq.{paste}
use Rattle.std.proofs.Math.Nat.{eq-or-lt_of_le}
use mathlib.Core.Logic.{inl, inr}
use lib.Seq.{take-take}
use native.Mathlib.Nat.{zero-add}
use Rattle.std.proofs.lemmas.List.{take_all}
use Rattle.std.proofs.lemmas.List.Edits.{take-paste, length-paste}
use Rattle.std.specs.Io.KnownBytes.{Consumes, IsAtEnd}
use Rattle.input.specs.Kept.{Keeps}
use Rattle.output.specs.Printed.{Read}

-- bytes that begin with those of a buffer, of which none are left where it has room for more
pub begun : (front rest buffer : List ℕ) (count : ℕ) → front ≡ take count buffer → count ≤ length buffer
    → (count < length buffer → rest ≡ []) → take (length buffer) (front ++ rest) ≡ take count buffer
begun front rest buffer count same fits ended =
    let long : length front ≡ count = ap length same ∙ length-take-le count buffer fits in
    elim (eq-or-lt_of_le fits) [
      | inl h ↦ take_at front rest (length buffer) (omega arith) ∙ same
      | inr h ↦
          let none : front ++ rest ≡ front = ap (λ l. front ++ l) (ended h) ∙ append-nil front in
          take_all (length buffer) (front ++ rest) (omega (arith, ap length none)) ∙ none ∙ same
    ]

-- the short buffer was full, and the trace's buffer has its bytes and then what was read on
pub two_parts : (a b : Option (List ℕ)) (short zeros mid after behind : List ℕ) (front count : ℕ)
    → mid ≡ paste zeros 0 short front → length short ≡ 4096
    → length zeros ≡ 65536 → front ≡ min (length short) (length zeros) → Keeps front mid count after
    → count ≤ length after → Consumes a b (drop front (take count after)) → (count < length after → IsAtEnd b)
    → a ≡ Some behind → Read (short ++ behind) count after
two_parts None b short zeros mid after behind front count m p q f k fits taken ended e = absurd (cc)
two_parts (Some x) None short zeros mid after behind front count m p q f k fits taken ended e = absurd taken
two_parts (Some x) (Some y) short zeros mid after behind front count m p q f k fits taken ended e =
    let more = drop front (take count after) in
    let size : length mid ≡ 65536 = ap length m ∙ length-paste zeros 0 short front (omega arith) (omega arith) ∙ q in
    let far : front ≤ count = omega (arith, k.counted) in
    let pasted : take (0 + front) (paste zeros 0 short front) ≡ short =
    take-paste zeros 0 short front (omega arith) (omega arith) ∙ take_all front short (omega arith) in
    let start : take front after ≡ short =
    k.first ∙ ap (take front) m ∙ subst (λ n. take n (paste zeros 0 short front) ≡ short) (zero-add front) pasted in
    let parts : short ++ more ≡ take count after =
    ap (λ l. l ++ more) (sym (take-take front count after far ∙ start)) ∙ take-append-drop front (take count after) in
    let same : behind ≡ x = cc in
    let whole : short ++ behind ≡ (short ++ more) ++ y =
    ap (λ l. short ++ l) (same ∙ taken) ∙ sym (append_assoc short more y) in
    record { bytes = ap (take (length after)) whole ∙ begun (short ++ more) y after count parts fits ended }
