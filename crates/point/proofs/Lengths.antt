-- How long each part of a point is.
use Prim.Native.Nat.{ℕ, ◌%◌, ◌<◌}
use mathlib.Core.Path.{◌≡◌, refl, sym, ap}
use mathlib.Core.List.{List, [], ◌∷◌}
use native.Mathlib.Nat.{zero-add}
use native.Mathlib.Omega.{arith}
use lib.ListN.{length, get_or, length-append}
use Rattle.syntax.specs.Limits.{most_vars}
use Rattle.meaning.specs.Decide.Table.{for_each}
use Rattle.digits.proofs.ForEach.{for_each_length}
use Rattle.lines.proofs.Writing.{each}
use Rattle.point.specs.Held.{held_set, held_value, held_each, held_shared, held_notices, held_table, held_point}

-- bytes one by one are the bytes
pub each_byte : (bytes : List ℕ) → for_each (length bytes) 0 (held_each bytes) ≡ bytes
unfolding held_each
each_byte bytes = each (λ b. b ∷ []) (λ l. l) refl (λ b l. refl) 0 bytes 0 (held_each bytes) (λ j h. rw zero-add)

pub each_value : (values bytes : List ℕ) → ((k : ℕ) → k < length bytes → get_or bytes k 0 ≡ get_or values k 0 % 256)
    → for_each (length bytes) 0 (held_value values) ≡ bytes
unfolding held_value
each_value values bytes e =
    each (λ b. b ∷ []) (λ l. l) refl (λ b l. refl) 0 bytes 0 (held_value values)
    (λ j h. rw zero-add (ap (λ (b : ℕ). b ∷ []) (sym (e j h))))

pub values_length : (values : List ℕ) → length (for_each most_vars 0 (held_value values)) ≡ 6
unfolding held_value
values_length values = for_each_length 1 6 0 (held_value values) (λ j. refl)

pub places_length : (bytes : List ℕ) → length (for_each 16 0 (held_each bytes)) ≡ 16
unfolding held_each
places_length bytes = for_each_length 1 16 0 (held_each bytes) (λ j. refl)

pub shared_length : (values bytes : List ℕ) (guards : ℕ) → length (held_shared values bytes guards) ≡ 24
unfolding held_shared held_set
shared_length values bytes guards =
    let v = values_length values in
    let p = places_length bytes in
    rw (length-append, length-append) (omega arith)

pub point_length : (values bytes : List ℕ) (guards plain told there table woken : ℕ) (turns : List ℕ)
    → length (held_point values bytes guards plain told there table woken turns) ≡ 49
unfolding held_point held_notices held_table held_set
point_length values bytes guards plain told there table woken turns =
    let s = shared_length values bytes guards in
    let t = places_length turns in
    rw (length-append, length-append) (omega arith)
