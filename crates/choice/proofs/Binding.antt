-- Which tests decide whether a state binds, one behind the other; and what a step does to a try's slot.
use Prim.Native.Nat.{ℕ, zero, suc, ◌+◌, ◌*◌, ◌<◌, ◌≤◌}
use native.Mathlib.Omega.{arith}
use mathlib.Core.Path.{◌≡◌, refl, sym, ◌∙◌}
use mathlib.Core.Bool.{Bool, true, false, not, ◌&&◌, and-false}
use mathlib.Core.List.{List}
use lib.ListN.{length, get_or, set, take, drop}
use lib.Seq.{get_or-set_same}
use lib.Dec.{eqb, ltb}
use Rattle.logic.proofs.Bools.{both, is_false, clash, not_true}
use Rattle.sets.specs.Set.{member}
use Rattle.states.proofs.Regions.{part_at}
use Rattle.choice.specs.Slots.{lacks, binds_by, breaks_row, breaks_by, Slot, mark_slot, mark_if, row_slot, rows_slot}

all_four : (a b c d : Bool) → a && b && c && d ≡ true → (a ≡ true) × (b ≡ true) × (c ≡ true) × (d ≡ true)
all_four a b c d h =
    let x = both (a && b && c) d h in
    let y = both (a && b) c x.0 in
    let z = both a b y.0 in
    (z.0, z.1, y.1, x.1)

module _ (keep holds tried : List ℕ) (guard set s to : ℕ) where
  pub binding : binds_by keep holds tried guard set s to ≡ true
      → (not (lacks (get_or tried s 0) set) ≡ true) × (eqb (get_or keep s 0) 1 ≡ true) × (ltb to 4096 ≡ true)
      × (member (get_or holds s 0) guard ≡ true)
  unfolding binds_by
  binding =
      all_four (not (lacks (get_or tried s 0) set)) (eqb (get_or keep s 0) 1) (ltb to 4096) (member (get_or holds s 0) guard)

  pub unbound_set : lacks (get_or tried s 0) set ≡ true → binds_by keep holds tried guard set s to ≡ false
  unbound_set h = is_false (λ b. clash h (not_true (binding b).0))

  pub unbound_keep : eqb (get_or keep s 0) 1 ≡ false → binds_by keep holds tried guard set s to ≡ false
  unbound_keep h = is_false (λ b. clash (binding b).1 h)

  pub unbound_range : ltb to 4096 ≡ false → binds_by keep holds tried guard set s to ≡ false
  unbound_range h = is_false (λ b. clash (binding b).2 h)

  pub bound : lacks (get_or tried s 0) set ≡ false → eqb (get_or keep s 0) 1 ≡ true → ltb to 4096 ≡ true
      → binds_by keep holds tried guard set s to ≡ member (get_or holds s 0) guard
  unfolding binds_by
  bound a b c = rw (a, b, c)

-- Slots

pub set_here : (l : List ℕ) (i u a : ℕ) → u ≡ i → i < length l → get_or (set l i a) u 0 ≡ a
set_here l i u a e h = rw e (get_or-set_same l i a 0 h)

pub same_slot : {a b : Bool} {p q r t s u : ℕ} → a ≡ b → p ≡ q → r ≡ t → s ≡ u
    → ◌≡◌ {A = Slot} (record { stands = a; pass = p; region = r; state = s })
    (record { stands = b; pass = q; region = t; state = u })
same_slot e f g h = cc

pub mark_on : {b : Bool} (p r s : ℕ) (x : Slot) → b ≡ true → mark_if b p r s x ≡ mark_slot p r s
unfolding mark_if
mark_on p r s x e = rw e

pub mark_off : {b : Bool} (p r s : ℕ) (x : Slot) → b ≡ false → mark_if b p r s x ≡ x
unfolding mark_if
mark_off p r s x e = rw e

pub row_none : (f : ℕ → Bool) (p r : ℕ) (x : Slot) → row_slot 0 f p r x ≡ x
unfolding row_slot
row_none f p r x = refl

-- one state more: the try falls where it stands and the test holds, and stays where one of them does not
pub row_next : (n : ℕ) (f : ℕ → Bool) (p r : ℕ) (x y : Slot) (b : Bool) → row_slot n f p r x ≡ y → y.stands && f n ≡ b
    → row_slot (n + 1) f p r x ≡ mark_if b p r n y
unfolding row_slot
row_next n f p r x y b e h = let one : n + 1 ≡ suc n = omega arith in rw one (rw (e, h))

pub next_slot : (n : ℕ) (f : ℕ → Bool) (p r : ℕ) (x y z : Slot) (b : Bool) → y ≡ row_slot n f p r x → y.stands && f n ≡ b
    → z ≡ mark_if b p r n y → z ≡ row_slot (n + 1) f p r x
next_slot n f p r x y z b e h g = g ∙ sym (row_next n f p r x y b (sym e) h)

pub row_same : {n k : ℕ} (f : ℕ → Bool) (p r : ℕ) (x : Slot) → n ≡ k → row_slot n f p r x ≡ row_slot k f p r x
row_same f p r x e = rw e

-- a row by tests that agree
row_alike : (n : ℕ) (f g : ℕ → Bool) (p r : ℕ) (x : Slot) → ((s : ℕ) → s < n → f s ≡ g s)
    → row_slot n f p r x ≡ row_slot n g p r x
unfolding row_slot
row_alike zero f g p r x h = refl
row_alike (suc n) f g p r x h = rw (row_alike n f g p r x (λ s low. h s (omega arith)), h n (omega arith))

pub rows_none : (n : ℕ) (f : ℕ → ℕ → Bool) (p : ℕ) (x : Slot) → rows_slot 0 n f p x ≡ x
unfolding rows_slot
rows_none n f p x = refl

-- one region more, whose row is lent
module _ (after guard_of keep holds tried : List ℕ) (set u k n w p : ℕ) (x y z : Slot) where
  pub rows_next : let f = breaks_by after guard_of keep holds tried set u in
      let g = breaks_row (take w (drop (k * 4096) after)) (get_or guard_of k 0) keep holds tried set u in
      y ≡ rows_slot k n f p x → z ≡ row_slot n g p k y → w ≡ 4096 → n ≤ 4096 → z ≡ rows_slot (k + 1) n f p x
  unfolding breaks_row breaks_by rows_slot
  rows_next e h whole few =
      let f = breaks_by after guard_of keep holds tried set u in
      let g = breaks_row (take w (drop (k * 4096) after)) (get_or guard_of k 0) keep holds tried set u in
      let one : k + 1 ≡ suc k = omega arith in
      rw (one, ← e) (h ∙ row_alike n g (f k) p k y (λ s low. rw (part_at after k w s whole (omega arith))))

pub rows_same : {k j : ℕ} (n : ℕ) (f : ℕ → ℕ → Bool) (p : ℕ) (x : Slot) → k ≡ j → rows_slot k n f p x ≡ rows_slot j n f p x
rows_same n f p x e = rw e

-- what a state that binds breaks: those of the tries that stand and are false behind the body
module _ (row keep holds tried : List ℕ) (guard set u s to : ℕ) (is : to ≡ get_or row s 0) where
  pub broken_bit : (chosen x lost : ℕ) → binds_by keep holds tried guard set s to ≡ true → x ≡ get_or tried to 0
      → member lost u ≡ member chosen u && not (member x u)
      → member chosen u && breaks_row row guard keep holds tried set u s ≡ member lost u
  unfolding breaks_row
  broken_bit chosen x lost h e g = rw (← is, h, ← e) (sym g)

  pub unbroken_bit : (stands : Bool) → binds_by keep holds tried guard set s to ≡ false
      → stands && breaks_row row guard keep holds tried set u s ≡ false
  unfolding breaks_row
  unbroken_bit stands h = rw (← is, h) (and-false stands)
