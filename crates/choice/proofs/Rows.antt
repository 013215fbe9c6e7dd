-- What a pass makes of a try's slot: one that does not stand stays, one that nothing breaks stays, and one that something
-- breaks is marked with the lowest region and then the lowest state.
use Prim.Native.Nat.{ℕ, zero, suc, ◌<◌}
use native.Mathlib.Omega.{arith}
use mathlib.Core.Path.{◌≡◌, refl, sym, ap, ◌∙◌}
use mathlib.Core.Bool.{Bool, true, false, ◌&&◌, and-false}
use Rattle.logic.proofs.Bools.{and, split_eq}
use Rattle.choice.specs.Slots.{Slot, mark_slot, mark_if, row_slot, rows_slot}

off_stays : (p : ℕ) (y : Slot) (n : ℕ) (f : ℕ → Bool) (r : ℕ) → y.stands ≡ false → row_slot n f p r y ≡ y
unfolding row_slot mark_if
off_stays p y zero f r h = refl
off_stays p y (suc n) f r h = rw (off_stays p y n f r h, h)

module _ (p : ℕ) (x : Slot) where
  -- a state that tests false, and one behind a state that has marked the try
  row_past : (n : ℕ) (f : ℕ → Bool) (r : ℕ) {y : Slot} → row_slot n f p r x ≡ y → y.stands && f n ≡ false
      → row_slot (suc n) f p r x ≡ y
  unfolding row_slot mark_if
  row_past n f r {y} e h = rw (e, h)

  row_marks : (n : ℕ) (f : ℕ → Bool) (r : ℕ) {y : Slot} → row_slot n f p r x ≡ y → y.stands && f n ≡ true
      → row_slot (suc n) f p r x ≡ mark_slot p r n
  unfolding row_slot mark_if
  row_marks n f r {y} e h = rw (e, h)

  row_quiet : (n : ℕ) (f : ℕ → Bool) (r : ℕ) → ((s : ℕ) → s < n → f s ≡ false) → row_slot n f p r x ≡ x
  unfolding row_slot
  row_quiet zero f r h = refl
  row_quiet (suc n) f r h =
      row_past n f r (row_quiet n f r (λ s low. h s (omega arith))) (rw (h n (omega arith)) (and-false x.stands))

  row_first : (n : ℕ) (f : ℕ → Bool) (r s : ℕ) → x.stands ≡ true → s < n → f s ≡ true
      → ((t : ℕ) → t < s → f t ≡ false) → row_slot n f p r x ≡ mark_slot p r s
  row_first zero f r s on low t h = absurd (omega arith)
  row_first (suc n) f r s on low t h =
      split_eq s n
      (λ (e : s ≡ n).
      row_marks n f r (row_quiet n f r (λ u few. h u (omega arith))) (and on (ap f (sym e) ∙ t))
      ∙ ap (λ (z : ℕ). mark_slot p r z) (sym e))
      (λ (e : s ≡ n → ⊥). row_past n f r (row_first n f r s on (omega arith) t h) refl)

  -- All regions

  pub rows_off : (k n : ℕ) (f : ℕ → ℕ → Bool) → x.stands ≡ false → rows_slot k n f p x ≡ x
  unfolding rows_slot
  rows_off zero n f h = refl
  rows_off (suc k) n f h =
      ap (row_slot n (f k) p k) (rows_off k n f h) ∙ off_stays p x n (f k) k h

  pub rows_quiet : (k n : ℕ) (f : ℕ → ℕ → Bool) → ((r s : ℕ) → r < k → s < n → f r s ≡ false) → rows_slot k n f p x ≡ x
  unfolding rows_slot
  rows_quiet zero n f h = refl
  rows_quiet (suc k) n f h =
      ap (row_slot n (f k) p k) (rows_quiet k n f (λ r s low. h r s (omega arith)))
      ∙ row_quiet n (f k) k (λ s low. h k s (omega arith) low)

  pub rows_first : (k n : ℕ) (f : ℕ → ℕ → Bool) (r s : ℕ) → x.stands ≡ true → r < k → s < n → f r s ≡ true
      → ((t : ℕ) → t < s → f r t ≡ false) → ((q t : ℕ) → q < r → t < n → f q t ≡ false)
      → rows_slot k n f p x ≡ mark_slot p r s
  unfolding rows_slot
  rows_first zero n f r s on low few t h g = absurd (omega arith)
  rows_first (suc k) n f r s on low few t h g =
      split_eq r k
      (λ (e : r ≡ k).
      ap (row_slot n (f k) p k) (rows_quiet k n f (λ q u c. g q u (omega arith)))
      ∙ row_first n (f k) k s on few (ap (λ (z : ℕ). f z s) (sym e) ∙ t)
      (λ u c. ap (λ (z : ℕ). f z u) (sym e) ∙ h u c)
      ∙ ap (λ (z : ℕ). mark_slot p z s) (sym e))
      (λ (e : r ≡ k → ⊥).
      ap (row_slot n (f k) p k) (rows_first k n f r s on (omega arith) few t h g) ∙ off_stays p (mark_slot p r s) n (f k) k refl)
