-- Places written in a row, one a turn.
use Prim.Native.Nat.{ℕ, ◌+◌, ◌*◌, ◌≤◌, ◌<◌}
use native.Mathlib.Omega.{arith}
use mathlib.Core.Path.{◌≡◌, refl, ◌∙◌}
use mathlib.Core.List.{List}
use lib.ListN.{length, get_or, set, length-set}
use lib.Seq.{get_or-set_same, get_or-set_other}
use lib.Dec.{ltb}
use borrow.Author.Tests.{ltb-true, ltb-false}
use Rattle.logic.proofs.Bools.{split, split_eq}
use Rattle.bodies.specs.Shifts.{unshift, Stretch, PutRows}

module _ {at : ℕ} {Right : ℕ → ℕ → Type 0} where
  pub stretch_none : (xs : List ℕ) → Stretch at Right xs xs 0
  stretch_none xs = record {
    long = refl;
    here = λ j h. absurd (omega arith);
    before = λ i h. refl;
    behind = λ i h. refl;
  }

  pub stretch_more : {old new : List ℕ} {n : ℕ} (v : ℕ) → Stretch at Right old new n → at + n < length new → Right n v
      → Stretch at Right old (set new (at + n) v) (n + 1)
  stretch_more {old} {new} {n} v w room right = record {
    long = length-set new (at + n) v ∙ w.long;
    here = λ j h.
        split_eq j n (λ e. rw (e, get_or-set_same new (at + n) v 0 room) right)
        (λ d. rw (get_or-set_other new (at + n) (at + j) v 0 (λ e. d (omega arith))) (w.here j (omega arith)));
    before = λ i h. get_or-set_other new (at + n) i v 0 (λ e. omega arith) ∙ w.before i h;
    behind = λ i h. get_or-set_other new (at + n) i v 0 (λ e. omega arith) ∙ w.behind i (omega arith);
  }

pub stretch_is : {at to n k : ℕ} {Right : ℕ → ℕ → Type 0} {old new : List ℕ} → Stretch at Right old new n → at ≡ to
    → n ≡ k → Stretch to Right old new k
stretch_is w e f = rw (← e, ← f) w

pub stretch_map : {at n : ℕ} {Right Other : ℕ → ℕ → Type 0} {old new : List ℕ}
    → ((j x : ℕ) → j < n → Right j x → Other j x) → Stretch at Right old new n → Stretch at Other old new n
stretch_map f w = record {
  long = w.long;
  here = λ j h. f j _ h (w.here j h);
  before = w.before;
  behind = w.behind;
}

-- a row of every region, one a turn
pub rows_none : (shifts : List ℕ) (s : ℕ) (xs : List ℕ) → PutRows shifts 0 s xs xs
rows_none shifts s xs = record { here = λ r j h. absurd (omega arith); earlier = λ r t h. refl }

pub rows_more : {shifts old mid new : List ℕ} {s r : ℕ} → s ≤ 4080 → PutRows shifts r s old mid
    → Stretch (r * 4096 + s) (λ j x. x ≡ unshift (s + j) (get_or shifts (r * 16 + j) 0)) mid new 16
    → PutRows shifts (r + 1) s old new
rows_more {s = s} {r = r} few rows row = record {
  here = λ i j h l.
      split_eq i r (λ e. rw e (row.here j l))
      (λ d. row.before (i * 4096 + s + j) (omega arith) ∙ rows.here i j (omega arith) l);
  earlier = λ i t h.
      split (ltb r i) (λ e. row.behind (i * 4096 + t) (omega (arith, ltb-true r i e)) ∙ rows.earlier i t h)
      (λ e. row.before (i * 4096 + t) (omega (arith, ltb-false r i e)) ∙ rows.earlier i t h);
}
