-- Slots that a loop fills from the first on: at its start, by one turn, and at its end; and slots that hold what a function
-- gives.
use Prim.Native.Nat.{ℕ, ◌+◌, ◌<◌, ◌≤◌}
use native.Mathlib.Omega.{arith}
use mathlib.Core.Path.{◌≡◌, ◌∙◌}
use mathlib.Core.List.{List}
use lib.ListN.{length, get_or, set, replicate, length-set, length-replicate, get_or-replicate, get_or-eq_default}
use lib.Seq.{get_or-set_same, get_or-set_other}
use lib.Dec.{ltb}
use borrow.Author.Count.{below_more}
use borrow.Author.Tests.{ltb-true, ltb-false}
use Rattle.logic.proofs.Bools.{split}
use Rattle.outline.specs.Slices.{Listed, Slots}

module _ {A : Type 0} (size : ℕ) (empty : A) (allowed : ℕ → A → Type 0) where
  -- the first k of so many slots are filled, and the others are empty
  pub record Filling (found : List A) (k : ℕ) : Type 0 where
    pub whole : length found ≡ size
    pub filled : (j : ℕ) → j < k → allowed j (get_or found j empty)
    pub behind : (j : ℕ) → k ≤ j → get_or found j empty ≡ empty

  pub begins : Filling (replicate size empty) 0
  begins =
      record {
        whole = length-replicate size empty;
        filled = λ j h. absurd (omega arith);
        behind = λ j h. split (ltb j size) (λ t. get_or-replicate size j empty empty (ltb-true j size t))
            (λ t. get_or-eq_default (replicate size empty) empty
            (omega (arith, length-replicate size empty, ltb-false j size t)));
      }

  pub turn : (found : List A) (k : ℕ) (a : A) → Filling found k → k < size → allowed k a
      → Filling (set found k a) (k + 1)
  turn found k a h p e =
      record {
        whole = length-set found k a ∙ h.whole;
        filled = below_more (λ j. allowed j (get_or (set found k a) j empty)) k
            (λ j b. rw (get_or-set_other found k j a empty (λ z. omega arith)) (h.filled j b))
            (rw (get_or-set_same found k a empty (omega (arith, h.whole))) e);
        behind = λ j b. get_or-set_other found k j a empty (λ z. omega arith) ∙ h.behind j (omega arith);
      }

  -- all slots are filled, or as many as are to be
  pub ends : (found : List A) (n k : ℕ) → Filling found k → k ≤ n → ((j : ℕ) → j < size → j < n → j < k)
      → Slots size n empty allowed found
  ends found n k h few all =
      record {
        whole = h.whole;
        filled = λ j p q. h.filled j (all j p q);
        behind = λ j p. h.behind j (omega arith);
      }

-- what is allowed in a slot is what a function gives
pub listed : {A : Type 0} {size n : ℕ} {empty : A} {allowed : ℕ → A → Type 0} {found : List A} (f : ℕ → A)
    → Slots size n empty allowed found
    → ((k : ℕ) (a : A) → k < size → allowed k a → a ≡ f k) → Listed size n empty f found
listed f slots is =
    record {
      whole = slots.whole;
      filled = λ k p q. is k _ p (slots.filled k p q);
      behind = slots.behind;
    }
