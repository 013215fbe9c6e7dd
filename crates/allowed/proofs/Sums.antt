-- Sums and joined lists of what a function gives for 0, 1, ..: one number more at the end; and the regions that begin a
-- method, gathered one after the other.
use Prim.Native.Nat.{ℕ, zero, suc, ◌+◌, ◌≤◌, ◌<◌}
use native.Mathlib.Numerals.{add-one}
use native.Mathlib.Nat.{add-zero, zero-add}
use native.Mathlib.Omega.{arith}
use mathlib.Core.Path.{◌≡◌, refl, sym, ap, ◌∙◌}
use mathlib.Core.Bool.{Bool, true, false, ◌&&◌}
use mathlib.Core.List.{List, [], ◌∷◌, ◌++◌, append_assoc, append-nil}
use lib.Dec.{ltb, eqb}
use lib.ListN.{length, get_or, set, length-append, get_or-append}
use lib.Seq.{get_or-append_seam}
use borrow.Author.Tests.{lt-ltb, le-ltb}
use Rattle.logic.specs.Tests.{bit}
use Rattle.logic.proofs.Bools.{split_eq}
use Rattle.logic.proofs.Lists.{stored}
use Rattle.machine.specs.Monitor.{Monitor}
use Rattle.machine.specs.Held.{HeldPlaces}
use Rattle.machine.specs.Decide.Load.{join_each}
use Rattle.machine.proofs.Offers.{number_if, begun}
use Rattle.allowed.specs.Offered.{sum_each}

pub sum_next : (n : ℕ) (f : ℕ → ℕ) → sum_each (n + 1) f ≡ sum_each n f + f n
unfolding sum_each
sum_next n f = rw add-one

-- Joined lists

join_from : {A : Type 0} (n k : ℕ) (f : ℕ → List A) → join_each (suc n) k f ≡ join_each n k f ++ f (k + n)
unfolding join_each
join_from zero k f = rw (append-nil, add-zero)
join_from (suc n) k f =
    let e : (k + 1) + n ≡ k + suc n = omega arith in
    rw (join_from n (k + 1) f, e, append_assoc)

pub join_suc : {A : Type 0} (n : ℕ) (f : ℕ → List A) → join_each (suc n) 0 f ≡ join_each n 0 f ++ f n
join_suc n f = rw (join_from n 0 f, zero-add)

pub join_next : {A : Type 0} (n : ℕ) (f : ℕ → List A) → join_each (n + 1) 0 f ≡ join_each n 0 f ++ f n
join_next n f = rw (add-one, join_suc n f)

-- what gives nothing from n on, to there
join_cut : {A : Type 0} (n m : ℕ) (f g : ℕ → List A) → n ≤ m → ((j : ℕ) → j < n → f j ≡ g j)
    → ((j : ℕ) → n ≤ j → j < m → f j ≡ []) → join_each m 0 f ≡ join_each n 0 g
unfolding join_each
join_cut n zero f g h e o = let z : n ≡ 0 = omega arith in rw z refl
join_cut n (suc m) f g h e o = split_eq n (suc m)
    (λ q. let rest = join_cut m m f g (omega arith) (λ j l. e j (omega arith)) (λ j k l. absurd (omega arith)) in
    rw (q, join_suc m f, join_suc m g, e m (omega arith), rest))
    (λ q. rw (join_suc m f, o m (omega arith) (omega arith), append-nil)
    (join_cut n m f g (omega arith) e (λ j k l. o j k (omega arith))))

-- The regions that begin a method

-- those below r, by what is held
unfoldable pub begun_by : List ℕ → ℕ → ℕ → List ℕ
begun_by begins regions r = join_each r 0 (λ j. number_if (ltb j regions && eqb (get_or begins j 0) 1) j)

module _ (begins : List ℕ) (regions r : ℕ) where
  pub begun_more : ltb r regions && eqb (get_or begins r 0) 1 ≡ true
      → begun_by begins regions (r + 1) ≡ begun_by begins regions r ++ (r ∷ [])
  unfolding begun_by number_if
  begun_more t = join_next r _ ∙ rw t

  pub begun_same : ltb r regions && eqb (get_or begins r 0) 1 ≡ false
      → begun_by begins regions (r + 1) ≡ begun_by begins regions r
  unfolding begun_by number_if
  begun_same t = join_next r _ ∙ rw (t, append-nil)

-- all of them are the monitor's
pub begun_all : (m : Monitor) (begins goes_on : List ℕ) → m.regions ≤ 16 → HeldPlaces m begins goes_on
    → begun_by begins m.regions 16 ≡ begun m
unfolding begun_by begun number_if bit
begun_all m begins goes_on few held =
    join_cut m.regions 16 _ _ few
    (λ j l. rw (lt-ltb j m.regions l, held.by_begins j l, is_one (m.begins j)))
    (λ j l _. rw (le-ltb j m.regions l))
  where
    is_one : (b : Bool) → eqb (bit b) 1 ≡ b
    is_one true = refl
    is_one false = refl

-- The first so many places of an array hold a list
pub record Holds (xs : List ℕ) (n : ℕ) (l : List ℕ) : Type 0 where
  pub long : n ≡ length l
  pub each : (i : ℕ) → i < length l → get_or xs i 0 ≡ get_or l i 0

pub holds_none : (xs begins : List ℕ) (regions : ℕ) → Holds xs 0 (begun_by begins regions 0)
unfolding begun_by join_each
holds_none xs begins regions = record { long = refl; each = λ i h. absurd (omega arith) }

pub holds_more : (xs l : List ℕ) (n a : ℕ) → n < length xs → Holds xs n l → Holds (set xs n a) (n + 1) (l ++ (a ∷ []))
holds_more xs l n a h s =
    let e = s.long in
    let len = length-append l (a ∷ []) in
    record {
      long = omega arith;
      each = λ i b. stored (λ k x. x ≡ get_or (l ++ (a ∷ [])) k 0) xs n a h
          (λ k low. s.each k (omega arith) ∙ sym (get_or-append l (a ∷ []) 0 k (omega arith)))
          (sym (ap (λ (k : ℕ). get_or (l ++ (a ∷ [])) k 0) e ∙ get_or-append_seam l a [] 0)) i (omega arith);
    }
