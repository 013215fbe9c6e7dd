-- Loops over the sixteen lanes, which store one element a turn or gather the lanes into a set.
use Prim.Native.Nat.{ℕ, ◌+◌, ◌≤◌, ◌<◌}
use native.Mathlib.Omega.{arith}
use mathlib.Core.Path.{◌≡◌, refl, sym, ap, ◌∙◌}
use mathlib.Core.Bool.{Bool, true, false, not, ◌&&◌, ◌||◌, and-false}
use mathlib.Core.List.{List}
use lib.Dec.{eqb, ltb}
use lib.ListN.{length, get_or, set, replicate, length-set, length-replicate}
use lib.Seq.{get_or-set_same, get_or-set_other}
use borrow.Author.Tests.{eqb-true, eqb-false, lt-ltb, le-ltb, ltb-true, ltb-false}
use Rattle.sets.specs.Set.{member}
use Rattle.sets.proofs.SetLaws.{member_none}

-- the lanes before j are stored, and each holds what it has to
pub record Filled {A : Type 0} (d : A) (Right : ℕ → A → Type 0) (xs : List A) (j : ℕ) : Type 0 where
  pub long : length xs ≡ 16
  pub most : j ≤ 16
  pub each : (k : ℕ) → k < j → Right k (get_or xs k d)

module _ {A : Type 0} {d : A} {Right : ℕ → A → Type 0} where
  pub fill_none : (a : A) → Filled d Right (replicate 16 a) 0
  fill_none a = record {
    long = length-replicate 16 a;
    most = omega arith;
    each = λ k h. absurd (omega arith);
  }

  pub fill_more : {xs : List A} {j : ℕ} (v : A) → Filled d Right xs j → j < 16 → Right j v
      → Filled d Right (set xs j v) (j + 1)
  fill_more {xs} {j} v filled h e = record {
    long = length-set xs j v ∙ filled.long;
    most = omega arith;
    each = λ k l. at k l (eqb k j) refl;
  }
    where
      at : (k : ℕ) → k < j + 1 → (t : Bool) → eqb k j ≡ t → Right k (get_or (set xs j v) k d)
      at k l true t = rw (eqb-true k j t, get_or-set_same xs j v d (omega (arith, filled.long))) e
      at k l false t =
          rw (get_or-set_other xs j k v d (eqb-false k j t)) (filled.each k (omega (arith, eqb-false k j t)))

  pub all_filled : {xs : List A} {j : ℕ} → Filled d Right xs j → 16 ≤ j → (k : ℕ) → k < 16 → Right k (get_or xs k d)
  all_filled filled h k l = filled.each k (omega arith)

-- the lanes before j of a list of truths are those of a set
pub record Gathered (lanes : List Bool) (s j : ℕ) : Type 0 where
  pub most : j ≤ 16
  pub each : (k : ℕ) → member s k ≡ ltb k j && get_or lanes k false

pub gather_none : (lanes : List Bool) → Gathered lanes 0 0
gather_none lanes = record {
  most = omega arith;
  each = λ k. rw (member_none k, le-ltb k 0 (omega arith));
}

module _ {lanes : List Bool} {s j : ℕ} (gathered : Gathered lanes s j) (l : j < 16) where
  -- one lane more, which is a member where it is true
  gather : (t : ℕ) (b : Bool) → get_or lanes j false ≡ b → ((k : ℕ) → member t k ≡ (eqb k j && b) || member s k)
      → Gathered lanes t (j + 1)
  gather t b e more = record {
    most = omega arith;
    each = λ k. more k ∙ at k (eqb k j) refl;
  }
    where
      same : (k : ℕ) → (k ≡ j → ⊥) → (x : Bool) → ltb k j ≡ x → ltb k (j + 1) ≡ x
      same k n true h = lt-ltb k (j + 1) (omega (arith, ltb-true k j h))
      same k n false h = le-ltb k (j + 1) (omega (arith, ltb-false k j h))

      here : (x : Bool) → (true && x) || (false && x) ≡ x
      here true = refl
      here false = refl

      at : (k : ℕ) (x : Bool) → eqb k j ≡ x → (x && b) || member s k ≡ ltb k (j + 1) && get_or lanes k false
      at k true h = rw (eqb-true k j h, gathered.each j, le-ltb j j (omega arith), lt-ltb j (j + 1) (omega arith), e)
          (here b)
      at k false h = rw (gathered.each k, same k (eqb-false k j h) (ltb k j) refl)

  pub gather_true : {t : ℕ} → get_or lanes j false ≡ true → ((k : ℕ) → member t k ≡ (eqb k j && ltb j 16) || member s k)
      → Gathered lanes t (j + 1)
  gather_true {t} e more = gather t true e (λ k. more k ∙ ap (λ x. (eqb k j && x) || member s k) (lt-ltb j 16 l))

  pub gather_false : get_or lanes j false ≡ false → Gathered lanes s (j + 1)
  gather_false e = gather s false e (λ k. ap (λ x. x || member s k) (sym (and-false (eqb k j))))

-- where nothing lacks, nothing changes
no_fault : (a b : Bool) → a ≡ a && not (b && false)
no_fault true true = refl
no_fault true false = refl
no_fault false b = refl

pub none_lack : (on ok : List Bool) (j : ℕ) → get_or ok j false ≡ get_or ok j false && not (get_or on j false && member 0 j)
none_lack on ok j = rw (member_none j) (no_fault (get_or ok j false) (get_or on j false))
