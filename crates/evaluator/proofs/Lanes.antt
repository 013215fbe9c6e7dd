-- The values of one lane, the lane in which an element is stored, and lanes gathered into a set.
use Prim.Native.Nat.{ℕ, zero, suc, ◌+◌, ◌*◌, ◌≤◌, ◌<◌}
use native.Mathlib.Omega.{arith}
use native.Mathlib.Nat.{zero-add}
use mathlib.Core.Path.{◌≡◌, refl, sym, ap, ◌∙◌}
use mathlib.Core.Bool.{Bool, true, false}
use mathlib.Core.List.{List}
use lib.Dec.{eqb}
use lib.ListN.{length, get_or, set, length-set}
use lib.Seq.{get_or-set_same, get_or-set_other, ext_get_or}
use borrow.Author.Tests.{eqb-true, eqb-false}
use Rattle.evaluator.specs.Coding.{lane}

-- The value of a variable in a lane

module _ (xs : List ℕ) (j : ℕ) where
  pub lane_at : (k : ℕ) → k < 6 → get_or (lane xs j) k 0 ≡ get_or xs (k * 16 + j) 0
  unfolding lane
  lane_at zero h = ap (λ (n : ℕ). get_or xs n 0) (sym (zero-add j))
  lane_at (suc zero) h = refl
  lane_at (suc (suc zero)) h = refl
  lane_at (suc (suc (suc zero))) h = refl
  lane_at (suc (suc (suc (suc zero)))) h = refl
  lane_at (suc (suc (suc (suc (suc zero))))) h = refl
  lane_at (suc (suc (suc (suc (suc (suc k)))))) h = absurd (omega arith)

  pub length_lane : length (lane xs j) ≡ 6
  unfolding lane
  length_lane = refl

module _ (xs : List ℕ) (slot j v : ℕ) (long : length xs ≡ 96) (s : slot < 6) (l : j < 16) where
  -- stored in its own lane
  pub lane_stored : lane (set xs (slot * 16 + j) v) j ≡ set (lane xs j) slot v
  lane_stored =
      ext_get_or 0 (lane (set xs (slot * 16 + j) v) j) (set (lane xs j) slot v)
      (length_lane (set xs (slot * 16 + j) v) j ∙ sym (length-set (lane xs j) slot v ∙ length_lane xs j))
      (λ k h. at k (omega (arith, length_lane (set xs (slot * 16 + j) v) j)) (eqb k slot) refl)
    where
      at : (k : ℕ) → k < 6 → (t : Bool) → eqb k slot ≡ t → get_or (lane (set xs (slot * 16 + j) v) j) k 0
          ≡ get_or (set (lane xs j) slot v) k 0
      at k h true t =
          rw (
            eqb-true k slot t,
            lane_at (set xs (slot * 16 + j) v) j slot s,
            get_or-set_same xs (slot * 16 + j) v 0 (omega arith),
          )
          (sym (get_or-set_same (lane xs j) slot v 0 (omega (arith, length_lane xs j))))
      at k h false t =
          lane_at (set xs (slot * 16 + j) v) j k h
          ∙ get_or-set_other xs (slot * 16 + j) (k * 16 + j) v 0 (λ e. eqb-false k slot t (omega arith))
          ∙ sym (lane_at xs j k h)
          ∙ sym (get_or-set_other (lane xs j) slot k v 0 (eqb-false k slot t))

  -- and in no other
  pub lane_kept : (i : ℕ) → i < 16 → (i ≡ j → ⊥) → lane (set xs (slot * 16 + j) v) i ≡ lane xs i
  lane_kept i h other =
      ext_get_or 0 (lane (set xs (slot * 16 + j) v) i) (lane xs i)
      (length_lane (set xs (slot * 16 + j) v) i ∙ sym (length_lane xs i))
      (λ k m. at k (omega (arith, length_lane (set xs (slot * 16 + j) v) i)))
    where
      at : (k : ℕ) → k < 6 → get_or (lane (set xs (slot * 16 + j) v) i) k 0 ≡ get_or (lane xs i) k 0
      at k m =
          lane_at (set xs (slot * 16 + j) v) i k m
          ∙ get_or-set_other xs (slot * 16 + j) (k * 16 + i) v 0 (λ e. other (omega arith))
          ∙ sym (lane_at xs i k m)

-- the lanes before j have a new value in a slot, and the others are as they were
pub record Put (slot : ℕ) (new : ℕ → ℕ) (from xs : List ℕ) (j : ℕ) : Type 0 where
  pub long : length xs ≡ 96
  pub most : j ≤ 16
  pub done : (k : ℕ) → k < j → lane xs k ≡ set (lane from k) slot (new k)
  pub left : (k : ℕ) → k < 16 → j ≤ k → lane xs k ≡ lane from k

module _ {slot : ℕ} {new : ℕ → ℕ} {from : List ℕ} where
  pub put_none : length from ≡ 96 → Put slot new from from 0
  put_none long = record {
    long = long;
    most = omega arith;
    done = λ k h. absurd (omega arith);
    left = λ k h l. refl;
  }

  pub put_more : {xs : List ℕ} {j : ℕ} → Put slot new from xs j → slot < 6 → j < 16
      → Put slot new from (set xs (slot * 16 + j) (new j)) (j + 1)
  put_more {xs} {j} put s l = record {
    long = length-set xs (slot * 16 + j) (new j) ∙ put.long;
    most = omega arith;
    done = λ k h. at k h (eqb k j) refl;
    left = λ k h m. lane_kept xs slot j (new j) put.long s l k h (λ e. omega arith) ∙ put.left k h (omega arith);
  }
    where
      at : (k : ℕ) → k < j + 1 → (t : Bool) → eqb k j ≡ t → lane (set xs (slot * 16 + j) (new j)) k
          ≡ set (lane from k) slot (new k)
      at k h true t =
          rw (eqb-true k j t, lane_stored xs slot j (new j) put.long s l)
          (ap (λ ys. set ys slot (new j)) (put.left j l (omega arith)))
      at k h false t =
          lane_kept xs slot j (new j) put.long s l k (omega arith) (eqb-false k j t)
          ∙ put.done k (omega (arith, eqb-false k j t))
