-- Raising a row of sixteen values, a lane at a time: the lanes before one are raised, with their carries, and all else
-- is as it was.
use Prim.Native.Nat.{ℕ, ◌+◌, ◌%◌, ◌≤◌, ◌<◌}
use native.Mathlib.Omega.{arith}
use borrow.Author.Count.{below_more}
use borrow.Author.Tests.{ltb-false}
use mathlib.Core.Path.{◌≡◌, refl, ap₂, ◌∙◌}
use mathlib.Core.Bool.{Bool, false, ◌||◌}
use mathlib.Core.List.{List}
use lib.Dec.{ltb}
use lib.ListN.{length, get_or, set, length-set}
use lib.Seq.{get_or-set_same, get_or-set_other}
use Rattle.logic.proofs.Bools.{neither}
use Rattle.lanes.specs.Adding.{Settled, Carried, Ready, sum_at, Raised}

pub record Raising (at add high size : ℕ) (lanes₀ carry₀ lanes carry : List ℕ) (any : Bool) (j : ℕ) : Type 0 where
  pub most : j ≤ 16
  pub long : length lanes ≡ length lanes₀
  pub carries_long : length carry ≡ length carry₀
  pub values : (u : ℕ) → u < j → Settled (sum_at lanes₀ at carry₀ add u) high size (get_or lanes (at + u) 0)
  pub others : (n : ℕ) → ((u : ℕ) → u < j → n ≡ at + u → ⊥) → get_or lanes n 0 ≡ get_or lanes₀ n 0
  pub carries : (u : ℕ) → u < j → Carried (sum_at lanes₀ at carry₀ add u) high (get_or carry u 0)
  pub left : (u : ℕ) → j ≤ u → get_or carry u 0 ≡ get_or carry₀ u 0
  pub none : any ≡ false → (u : ℕ) → u < j → get_or carry u 0 ≡ 0

module _ {at add high size : ℕ} {lanes₀ carry₀ : List ℕ} where
  pub raising_none : Raising at add high size lanes₀ carry₀ lanes₀ carry₀ false 0
  raising_none = record {
    most = omega arith;
    long = refl;
    carries_long = refl;
    values = λ u h. absurd (omega arith);
    others = λ n o. refl;
    carries = λ u h. absurd (omega arith);
    left = λ u h. refl;
    none = λ e u h. absurd (omega arith);
  }

  module _ (ready : Ready lanes₀ at carry₀ add high size) {lanes carry : List ℕ} {any : Bool} {j : ℕ}
      (r : Raising at add high size lanes₀ carry₀ lanes carry any j) (h : j < 16) where
    -- what is summed in the next lane
    pub sum_next : sum_at lanes at carry add j ≡ sum_at lanes₀ at carry₀ add j
    sum_next =
        ap₂ (λ (x y : ℕ). x % 4096 + add + y) (r.others (at + j) (λ u l e. omega arith)) (r.left j (omega arith))

    pub sum_small : sum_at lanes at carry add j ≤ 4112
    sum_small = omega (arith, r.left j (omega arith), ready.carry_small j h)

    pub raising_more : (v c : ℕ) → Settled (sum_at lanes at carry add j) high size v
        → Carried (sum_at lanes at carry add j) high c
        → Raising at add high size lanes₀ carry₀ (set lanes (at + j) v) (set carry j c)
        (any || ltb high (sum_at lanes at carry add j)) (j + 1)
    raising_more v c settled carried =
        let inside : at + j < length lanes = omega arith in
        let inside' : j < length carry = omega arith in
        record {
          most = omega arith;
          long = length-set lanes (at + j) v ∙ r.long;
          carries_long = length-set carry j c ∙ r.carries_long;
          values =
              below_more
              (λ u. Settled (sum_at lanes₀ at carry₀ add u) high size (get_or (set lanes (at + j) v) (at + u) 0)) j
              (λ u l. rw (get_or-set_other lanes (at + j) (at + u) v 0 (λ e. omega arith)) (r.values u l))
              (rw (get_or-set_same lanes (at + j) v 0 inside, ← sum_next) settled);
          others = λ n o.
              get_or-set_other lanes (at + j) n v 0 (λ e. o j (omega arith) e) ∙ r.others n (λ u l. o u (omega arith));
          carries =
              below_more (λ u. Carried (sum_at lanes₀ at carry₀ add u) high (get_or (set carry j c) u 0)) j
              (λ u l. rw (get_or-set_other carry j u c 0 (λ e. omega arith)) (r.carries u l))
              (rw (get_or-set_same carry j c 0 inside', ← sum_next) carried);
          left = λ u l. get_or-set_other carry j u c 0 (λ e. omega arith) ∙ r.left u (omega arith);
          none = λ e.
              let no = neither any (ltb high (sum_at lanes at carry add j)) e in
              below_more (λ u. get_or (set carry j c) u 0 ≡ 0) j
              (λ u l. rw (get_or-set_other carry j u c 0 (λ e. omega arith)) (r.none no.0 u l))
              (rw (get_or-set_same carry j c 0 inside') (carried.within (ltb-false high _ no.1)));
        }

  pub raising_all : {lanes carry : List ℕ} {any : Bool} {j : ℕ}
      → Raising at add high size lanes₀ carry₀ lanes carry any j
      → 16 ≤ j → Raised at add high size lanes₀ carry₀ lanes carry any
  raising_all r h = record {
    values = λ u l. r.values u (omega arith);
    carries = λ u l. r.carries u (omega arith);
    others = λ n o. r.others n (λ u l. o u (omega arith));
    none = λ e u l. r.none e u (omega arith);
  }
