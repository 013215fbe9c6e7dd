-- Slots and variables: a declared name has the slot of a variable of that name, and two names that share one are one.
use Prim.Native.Nat.{ℕ, suc, ◌≤◌, ◌<◌}
use native.Mathlib.Omega.{arith}
use mathlib.Core.Path.{◌≡◌, refl, sym, ap, ◌∙◌}
use mathlib.Core.Bool.{true, false}
use mathlib.Core.Logic.{⊎_elim}
use mathlib.Core.List.Memᴰ
use mathlib.Core.List.{List, [], ◌∷◌, Memᴰ}
use lib.ListN.{length}
use Rattle.logic.proofs.Bools.{split, clash}
use Rattle.syntax.specs.Bytes.{same_bytes}
use Rattle.syntax.specs.Tree.{Var}
use Rattle.syntax.proofs.Lexemes.{decides_same}
use Rattle.evaluator.specs.Coding.{slot_of}

module _ (v : Var) (vs : List Var) (x : List ℕ) where
  slot_here : same_bytes v.title x ≡ true → slot_of (v ∷ vs) x ≡ 0
  unfolding slot_of
  slot_here h = rw (h, slot_of)

  slot_later : same_bytes v.title x ≡ false → slot_of (v ∷ vs) x ≡ suc (slot_of vs x)
  unfolding slot_of
  slot_later h = rw (h, slot_of)

pub slot_most : (vs : List Var) (x : List ℕ) → slot_of vs x ≤ length vs
unfolding slot_of
slot_most [] x = omega arith
slot_most (v ∷ vs) x =
    split (same_bytes v.title x) (λ h. omega (arith, slot_here v vs x h))
    (λ h. omega (arith, slot_later v vs x h, slot_most vs x))

-- the variable of a slot below their count
pub slot_variable : (vs : List Var) (x : List ℕ) → slot_of vs x < length vs
    → (v : Var) × Memᴰ v vs × (v.title ≡ x)
slot_variable [] x low = absurd (omega arith)
slot_variable (v ∷ vs) x low =
    split (same_bytes v.title x) (λ h. (v, Memᴰ.head refl, (decides_same v.title x).0 h))
    (λ h. let t = slot_variable vs x (omega (arith, slot_later v vs x h)) in (t.0, Memᴰ.tail t.1, t.2))

pub slot_declared : (vs : List Var) (v : Var) → Memᴰ v vs → slot_of vs v.title < length vs
slot_declared [] v m = absurd (Memᴰ.not-nil m)
slot_declared (u ∷ vs) v m =
    split (same_bytes u.title v.title) (λ h. omega (arith, slot_here u vs v.title h))
    (λ h. ⊎_elim (λ e. clash ((decides_same u.title v.title).1 (ap (λ (w : Var). w.title) (sym e))) h)
    (λ i. omega (arith, slot_later u vs v.title h, slot_declared vs v i)) (Memᴰ.cases_cons m))

-- names of one variable's slot are one
pub slot_same : (vs : List Var) (x y : List ℕ) → slot_of vs x < length vs → slot_of vs x ≡ slot_of vs y → x ≡ y
slot_same [] x y low e = absurd (omega arith)
slot_same (v ∷ vs) x y low e =
    split (same_bytes v.title x)
    (λ h. let p = slot_here v vs x h in
    split (same_bytes v.title y) (λ k. sym ((decides_same v.title x).0 h) ∙ (decides_same v.title y).0 k)
    (λ k. absurd (omega (arith, slot_later v vs y k))))
    (λ h. let p = slot_later v vs x h in
    split (same_bytes v.title y) (λ k. absurd (omega (arith, slot_here v vs y k)))
    (λ k. let q = slot_later v vs y k in slot_same vs x y (omega arith) (omega arith)))
