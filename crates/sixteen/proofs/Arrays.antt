-- Arrays made by `from_fn`, of a closure that changes nothing: what one call gives is so of each element.
use Prim.Native.Nat.{ℕ, zero, suc, ◌+◌, ◌≤◌, ◌<◌}
use native.Mathlib.Omega.{arith}
use mathlib.Core.Path.{◌≡◌, refl, subst}
use mathlib.Core.Bool.{Bool, true, false}
use mathlib.Core.List.{List}
use lib.Dec.{eqb}
use lib.ListN.{get_or}
use borrow.Author.Tests.{eqb-true, eqb-false}
use denote.Param.Members.{Mut, Called}
use Rattle.std.specs.Array.{IsFromFnResult, IsFromFnResultFrom}

module _ {F B : Type 0} {g : Mut F (ℕ × Unit {0}) B} {f : F} (right : ℕ → B)
    (turn : (k : ℕ) (y : B) (h : F) → Called g f (k, tt) y h → (y ≡ right k) × (h ≡ f)) (d : B) where
  each_from : (ys : List B) (i n k : ℕ) → IsFromFnResultFrom g f ys i n → i ≤ k → k < i + n → get_or ys k d ≡ right k
  each_from ys i zero k made l h = absurd (omega arith)
  each_from ys i (suc n) k (q, y, at, called, rest) l h =
      go (eqb k i) refl (each_from ys (i + 1) n k (subst (λ r. IsFromFnResultFrom g r ys (i + 1) n) (turn i y q called).1 rest))
    where
      go : (t : Bool) → eqb k i ≡ t → (i + 1 ≤ k → k < i + 1 + n → get_or ys k d ≡ right k) → get_or ys k d ≡ right k
      go true e next = rw (eqb-true k i e, at.1 d) (turn i y q called).0
      go false e next = next (omega (arith, eqb-false k i e)) (omega arith)

  pub made_each : {ys : List B} {n : ℕ} → IsFromFnResult g f ys n → (k : ℕ) → k < n → get_or ys k d ≡ right k
  made_each {ys} {n} made k l = each_from ys 0 n k made.each (omega arith) (omega arith)
