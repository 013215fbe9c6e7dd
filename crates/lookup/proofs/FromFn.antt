-- What each element of an array is that `array::from_fn` made, where no call changes the closure.
use Prim.Native.Nat.{ℕ, zero, suc, ◌+◌, ◌≤◌, ◌<◌}
use native.Mathlib.Omega.{arith}
use mathlib.Core.Path.{◌≡◌}
use mathlib.Core.List.{List}
use lib.ListN.{get_or}
use lib.Dec.{eqb}
use borrow.Author.Tests.{eqb-true, eqb-false}
use Rattle.logic.proofs.Bools.{split}
use Rattle.std.specs.Fn.{Mut, Called}
use Rattle.std.specs.Array.{IsFromFnResultFrom}

pub each_from : {F B : Type 0} (g : Mut F (ℕ × Unit {0}) B) (f : F) (ys : List B) (d : B) (R : ℕ → B → Type 0)
    → ((x : ℕ) (y : B) (q : F) → Called g f (x, tt) y q → (q ≡ f) × R x y)
    → (i n : ℕ) → IsFromFnResultFrom g f ys i n → (k : ℕ) → i ≤ k → k < i + n → R k (get_or ys k d)
each_from g f ys d R call i zero from k low high = absurd (omega arith)
each_from g f ys d R call i (suc n) (q, y, at, called, rest) k low high =
    let is = call i y q called in
    split (eqb k i) (λ e. let same : k ≡ i = eqb-true k i e in rw (same, at.1 d) is.1)
    (λ e. let other = eqb-false k i e in
    each_from g f ys d R call (i + 1) n (rw is.0 at rest) k (omega arith) (omega arith))
