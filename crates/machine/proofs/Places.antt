-- Places and sets of threads after a change of one thread.
use Prim.Native.Nat.{ℕ}
use mathlib.Core.Path.{◌≡◌, refl}
use mathlib.Core.Bool.{Bool, true, not}
use mathlib.Core.Logic.Iff
use mathlib.Core.Logic.{◌↔◌}
use lib.Dec.{eqb}
use borrow.Author.Tests.{eq-eqb, ne_eqb}
use Rattle.logic.proofs.Bools.{decides_and, decides_not, decides_eqb}
use Rattle.machine.specs.Monitor.{Place}
use Rattle.machine.specs.Decide.Step.{put, without}

pub put_same : (p : ℕ → Place) (t : ℕ) (q : Place) → put p t q t ≡ q
unfolding put
put_same p t q = rw (eq-eqb t t refl, put)

pub put_other : (p : ℕ → Place) (t : ℕ) (q : Place) (u : ℕ) → (u ≡ t → ⊥) → put p t q u ≡ p u
unfolding put
put_other p t q u h = rw (ne_eqb u t h, put)

pub without_iff : (n : ℕ → Bool) (t u : ℕ) → (without n t u ≡ true) ↔ ((u ≡ t → ⊥) × (n u ≡ true))
unfolding without
without_iff n t u = decides_and (not (eqb u t)) (n u) (decides_not (eqb u t) (decides_eqb u t)) Iff.rfl
