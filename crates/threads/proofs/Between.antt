-- `between`: what is written anew one place after the other.
use Prim.Native.Nat.{ℕ, ◌+◌, ◌≤◌, ◌<◌}
use native.Mathlib.Omega.{arith}
use mathlib.Core.Path.{◌≡◌}
use mathlib.Core.Bool.{false, ◌&&◌}
use lib.Dec.{leb, ltb}
use borrow.Author.Tests.{leb-true, le-leb, lt-ltb, ltb-true}
use Rattle.logic.proofs.Bools.{tests_equal, both, and, is_false, split_eq}
use Rattle.threads.specs.Held.{between}

-- a place that is in the span, and one that is not
pub between_in : (from to place held : ℕ) → from ≤ place → place < to → between from to place held ≡ place
unfolding between
between_in from to place held h k = rw (and (le-leb from place h) (lt-ltb place to k), between)

pub between_out : (from to place held : ℕ) → (from ≤ place → place < to → ⊥) → between from to place held ≡ held
unfolding between
between_out from to place held h =
    let e : leb from place && ltb place to ≡ false =
    is_false (λ b. let x = both (leb from place) (ltb place to) b in
    h (leb-true from place x.0) (ltb-true place to x.1)) in
    rw (e, between)

-- one place more
pub between_next : (from k place held : ℕ) → (place ≡ k → ⊥) → between from (k + 1) place held ≡ between from k place held
unfolding between
between_next from k place held d =
    let e : leb from place && ltb place (k + 1) ≡ leb from place && ltb place k =
    tests_equal (leb from place && ltb place (k + 1)) (leb from place && ltb place k)
    (λ b. let x = both (leb from place) (ltb place (k + 1)) b in
    let l = ltb-true place (k + 1) x.1 in
    and x.0 (split_eq place k (λ q. absurd (d q)) (λ q. lt-ltb place k (omega arith))))
    (λ b. let x = both (leb from place) (ltb place k) b in
    let l = ltb-true place k x.1 in
    and x.0 (lt-ltb place (k + 1) (omega arith))) in
    rw (e, between)
