use Prim.Native.Nat.{ℕ, ◌≤◌, ◌<◌}
use mathlib.Core.Path.{◌≡◌}
use lib.ListN.{length, get_or}
use Rattle.sets.specs.Set.{member}
use Rattle.truths.proofs.spread.Given as goal

-- one lane's set, where the lane is below j
abbrev pub Done : ℕ → ℕ → ℕ → ℕ → ℕ → Type 0
Done known g before j x =
    (member x g ≡ member known j) × ((u : ℕ) → (u ≡ g → ⊥) → member x u ≡ member before u)

abbrev pub invariant-loop-j : goal.invariant-loop-j
invariant-loop-j l =
    (l.j ≤ 16) × (length l.sets ≡ length l.initial.sets) × ((k : ℕ) → k < l.j → Done l.known l.g (get_or l.initial.sets k 0) k (get_or l.sets k 0))
    × ((k : ℕ) → l.j ≤ k → get_or l.sets k 0 ≡ get_or l.initial.sets k 0)
