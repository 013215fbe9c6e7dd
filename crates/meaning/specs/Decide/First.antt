-- Searches: the first number, and the first region and then state, that passes a test.
use Rattle.std.specs.Prelude.{ℕ, zero, suc, ◌+◌, Bool, true, false, List, [], ◌∷◌, ℤ}
use Rattle.std.proofs.Math.Option.{Option, none, some}
use Rattle.syntax.specs.Tree.{Region, Var}
use Rattle.meaning.specs.State.{count, state_at}

-- the first of n numbers from k on that passes a test
unfoldable pub first_from : ℕ → ℕ → (ℕ → Bool) → Option ℕ
first_from zero k p = none
first_from (suc n) k p = elim (p k) [ true ↦ some k | false ↦ first_from n (k + 1) p ]

-- "lowest region, then lowest state"; regions are counted on from k
unfoldable pub first_where : List Var → (Region → List ℤ → Bool) → ℕ → List Region → Option (ℕ × ℕ)
first_where vs p k [] = none
first_where vs p k (r ∷ rs) =
    elim (first_from (count vs) 0 (λ n. p r (state_at vs n))) [ some n ↦ some (k, n) | none ↦ first_where vs p (k + 1) rs ]
