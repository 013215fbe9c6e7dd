-- Kinds among kinds: which token is the k-th of a kind, and how many there are.
use Rattle.std.specs.Prelude.{ℕ, zero, suc, true, false, List, [], ◌∷◌, eqb}

-- how many are passed before the k-th of a kind, from 0; all, where there are no more of it
unfoldable pub nth_of : ℕ → ℕ → List ℕ → ℕ
nth_of o k [] = 0
nth_of o zero (x ∷ xs) = elim (eqb x o) [ true ↦ 0 | false ↦ suc (nth_of o zero xs) ]
nth_of o (suc k) (x ∷ xs) = elim (eqb x o) [ true ↦ suc (nth_of o k xs) | false ↦ suc (nth_of o (suc k) xs) ]

unfoldable pub count_of : ℕ → List ℕ → ℕ
count_of o [] = 0
count_of o (x ∷ xs) = elim (eqb x o) [ true ↦ suc (count_of o xs) | false ↦ count_of o xs ]
