-- Lists of what a function gives, and sets as lists of Booleans: as a number, and how many members.
use Rattle.std.specs.Prelude.{ℕ, zero, suc, ◌+◌, ◌*◌, Bool, true, false, List, [], ◌∷◌}

-- what a function gives for each of n numbers from t on
unfoldable pub each_from : {A : Type 0} → ℕ → ℕ → (ℕ → A) → List A
each_from zero t f = []
each_from (suc n) t f = f t ∷ each_from n (t + 1) f

-- a set as a number, the first the lowest bit (R 5.14, 10.8)
unfoldable pub bits : List Bool → ℕ
bits [] = 0
bits (true ∷ bs) = 1 + 2 * bits bs
bits (false ∷ bs) = 2 * bits bs

-- how many members a set has (R 10.9)
unfoldable pub ones : List Bool → ℕ
ones [] = 0
ones (true ∷ bs) = suc (ones bs)
ones (false ∷ bs) = ones bs
