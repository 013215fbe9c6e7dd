-- The remainder of a difference of natural numbers, as it is computed.
use Rattle.std.specs.Prelude.{ℕ, ◌+◌, ◌-◌, ◌%◌, ◌<◌, ◌≡◌, not, cond, List, ltb, get_or}
use Rattle.sets.specs.Set.{member}

-- the remainder of p less m by b, which is above 0
unfoldable pub rest : ℕ → ℕ → ℕ → ℕ
rest p m b = (p + (b - m % b)) % b

-- the remainder of p less m by b less l, and 0 where b is not above l
unfoldable pub remainder_of : ℕ → ℕ → ℕ → ℕ → ℕ
remainder_of p m b l = cond (ltb l b) (rest p m (b - l)) 0

-- the remainder in each lane, and the lanes in which there is none
pub record Rested (p : ℕ → ℕ) (m : ℕ) (b : ℕ → ℕ) (l : ℕ) (lanes : List ℕ) (lacks : ℕ) : Type 0 where
  pub value : (j : ℕ) → j < 16 → get_or lanes j 0 ≡ remainder_of (p j) m (b j) l
  pub none : (j : ℕ) → j < 16 → member lacks j ≡ not (ltb l (b j))
