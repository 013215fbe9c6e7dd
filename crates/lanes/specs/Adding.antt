-- What the functions that add to values in lanes promise to each other: what is added to a variable, a sum brought back
-- into its range with its carry, and the row of a variable's sixteen values.
use Rattle.std.specs.Prelude.{ℕ, ◌+◌, ◌-◌, ◌*◌, ◌%◌, ◌≤◌, ◌<◌, ◌≡◌, Bool, false, List, length, get_or}
use Rattle.lanes.specs.declared.Part.{Part}

-- what is added to a variable of a size, and what to those before it
pub record Share (rest size : ℕ) (r : Part) : Type 0 where
  pub whole : rest ≡ r.rest * size + r.here
  pub small : r.here < size
  pub here_less : r.here ≤ rest
  pub rest_less : r.rest ≤ rest

-- a sum past the highest value has the size taken away, and carries one over
pub record Settled (sum high size r : ℕ) : Type 0 where
  pub within : sum ≤ high → r ≡ sum
  pub past : high < sum → r ≡ sum - size

pub record Carried (sum high r : ℕ) : Type 0 where
  pub within : sum ≤ high → r ≡ 0
  pub past : high < sum → r ≡ 1

-- what a row may be raised by, so that no sum is too large
pub record Ready (lanes : List ℕ) (at : ℕ) (carry : List ℕ) (add high size : ℕ) : Type 0 where
  pub long : at + 16 ≤ length lanes
  pub carries : length carry ≡ 16
  pub carry_small : (j : ℕ) → j < 16 → get_or carry j 0 ≤ 1
  pub add_small : add ≤ 16
  pub size_small : size ≤ high + 1

-- what is summed in lane j
abbrev pub sum_at : List ℕ → ℕ → List ℕ → ℕ → ℕ → ℕ
sum_at lanes at carry add j = get_or lanes (at + j) 0 % 4096 + add + get_or carry j 0

-- the sixteen values at a place are raised, with their carries, and all else is as it was
pub record Raised (at add high size : ℕ) (lanes carry lanes' carry' : List ℕ) (any : Bool) : Type 0 where
  pub values : (j : ℕ) → j < 16 → Settled (sum_at lanes at carry add j) high size (get_or lanes' (at + j) 0)
  pub carries : (j : ℕ) → j < 16 → Carried (sum_at lanes at carry add j) high (get_or carry' j 0)
  pub others : (n : ℕ) → ((j : ℕ) → j < 16 → n ≡ at + j → ⊥) → get_or lanes' n 0 ≡ get_or lanes n 0
  pub none : any ≡ false → (j : ℕ) → j < 16 → get_or carry' j 0 ≡ 0
