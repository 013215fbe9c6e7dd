-- E3, "the inner number held in sixteen bits": how a state's number is worked out from what is held of its variables,
-- and its values from the number. Of each variable are held the lowest and the highest value and its own value, each
-- with 128 added, and its weight. What is kept of a sum or a product is a parameter, `limit`: sixteen bits of it, or
-- all. A size is at most 256, and differences, quotients and remainders are no larger than what they come from: they
-- need none.
use Rattle.std.specs.Prelude.{ℕ, zero, suc, ◌+◌, ◌-◌, ◌*◌, ◌/◌, ◌%◌, List, get_or}

-- what sixteen bits keep of a number
unfoldable pub wrapped : ℕ → ℕ
wrapped n = n % 65536

-- all of it, as if there were no limit
abbrev pub unlimited : ℕ → ℕ
unlimited n = n

-- the size of a range (R 3.12)
abbrev pub size_in : List ℕ → List ℕ → ℕ → ℕ
size_in lows highs k = get_or highs k 0 - get_or lows k 0 + 1

-- what the sizes of the first k ranges leave of the count of states: at `suc k` the weight of variable k (R 3.15)
unfoldable pub weight_in : List ℕ → List ℕ → ℕ → ℕ → ℕ
weight_in lows highs states zero = states
weight_in lows highs states (suc k) = weight_in lows highs states k / size_in lows highs k

-- what the first k variables leave of a number (R 3.18)
unfoldable pub rest_in : List ℕ → ℕ → ℕ → ℕ
rest_in weights number zero = number
rest_in weights number (suc k) = rest_in weights number k % get_or weights k 0

module _ (limit : ℕ → ℕ) where
  -- the product of the sizes of the first k ranges (R 3.14)
  unfoldable pub count_in : List ℕ → List ℕ → ℕ → ℕ
  count_in lows highs zero = 1
  count_in lows highs (suc k) = limit (count_in lows highs k * size_in lows highs k)

  -- what a value adds to the number: "each value less its lowest", as often as it weighs (R 3.16)
  unfoldable pub share : ℕ → ℕ → ℕ → ℕ
  share value low weight = limit ((value - low) * weight)

  -- the number that the first k variables make (R 3.16)
  unfoldable pub number_in : List ℕ → List ℕ → List ℕ → ℕ → ℕ
  number_in lows weights values zero = 0
  number_in lows weights values (suc k) =
      limit (number_in lows weights values k + share (get_or values k 0) (get_or lows k 0) (get_or weights k 0))

  -- the value of variable k (R 3.18)
  unfoldable pub value_in : List ℕ → List ℕ → ℕ → ℕ → ℕ
  value_in lows weights number k = limit (get_or lows k 0 + rest_in weights number k / get_or weights k 0)
