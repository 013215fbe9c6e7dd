-- How the code holds a queue: in one number, four bits a thread, the earliest lowest.
use Rattle.std.specs.Prelude.{ℕ, zero, suc, ◌+◌, ◌*◌, ◌/◌, ◌%◌, List, [], ◌∷◌}

-- the first n threads of an order
unfoldable pub queue_of : ℕ → ℕ → List ℕ
queue_of order zero = []
queue_of order (suc n) = order % 16 ∷ queue_of (order / 16) n

-- the order behind them
unfoldable pub behind_of : ℕ → ℕ → ℕ
behind_of order zero = order
behind_of order (suc n) = behind_of (order / 16) n

-- the first n, and thread t behind them
unfoldable pub joined_to : ℕ → ℕ → ℕ → ℕ
joined_to order zero t = t
joined_to order (suc n) t = order % 16 + 16 * joined_to (order / 16) n t

-- all but the one at place n
unfoldable pub left_by : ℕ → ℕ → ℕ
left_by order zero = order / 16
left_by order (suc n) = order % 16 + 16 * left_by (order / 16) n
