use Rattle.std.proofs.Common.{◌≡◌, ℕ, suc, ◌<◌, ◌≤◌, length, get_or}
use Rattle.meaning.specs.SixteenBits.{weight_in}
use Rattle.variables.specs.Promises.{Ordered}
use Rattle.variables.proofs.weights_of.Given as goal

abbrev pub invariant-loop-k : goal.invariant-loop-k
invariant-loop-k l =
    (l.k ≤ l.count) × (l.count ≤ 6) × (length l.weights ≡ 6)
    × (Ordered l.lows l.highs l.count → (l.weight ≡ weight_in l.lows l.highs l.states l.k)
    × ((j : ℕ) → j < l.k → get_or l.weights j 0 ≡ weight_in l.lows l.highs l.states (suc j)))
