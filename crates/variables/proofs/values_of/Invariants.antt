use Rattle.std.proofs.Common.{◌≡◌, ℕ, ◌<◌, ◌≤◌, length, get_or}
use Rattle.meaning.specs.SixteenBits.{wrapped, rest_in, value_in}
use Rattle.variables.proofs.values_of.Given as goal

abbrev pub invariant-loop-k : goal.invariant-loop-k
invariant-loop-k l =
    (l.k ≤ 6) × (l.k ≤ l.bounds.count) × (length l.values ≡ 6) × (l.rest ≡ rest_in l.bounds.weights l.state l.k)
    × ((j : ℕ) → j < l.k → get_or l.values j 0 ≡ value_in wrapped l.bounds.lows l.bounds.weights l.state j)
    × ((j : ℕ) → j < 6 → l.k ≤ j → get_or l.values j 0 ≡ 128)
