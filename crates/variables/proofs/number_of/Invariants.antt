use Rattle.std.proofs.Common.{◌≡◌, ◌≤◌}
use Rattle.meaning.specs.SixteenBits.{wrapped, number_in}
use Rattle.variables.proofs.number_of.Given as goal

abbrev pub invariant-loop-k : goal.invariant-loop-k
invariant-loop-k l =
    (l.k ≤ 6) × (l.k ≤ l.bounds.count) × (l.number ≡ number_in wrapped l.bounds.lows l.bounds.weights l.values l.k)
