use Prim.Native.Nat.{ℕ, ◌≤◌, ◌<◌}
use mathlib.Core.Path.{◌≡◌}
use lib.ListN.{get_or}
use Rattle.meaning.specs.SixteenBits.{wrapped, number_in}
use Rattle.evaluator.specs.Coding.{lane}
use Rattle.bodies.proofs.numbers.Given as goal

abbrev pub invariant-loop-k : goal.invariant-loop-k
invariant-loop-k l =
    (l.k ≤ 6) × (l.k ≤ l.bounds.count)
    × ((j : ℕ) → j < 16 → get_or l.sums j 0 ≡ number_in wrapped l.bounds.lows l.bounds.weights (lane l.lanes j) l.k)
