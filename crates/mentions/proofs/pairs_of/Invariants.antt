use Prim.Native.Nat.{◌*◌, ◌≤◌}
use mathlib.Core.Path.{◌≡◌}
use lib.ListN.{get_or}
use Rattle.sets.specs.Set.{size}
use Rattle.meaning.specs.Decide.Touch.{sum_of}
use Rattle.mentions.proofs.pairs_of.Given as goal

abbrev pub invariant-loop-q : goal.invariant-loop-q
invariant-loop-q l =
    (l.pairs ≤ 16 * l.q) × (l.pairs ≡ sum_of l.q (λ k. size (get_or l.touched k 0) 16))
