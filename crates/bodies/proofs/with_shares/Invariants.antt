use Prim.Native.Nat.{◌+◌, ◌*◌}
use mathlib.Core.Path.{◌≡◌}
use lib.ListN.{get_or}
use Rattle.meaning.specs.SixteenBits.{wrapped, share}
use Rattle.sixteen.proofs.Fill.{Filled}
use Rattle.bodies.proofs.with_shares.Given as goal

abbrev pub invariant-loop-j : goal.invariant-loop-j
invariant-loop-j l =
    Filled 0 (λ i x. x ≡ wrapped (get_or l.sums i 0 + share wrapped (get_or l.lanes (l.k * 16 + i) 0) l.low l.weight)) l.more l.j
