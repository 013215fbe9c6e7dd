use Prim.Native.Nat.{◌*◌}
use mathlib.Core.Path.{◌≡◌}
use Rattle.trace.specs.Lined.{counted_of}
use Rattle.trace.proofs.FirstLine.{left_from}
use Rattle.trace.proofs.count.Given as goal

abbrev pub invariant-loop-number : goal.invariant-loop-number
invariant-loop-number l =
    left_from l.trace (l.number * 7) l.number ≡ counted_of l.trace
