use Prim.Native.Nat.{◌+◌}
use mathlib.Core.Path.{◌≡◌}
use lib.ListN.{drop}
use Rattle.outline.specs.Found.{nth_of}
use Rattle.outline.proofs.Tokens.nth.Given as goal

abbrev pub invariant-loop-i : goal.invariant-loop-i
invariant-loop-i l =
    l.i + nth_of l.kind l.left (drop l.i l.self.kinds.now) ≡ nth_of l.kind l.k l.self.kinds.now
