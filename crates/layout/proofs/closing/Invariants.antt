use Prim.Native.Nat.{◌+◌, ◌≤◌}
use mathlib.Core.Path.{◌≡◌}
use lib.ListN.{length, drop}
use Rattle.layout.specs.Closing.{close_from}
use Rattle.layout.proofs.closing.Given as goal

abbrev pub invariant-loop-i : goal.invariant-loop-i
invariant-loop-i l =
    (l.i + close_from l.opener l.closer l.depth (drop l.i l.kinds) ≡ l.at + close_from l.opener l.closer 0 (drop l.at l.kinds)) × (l.depth ≤ l.i)
    × (length l.kinds ≤ l.at → l.i ≡ l.at)
