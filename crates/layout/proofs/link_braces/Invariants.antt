use Prim.Native.Nat.{◌-◌, ◌≤◌}
use lib.ListN.{length}
use Rattle.layout.proofs.Links.{Links}
use Rattle.layout.proofs.link_braces.Given as goal

abbrev pub invariant-loop-i : goal.invariant-loop-i
invariant-loop-i l = Links l.kinds l.initial.operands l.operands l.i × (l.i ≤ length l.kinds)

abbrev pub decreases-loop-i : goal.decreases-loop-i
decreases-loop-i l = length l.kinds - l.i
