use Rattle.std.proofs.Common.{◌-◌, ◌≤◌, length}
use Rattle.variables.proofs.Walk.{Walk}
use Rattle.variables.proofs.read.Given as goal

abbrev pub invariant-loop-v : goal.invariant-loop-v
invariant-loop-v l =
    (l.bounds.states ≤ 4096) × (l.bounds.count ≤ 6) × Walk l.kinds l.values l.at l.bounds l.next

abbrev pub decreases-loop-v : goal.decreases-loop-v
decreases-loop-v l = length l.kinds - l.next
