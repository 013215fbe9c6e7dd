-- `replay::sum_of`: the sum stays below 65,521.
use Rattle.std.proofs.Common.{◌<◌}
use Rattle.replay.proofs.sum_of.Given as goal

abbrev pub invariant-loop-byte : goal.invariant-loop-byte
invariant-loop-byte l = l.sum < 65521
