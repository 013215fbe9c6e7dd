-- `threads::put` meets its contract: a list with one element replaced.
use native.Mathlib.Omega.{arith}
use Rattle.threads.proofs.Replaced.{puts_set}
use Rattle.threads.proofs.put.Goals as goal

pub returns : goal.returns
returns c = puts_set _ _ _ _ (omega arith)
