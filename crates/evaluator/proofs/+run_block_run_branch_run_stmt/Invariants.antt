use Rattle.std.proofs.Common.{◌-◌, ◌+◌, ◌*◌, length}
use Rattle.evaluator.proofs.Runs.{Begun}
use Rattle.evaluator.proofs.+run_block_run_branch_run_stmt.Given as goal

abbrev pub decreases-run_block : goal.decreases-run_block
decreases-run_block l = 3 * (length l.file.now.text.kinds.now - l.at) + 2

abbrev pub decreases-run_branch : goal.decreases-run_branch
decreases-run_branch l = 3 * (length l.file.now.text.kinds.now - l.brace) + 3

abbrev pub decreases-run_stmt : goal.decreases-run_stmt
decreases-run_stmt l = 3 * (length l.file.now.text.kinds.now - l.at) + 1

abbrev pub invariant-run_block-loop-on : goal.invariant-run_block-loop-on
invariant-run_block-loop-on l =
    Begun l.file.text.kinds.now l.file.text.values.now l.file.lows l.file.highs l.initial.vars l.on l.at l.vars l.ok l.place

abbrev pub decreases-run_block-loop-on : goal.decreases-run_block-loop-on
decreases-run_block-loop-on l = length l.file.text.kinds.now - l.place
