use Rattle.grammar.proofs.+read_block_read_stmt.Given as goal

abbrev pub decreases-read_block : goal.decreases-read_block
decreases-read_block l = l.left

abbrev pub decreases-read_stmt : goal.decreases-read_stmt
decreases-read_stmt l = l.left
