use Rattle.grammar.proofs.+read_cond_read_conj_read_simple.Given as goal

abbrev pub decreases-read_cond : goal.decreases-read_cond
decreases-read_cond l = l.left

abbrev pub decreases-read_conj : goal.decreases-read_conj
decreases-read_conj l = l.left

abbrev pub decreases-read_simple : goal.decreases-read_simple
decreases-read_simple l = l.left
