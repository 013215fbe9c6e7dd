-- `evaluator::compare_mod` meets its contract: two expressions with a mark between.
use Rattle.evaluator.proofs.Readings.{compare_reads}
use Rattle.evaluator.proofs.compare_mod.Goals as goal

pub returns : goal.returns
returns c =
    compare_reads c.eval_expr-one.ensures c.kind_at-kind.ensures c.after.ensures
    c.eval_expr-two.ensures c.compare.ensures c.union.ensures
