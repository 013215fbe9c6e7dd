-- `evaluator::compare_plain` meets its contract: two expressions with a mark between, neither of which has a `mod`.
use Rattle.sets.proofs.SetLaws.{member_none}
use Rattle.evaluator.proofs.Readings.{compare_reads}
use Rattle.evaluator.proofs.compare_plain.Goals as goal

pub returns-clause-truth : goal.returns-clause-truth
returns-clause-truth c =
    compare_reads c.in_ok-one.ensures.plain c.kind_at.ensures c.after.ensures c.in_ok-two.ensures.plain
    c.compare.ensures (λ u. rw (member_none u))
