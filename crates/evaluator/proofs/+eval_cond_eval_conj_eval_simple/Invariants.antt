use Rattle.std.proofs.Common.{◌-◌, ◌+◌, ◌*◌, length, ◌&&◌, ◌||◌}
use Rattle.syntax.specs.Tree.{spell_conj, spell_cond}
use Rattle.meaning.specs.Value.{conj_value, cond_value}
use Rattle.evaluator.specs.Promises.{EndsConj, EndsWhole}
use Rattle.evaluator.proofs.Readings.{Linked}
use Rattle.evaluator.proofs.+eval_cond_eval_conj_eval_simple.Given as goal

abbrev pub decreases-eval_cond : goal.decreases-eval_cond
decreases-eval_cond l = 3 * (length l.text.now.kinds.now - l.at) + 2

abbrev pub decreases-eval_conj : goal.decreases-eval_conj
decreases-eval_conj l = 3 * (length l.text.now.kinds.now - l.at) + 1

abbrev pub decreases-eval_simple : goal.decreases-eval_simple
decreases-eval_simple l = 3 * (length l.text.now.kinds.now - l.at)

abbrev pub invariant-eval_cond-loop-holds : goal.invariant-eval_cond-loop-holds
invariant-eval_cond-loop-holds l =
    Linked spell_cond EndsWhole cond_value ◌||◌ l.text.kinds.now l.text.values.now l.vars l.at l.holds l.lacks l.place

abbrev pub decreases-eval_cond-loop-holds : goal.decreases-eval_cond-loop-holds
decreases-eval_cond-loop-holds l = length l.text.kinds.now - l.place

abbrev pub invariant-eval_conj-loop-holds : goal.invariant-eval_conj-loop-holds
invariant-eval_conj-loop-holds l =
    Linked spell_conj EndsConj conj_value ◌&&◌ l.text.kinds.now l.text.values.now l.vars l.at l.holds l.lacks l.place

abbrev pub decreases-eval_conj-loop-holds : goal.decreases-eval_conj-loop-holds
decreases-eval_conj-loop-holds l = length l.text.kinds.now - l.place
