-- `evaluator::holds` meets its contract: too many tokens and a place past them are none of a file's, and else it is the
-- condition read there.
use native.Mathlib.Omega.{arith}
use mathlib.Core.Path.{sym, ◌∙◌, ap}
use mathlib.Core.List.{◌++◌}
use Rattle.syntax.specs.Tree.{spell_cond}
use Rattle.meaning.specs.Value.{truth}
use Rattle.evaluator.specs.Coding.{EndsCond}
use Rattle.evaluator.proofs.Lacking.{is_true_lem}
use Rattle.evaluator.proofs.Places.{same_length, not_past}
use Rattle.evaluator.proofs.Readings.{condition_ends}
use Rattle.evaluator.proofs.holds.Goals as goal

pub returns-then-kinds-gt-FILE_BYTES : goal.returns-then-kinds-gt-FILE_BYTES
returns-then-kinds-gt-FILE_BYTES c = λ vs as' ls us t j l codes biased e ends short. absurd (omega (arith, same_length codes, c.if-kinds-gt-FILE_BYTES.true))

pub returns-then-kinds-at : goal.returns-then-kinds-at
unfolding EndsCond
returns-then-kinds-at c = λ vs as' ls us t j l codes biased e ends short.
    let here = not_past ls (spell_cond t) ends.0 ends.1 c.args.at
    (e ∙ ap (λ z. spell_cond t ++ z) ends.2) in
    absurd (omega (arith, same_length codes, here, c.if-kinds-at.true))

pub returns : goal.returns
unfolding truth
returns c = λ vs as' ls us t j l codes biased e ends short.
    let value = (c.eval_cond-cond.ensures.reads j l vs as' ls us t codes biased e (condition_ends us ends)).0 in
    rw (c.minus.ensures j, c.mask.ensures j l, value) (sym (is_true_lem _ _))
