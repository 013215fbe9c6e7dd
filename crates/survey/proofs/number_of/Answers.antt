-- `survey::number_of` meets its contract, by the verdict of what was loaded.
use mathlib.Core.Path.{sym, ◌∙◌}
use Rattle.logic.proofs.Lists.{long}
use Rattle.survey.proofs.Passed.{number_untold, number_told}
use Rattle.survey.proofs.number_of.Goals as goal

pub returns-then-not-past_15 : goal.returns-then-not-past_15
returns-then-not-past_15 c =
    number_untold (c.load-loaded.ensures.loads (long 4096 0) (long 4096 0) (long 65536 0)) _ _ c.no_number.ensures.0
    (sym c.past_15.ensures ∙ c.if-not-past_15.true) c.no_number.ensures.1

pub returns : goal.returns
returns c =
    number_told (c.load-loaded.ensures.loads (long 4096 0) (long 4096 0) (long 65536 0)) _ _ c.number_in.ensures.verdict
    (sym c.past_15.ensures ∙ c.if-not-past_15.false) c.number_in.ensures.number_is
