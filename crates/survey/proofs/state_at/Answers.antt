-- `survey::state_at` meets its contract, by the verdict of what was loaded.
use mathlib.Core.Path.{sym, ◌∙◌}
use Rattle.logic.proofs.Lists.{long}
use Rattle.survey.proofs.Passed.{state_untold, state_told}
use Rattle.survey.proofs.state_at.Goals as goal

pub returns-then-not-past_8 : goal.returns-then-not-past_8
returns-then-not-past_8 c =
    state_untold (c.load-loaded.ensures.loads (long 4096 0) (long 4096 0) (long 65536 0)) _ _ c.no_state.ensures.0
    (sym c.past_8.ensures ∙ c.if-not-past_8.true) c.no_state.ensures.1

pub returns : goal.returns
returns c =
    state_told (c.load-loaded.ensures.loads (long 4096 0) (long 4096 0) (long 65536 0)) _ _ c.state_of.ensures.verdict
    (sym c.past_8.ensures ∙ c.if-not-past_8.false) c.state_of.ensures.state_is
