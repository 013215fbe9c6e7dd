-- `survey::fates_of` meets its contract, by the verdict of what was loaded: its fields are those of the choice.
use mathlib.Core.Path.{refl, sym, ◌∙◌}
use Rattle.logic.proofs.Lists.{long}
use Rattle.choice.specs.Slots.{slot_of}
use Rattle.survey.proofs.Passed.{fates_untold, fates_told}
use Rattle.survey.proofs.fates_of.Goals as goal

pub returns-then-not-past_8 : goal.returns-then-not-past_8
returns-then-not-past_8 c =
    fates_untold (c.load-loaded.ensures.loads (long 4096 0) (long 4096 0) (long 65536 0)) _ refl
    (sym c.past_8.ensures ∙ c.if-not-past_8.true)
    (record { known = refl; tries = refl; chosen = refl; passes = refl; regions = refl; states = refl })

pub returns : goal.returns
unfolding slot_of
returns c =
    fates_told (c.load-loaded.ensures.loads (long 4096 0) (long 4096 0) (long 65536 0)) _ refl
    (sym c.past_8.ensures ∙ c.if-not-past_8.false) refl refl refl (λ i. refl)
