-- `lookup::move_by` meets its contract, by its four cases.
use mathlib.Core.Path.{sym, ◌∙◌}
use Rattle.lookup.proofs.Moving.{move_not_kept, move_no_guard, move_faults, move_ends}
use Rattle.lookup.proofs.move_by.Goals as goal

pub returns-then-not-kept : goal.returns-then-not-kept
returns-then-not-kept c = move_not_kept _ _ _ c.if-not-kept.true

pub returns-then-not-has : goal.returns-then-not-has
returns-then-not-has c = move_no_guard _ _ _ (sym (rw c.from.ensures at c.has.ensures) ∙ c.if-not-has.true)

pub returns-then-to-eq-STATE_END : goal.returns-then-to-eq-STATE_END
returns-then-to-eq-STATE_END c =
    move_faults _ _ _ c.if-not-kept.false
    (sym (rw c.from.ensures at c.has.ensures) ∙ c.if-not-has.false) c.if-to-eq-STATE_END.true

pub returns-else-to-eq-STATE_END : goal.returns-else-to-eq-STATE_END
returns-else-to-eq-STATE_END c =
    move_ends _ _ _ c.if-not-kept.false
    (sym (rw c.from.ensures at c.has.ensures) ∙ c.if-not-has.false) c.if-to-eq-STATE_END.false
