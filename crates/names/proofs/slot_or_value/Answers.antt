-- `names::slot_or_value` answers `slot_or_value`, by the kind.
use mathlib.Core.Path.{sym, ◌∙◌}
use Rattle.syntax.proofs.ByKind.{is_name_lem}
use Rattle.names.specs.Slots.{slot_or_value}
use Rattle.names.proofs.Naming.{value_other}
use Rattle.names.proofs.slot_or_value.Goals as goal

pub returns-then-kind-eq-NAME : goal.returns-then-kind-eq-NAME
unfolding slot_or_value
returns-then-kind-eq-NAME c titles l t k v s =
    let n = is_name_lem l (sym k ∙ c.if-kind-eq-NAME.true) in
    rw n.1 (c.slot_of.ensures.slot titles n.0 t (s n.0 n.1))

pub returns : goal.returns
returns c titles l t k v s = v ∙ sym (value_other titles l (λ e. c.if-kind-eq-NAME.false (k ∙ e)))
