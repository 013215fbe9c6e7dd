-- `names::wrong` answers `wrongly`: the kind tells a name, and the kind before it which names it is looked for among.
use mathlib.Core.Path.{sym, ap, ◌∙◌}
use mathlib.Core.Bool.{not}
use borrow.Author.Tests.{ne_eqb}
use Rattle.syntax.specs.Token.{key, k_var, k_method, k_monitor}
use Rattle.syntax.specs.Decide.Lexeme.{keyword_number}
use Rattle.syntax.specs.Held.Kind.{kind_of}
use Rattle.syntax.proofs.ByKind.{is_name_lem}
use Rattle.names.specs.Slots.{wrong_by}
use Rattle.names.proofs.Naming.{wrong_other, wrong_name}
use Rattle.names.proofs.wrong.Goals as goal

pub returns-then-kind-ne-NAME : goal.returns-then-kind-ne-NAME
returns-then-kind-ne-NAME c vs ms l last t u k b s = sym (wrong_other last l vs ms (λ e. c.if-kind-ne-NAME.true (k ∙ e)))

pub returns-then-before-eq-KEY_METHOD : goal.returns-then-before-eq-KEY_METHOD
unfolding wrong_by kind_of keyword_number
returns-then-before-eq-KEY_METHOD c vs ms l last t u k b s =
    let n = is_name_lem l (sym k ∙ c.if-kind-ne-NAME.false) in
    rw (n.1, wrong_name last vs ms n.0, ← b, c.if-before-eq-KEY_METHOD.true)
    (c.has.ensures ms n.0 u (s n.0 n.1))

pub returns-then-before-eq-KEY_MONITOR : goal.returns-then-before-eq-KEY_MONITOR
unfolding wrong_by kind_of keyword_number
returns-then-before-eq-KEY_MONITOR c vs ms l last t u k b s =
    let n = is_name_lem l (sym k ∙ c.if-kind-ne-NAME.false) in
    rw (n.1, wrong_name last vs ms n.0, ← b, c.if-before-eq-KEY_MONITOR.true)

pub returns-then-before-eq-KEY_VAR : goal.returns-then-before-eq-KEY_VAR
unfolding wrong_by kind_of keyword_number
returns-then-before-eq-KEY_VAR c vs ms l last t u k b s =
    let n = is_name_lem l (sym k ∙ c.if-kind-ne-NAME.false) in
    rw (n.1, wrong_name last vs ms n.0, ← b, c.if-before-eq-KEY_VAR.true)
    (c.has-known.ensures vs n.0 t (s n.0 n.1))

pub returns : goal.returns
unfolding wrong_by kind_of keyword_number
returns c vs ms l last t u k b s =
    let n = is_name_lem l (sym k ∙ c.if-kind-ne-NAME.false) in
    rw (
      n.1,
      wrong_name last vs ms n.0,
      ← b,
      ne_eqb _ (kind_of (key k_var)) c.if-before-eq-KEY_VAR.false,
      ne_eqb _ (kind_of (key k_method)) c.if-before-eq-KEY_METHOD.false,
      ne_eqb _ (kind_of (key k_monitor)) c.if-before-eq-KEY_MONITOR.false,
    )
    (ap not (c.has-known.ensures vs n.0 t (s n.0 n.1)))
