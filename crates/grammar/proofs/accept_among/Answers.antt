-- `grammar::accept_among` meets its contract.
use mathlib.Core.Path.{sym}
use mathlib.Core.Logic.{⊎_elim}
use borrow.Author.Tests.{ltb-true, ltb-false}
use Rattle.grammar.proofs.Readers.{none_past, none_below, none_above, some_among}
use Rattle.grammar.proofs.accept_among.Goals as goal

pub returns-in_err-kind : goal.returns-in_err-kind
returns-in_err-kind c = rw c.from_residual.ensures (none_past _ _ _ (ltb-false _ _ (sym c.in_err-kind.ensures.lookup.0)))

pub returns-then-kind-low : goal.returns-then-kind-low
returns-then-kind-low c =
    let k = c.in_ok-kind.ensures.lookup in
    let h = ltb-true _ _ (sym k.0) in
    ⊎_elim (λ below. none_below h k.1 below) (λ above. none_above h k.1 above.1) c.then-kind-low.either

pub returns : goal.returns
returns c =
    let k = c.in_ok-kind.ensures.lookup in
    some_among (ltb-true _ _ (sym k.0)) k.1 c.if-kind-low.false c.if-high-kind.false
