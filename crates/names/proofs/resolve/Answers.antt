-- `names::resolve` fills the operands: at each turn they are those of the tokens passed, and behind them as they came.
use native.Mathlib.Omega.{arith}
use mathlib.Core.Path.{refl, sym, ◌∙◌}
use lib.ListN.{length-set}
use Rattle.passes.proofs.ByIndex.{kinds_long, values_long, places_long}
use Rattle.names.proofs.Listing.{resolved_next, resolved_last}
use Rattle.names.proofs.resolve.Goals as goal

pub returns-then-values-kinds : goal.returns-then-values-kinds
returns-then-values-kinds c ts h n long = absurd (c.if-values-kinds.true (values_long h))

pub returns-then-places-kinds : goal.returns-then-places-kinds
returns-then-places-kinds c ts h n long = absurd (c.if-places-kinds.true (places_long h))

pub returns-then-operands-kinds : goal.returns-then-operands-kinds
returns-then-operands-kinds c ts h n long = absurd (c.if-operands-kinds.true (long ∙ sym (kinds_long h)))

pub loop-i-preserved : goal.loop-i-preserved
loop-i-preserved c = (
  simp length-set (omega arith),
  λ ts h n long.
      resolved_next h _ _ long _ (omega arith) (c.loop-i.invariant.1 ts h n long)
      (c.variables-vars.ensures _ ts h n) c.slot_or_value.ensures,
)

pub returns : goal.returns
returns c ts h n long =
    resolved_last h _ _ long c.loop-i.i (omega arith) (c.loop-i.invariant.1 ts h n long)

pub loop-i-init : goal.loop-i-init
loop-i-init = λ c. (refl, λ ts h n long. refl)
