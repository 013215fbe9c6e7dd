-- `sixteen::remainder` meets its contract: the difference of what is left of both sides, with the divisor added where that is
-- below 0.
use Prim.Native.Nat.{◌-◌}
use native.Mathlib.Omega.{arith}
use native.Mathlib.Nat.{mod-lt}
use mathlib.Core.Path.{sym, ◌∙◌}
use Rattle.sixteen.proofs.Division.{mod_most, rest_left, rest_over, remainder_some, remainder_none}
use Rattle.sixteen.proofs.remainder.Goals as goal

pub returns-then-down-up : goal.returns-then-down-up
returns-then-down-up c = rest_left _ _ _ (omega arith) c.if-down-up.true ∙ sym (remainder_some _ _ _ _ c.if-less-by.true)

pub overflow_add-result : goal.overflow_add-result
overflow_add-result c =
    let args = c.args in
    let most = mod-lt args.minus {m = args.by - args.less} (omega arith) in
    omega arith

pub returns-then-less-by : goal.returns-then-less-by
returns-then-less-by c = rest_over _ _ _ (omega arith) (omega arith) ∙ sym (remainder_some _ _ _ _ c.if-less-by.true)

pub returns : goal.returns
returns c = sym (remainder_none _ _ _ _ c.if-less-by.false)

pub overflow_sub-result-then-less-by : goal.overflow_sub-result-then-less-by
overflow_sub-result-then-less-by = λ c. mod_most _ (omega arith)
