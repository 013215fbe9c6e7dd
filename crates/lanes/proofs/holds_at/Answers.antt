-- `lanes::holds_at` meets its contract: the condition is evaluated with the values in lane 0.
use native.Mathlib.Omega.{arith}
use mathlib.Core.Path.{◌∙◌}
use Rattle.lanes.proofs.Lane.{lane_is}
use Rattle.lanes.proofs.holds_at.Goals as goal

pub returns : goal.returns
returns c vs as' ls us d codes b e ends few =
    c.has.ensures
    ∙ c.holds.ensures vs as' ls us d 0 (omega arith) codes
    (rw (lane_is _ c.args.vars 0 b.slots
    (λ k l n p. c.put_values.ensures.here k l n (omega arith))) b) e ends few
