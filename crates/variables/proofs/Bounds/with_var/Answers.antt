-- `variables::Bounds::with_var` meets its contract. Where a slot is left the stores are the contract's; elsewhere it asks
-- nothing.
use Rattle.std.proofs.Common.{arith}
use Rattle.variables.proofs.Bounds.with_var.Goals as goal

pub returns-else-at-lt-VARIABLES : goal.returns-else-at-lt-VARIABLES
returns-else-at-lt-VARIABLES c =
    let full = c.if-at-lt-VARIABLES.false in
    record {
      few = omega arith;
      room = omega arith;
      lows = λ h. absurd (omega arith);
      highs = λ h. absurd (omega arith);
      starts = λ h. absurd (omega arith);
      counted = λ h. absurd (omega arith);
      states = λ h. absurd (omega arith);
    }
