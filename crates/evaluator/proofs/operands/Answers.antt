-- `evaluator::operands` meets its contract: of a slot each call gives the value of its lane, and else all lanes have
-- the number.
use native.Mathlib.Omega.{arith}
use mathlib.Core.Path.{sym, ◌∙◌}
use Prim.Native.Nat.{◌+◌, ◌*◌}
use lib.ListN.{get_or, get_or-replicate}
use borrow.Author.Tests.{lt-ltb, le-ltb}
use Rattle.std.proofs.Common.{of_calls}
use Rattle.evaluator.specs.Promises.{operand}
use Rattle.sixteen.proofs.Arrays.{made_each}
use Rattle.evaluator.proofs.Lanes.{lane_at}
use Rattle.evaluator.proofs.operands.Goals as goal

pub returns-then-slot-lt-VARIABLES : goal.returns-then-slot-lt-VARIABLES
unfolding operand
returns-then-slot-lt-VARIABLES c =
    let slot = c.if-slot-lt-VARIABLES.true in
    let held = made_each (λ k. get_or c.args.vars.now (c.args.slot * 16 + k) 0) (λ k y q called. search of_calls) 0 c.from_fn.ensures.items in
    record {
      is = λ j l. rw (lt-ltb _ _ slot) (held j l ∙ sym (lane_at _ j _ slot));
      small = λ h. record { each = λ j l. rw (held j l) (omega (arith, c.fits-vars (c.args.slot * 16 + j))) };
    }

pub returns-else-slot-lt-VARIABLES : goal.returns-else-slot-lt-VARIABLES
unfolding operand
returns-else-slot-lt-VARIABLES c =
    let plus = c.args.plus in
    record {
      is = λ j l. rw (le-ltb _ _ c.if-slot-lt-VARIABLES.false) (get_or-replicate 16 j plus 0 l);
      small = λ h. record { each = λ j l. rw (get_or-replicate 16 j plus 0 l) h };
    }
