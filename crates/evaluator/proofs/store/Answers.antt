-- `evaluator::store` meets its contract: the two tests are those of the range of the slot's variable, and a slot
-- without a variable has an empty range.
use Prim.Native.Nat.{◌+◌}
use lib.ListN.{get_or-replicate}
use borrow.Author.Tests.{lt-ltb}
use Rattle.evaluator.specs.Promises.{operand}
use Rattle.evaluator.proofs.Slots.{in_slot, past_slots}
use Rattle.evaluator.proofs.store.Goals as goal

pub returns-then-slot-lt-VARIABLES : goal.returns-then-slot-lt-VARIABLES
unfolding operand
returns-then-slot-lt-VARIABLES c =
    let slot = c.if-slot-lt-VARIABLES.true in
    let high = c.from-then-slot-lt-VARIABLES in
    in_slot slot c.put.ensures.0
    (λ j l. rw (
      c.other-ok.ensures j l,
      c.both.ensures j l,
      c.union-out.ensures j l,
      c.below.ensures j l,
      c.below-then-slot-lt-VARIABLES.ensures j l,
      get_or-replicate 16 j (c.from.result + 1073741696) 0 l,
      get_or-replicate 16 j (high.result + 1073741696) 0 l,
      c.from.ensures,
      high.ensures,
    ))
    (λ j l. rw (c.put.ensures.1 j l, c.merged.ensures j l, c.operands-old.ensures.is j l, lt-ltb _ _ slot))

pub returns : goal.returns
returns c = past_slots c.if-slot-lt-VARIABLES.false c.requires.vars_len c.other.ensures
