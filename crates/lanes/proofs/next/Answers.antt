-- `lanes::next` meets its contract. The loop's invariant: 16 is added from variable k on.
use Prim.Native.Nat.{◌<◌}
use native.Mathlib.Omega.{arith}
use borrow.Author.Count.{falls_down}
use borrow.Author.Tests.{ltb-true}
use mathlib.Core.Bool.{◌||◌}
use lib.Dec.{ltb}
use Rattle.logic.proofs.Bools.{both}
use Rattle.lanes.proofs.Carrying.{carrying_none, ready_next, raised_next, passed_next, carried_all}
use Rattle.lanes.proofs.next.Goals as goal
use Rattle.lanes.proofs.next.Goals.{In-loop-k}

pub loop-k-init : goal.loop-k-init
loop-k-init c = carrying_none _ _ _ (omega arith) c.few-k.ensures.0 c.few-k.ensures.1

positive : (c : In-loop-k) → 0 < c.loop-k.k
positive c =
    ltb-true 0 c.loop-k.k
    (both (ltb 0 c.loop-k.k) (ltb 0 c.loop-k.rest || c.loop-k.any) c.loop-k-test.true).0

pub overflow_sub-k : goal.overflow_sub-k
overflow_sub-k c = positive c

pub raise-any-requires : goal.raise-any-requires
raise-any-requires c =
    rw c.row_at-at.ensures
    (ready_next c.loop-k.invariant (positive (goal.at.raise-any-requires c).In-loop-k) c.size_of-size.ensures
    c.share-part.ensures)

pub loop-k-preserved-then-part-any : goal.loop-k-preserved-then-part-any
loop-k-preserved-then-part-any c =
    let raised = c.raise-any in
    raised_next c.loop-k.invariant (positive (goal.at.loop-k-preserved-then-part-any c).In-loop-k) c.size_of-size.ensures
    c.share-part.ensures raised.auto.lanes raised.auto.carry (rw c.row_at-at.ensures at raised.ensures)
    c.with-changed.ensures

pub loop-k-smaller-then-part-any : goal.loop-k-smaller-then-part-any
loop-k-smaller-then-part-any c =
    falls_down _ (positive (goal.at.loop-k-smaller-then-part-any c).In-loop-k)

pub loop-k-smaller : goal.loop-k-smaller
loop-k-smaller c = falls_down _ (positive (goal.at.loop-k-smaller c).In-loop-k)

pub loop-k-preserved : goal.loop-k-preserved
loop-k-preserved c =
    passed_next c.loop-k.invariant (positive (goal.at.loop-k-preserved c).In-loop-k) c.size_of-size.ensures
    c.share-part.ensures c.if-part-any.false

pub returns : goal.returns
returns c =
    record {
      sixteen = carried_all c.loop-k.invariant c.loop-k-test.false;
      unchanged = c.loop-k.invariant.kept;
    }
