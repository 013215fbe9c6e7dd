-- `sixteen::mask` meets its contract: each turn adds its lane to the set where it is true.
use native.Mathlib.Omega.{arith}
use borrow.Author.Tests.{lt-ltb}
use Rattle.sixteen.proofs.Fill.{gather_none, gather_true, gather_false}
use Rattle.sixteen.proofs.mask.Goals as goal
use Rattle.sixteen.proofs.mask.Goals.{then-lanes-j, else-lanes-j}

pub loop-j-init : goal.loop-j-init
loop-j-init c = gather_none _

pub loop-j-preserved : goal.loop-j-preserved
loop-j-preserved c =
    let inv = c.loop-j.invariant in
    let here = c.loop-j-test.true in
    elim c.if-lanes-j.branch [
      | then-lanes-j w ↦ rw w.set-is (gather_true inv here w.if-lanes-j.true w.with-set.ensures)
      | else-lanes-j w ↦ rw w.set-is (gather_false inv here w.if-lanes-j.false)
    ]

pub returns : goal.returns
returns c = λ j l. rw (c.loop-j.invariant.each j, lt-ltb j c.loop-j.j (omega arith))
