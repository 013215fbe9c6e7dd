-- `mentions::touched_by` meets its contract. The loop's invariant: the set has those of the guards below this one that
-- are touched.
use native.Mathlib.Omega.{arith}
use mathlib.Core.Path.{◌≡◌}
use Rattle.mentions.proofs.Growing.{upto_none, upto_over, upto_more}
use Rattle.mentions.proofs.touched_by.Goals as goal
use Rattle.mentions.proofs.touched_by.Goals.{then-guard-guards, else-guard-guards}

pub loop-guard-init : goal.loop-guard-init
loop-guard-init c = (omega arith, upto_none _)

pub loop-guard-preserved : goal.loop-guard-preserved
loop-guard-preserved c =
    let i = c.loop-guard in
    let is = c.meets.ensures in (
      omega arith,
      elim c.if-guard-guards.branch [
        | then-guard-guards w ↦ rw w.set-is (upto_more i.guard _ i.set i.invariant.1 _ (omega arith) (rw (← is) w.if-guard-guards.true)
            w.with-set.ensures)
        | else-guard-guards w ↦ rw w.set-is (upto_over i.guard _ i.set i.invariant.1 (rw (← is) w.if-guard-guards.false))
      ],
    )

pub returns : goal.returns
returns c =
    let i = c.loop-guard in
    let e : i.guard ≡ 16 = omega arith in
    record { members = rw e at i.invariant.1 }
