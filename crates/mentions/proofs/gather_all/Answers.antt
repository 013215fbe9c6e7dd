-- `mentions::gather_all` meets its contract. The loop's invariant: the sets of the texts below i stand.
use Prim.Native.Nat.{◌<◌}
use native.Mathlib.Omega.{arith}
use mathlib.Core.Path.{refl}
use lib.ListN.{get_or, length-set}
use Rattle.mentions.specs.Gathered.{only_left, Gathers}
use Rattle.logic.proofs.Lists.{stored}
use Rattle.mentions.proofs.gather_all.Goals as goal
use Rattle.mentions.proofs.gather_all.Goals.{then-i-count, else-i-count}

pub loop-i-init : goal.loop-i-init
loop-i-init c = (omega arith, refl, λ u h. absurd (omega arith))

pub loop-i-preserved : goal.loop-i-preserved
loop-i-preserved c =
    let i = c.loop-i in
    let a = c.args in (
      omega arith,
      elim c.if-i-count.branch [
        | then-i-count w ↦ rw w.all-is (simp length-set i.invariant.1)
        | else-i-count w ↦ rw w.all-is i.invariant.1
      ],
      elim c.if-i-count.branch [
        | then-i-count w ↦ rw w.all-is (stored (λ u x. u < a.count
            → Gathers a.kinds.now (only_left a.which) a.values.now a.ends.opener a.ends.closer (get_or a.ats u 0) x)
            i.all i.i w.gather_from.result (omega arith) i.invariant.2 (λ _. rw w.from.ensures at w.gather_from.ensures))
        | else-i-count w ↦ λ u low h. rw w.all-is (i.invariant.2 u (omega (arith, w.if-i-count.false)) h)
      ],
    )

pub returns : goal.returns
returns c i h few = c.loop-i.invariant.2 i (omega arith) h
