-- `mentions::touched_all` meets its contract. The loop's invariant: the sets of the regions below q stand.
use native.Mathlib.Omega.{arith}
use mathlib.Core.Path.{refl}
use lib.ListN.{get_or, length-set}
use Rattle.mentions.specs.Gathered.{Touches}
use Rattle.logic.proofs.Lists.{stored}
use Rattle.mentions.proofs.touched_all.Goals as goal

pub loop-q-init : goal.loop-q-init
loop-q-init c = (omega arith, refl, λ u h. absurd (omega arith))

pub loop-q-preserved : goal.loop-q-preserved
loop-q-preserved c =
    let i = c.loop-q in
    let a = c.args in (
      omega arith,
      simp length-set i.invariant.1,
      stored (λ u x. Touches a.guards a.variables a.named (get_or a.assigned u 0) x) i.all i.q
          c.touched_by.result (omega arith) i.invariant.2 c.touched_by.ensures,
    )

pub returns : goal.returns
returns c q h = c.loop-q.invariant.2 q (omega arith)
