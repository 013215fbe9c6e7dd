-- `outline::slots` meets its contract. The loop's invariant: the slots passed are filled, and those behind are empty.
use native.Mathlib.Omega.{arith}
use Rattle.outline.proofs.Filling.{begins, turn, ends}
use Rattle.outline.proofs.slots.Goals as goal

pub loop-k-init : goal.loop-k-init
loop-k-init g c = begins _ _ _

pub loop-k-preserved : goal.loop-k-preserved
loop-k-preserved g c = turn _ _ _ _ _ _ c.loop-k.invariant (omega arith) c.item.ensures

pub returns : goal.returns
returns g c = ends _ _ _ _ _ _ c.loop-k.invariant (omega arith) (λ j p q. omega arith)
