-- `breaking::fails` meets its contract: the mark of a fault, or what is held of the kept condition there.
use Prim.Native.Nat.{ℕ}
use mathlib.Core.Path.{ap}
use mathlib.Core.Bool.{not}
use lib.Dec.{eqb}
use borrow.Author.Tests.{eq-eqb, ne_eqb}
use Rattle.breaking.specs.Broken.{fails_by}
use Rattle.breaking.proofs.fails.Goals as goal

pub returns-then-to-eq-FAULT : goal.returns-then-to-eq-FAULT
unfolding fails_by
returns-then-to-eq-FAULT c = rw (eq-eqb _ 4096 c.if-to-eq-FAULT.true)

pub returns-else-to-eq-FAULT : goal.returns-else-to-eq-FAULT
unfolding fails_by
returns-else-to-eq-FAULT c =
    rw (ne_eqb c.args.to 4096 c.if-to-eq-FAULT.false)
    (ap (λ (n : ℕ). not (eqb n 1)) c.at.ensures)
