-- `names::Names::declared` adds a name at the end, or none.
use native.Mathlib.Omega.{arith}
use Rattle.logic.proofs.Bools.{clash}
use borrow.Author.Rules.{rules}
use Rattle.names.proofs.Naming.{one_more}
use Rattle.names.proofs.Names.declared.Goals as goal

pub returns-then-not-adds : goal.returns-then-not-adds
returns-then-not-adds c file titles t = ((λ e. t), λ x e room s. clash e c.if-not-adds.true)

pub returns-then-at-ge-METHODS : goal.returns-then-at-ge-METHODS
returns-then-at-ge-METHODS c file titles t = ((λ e. t), λ x e room s. absurd (omega (arith, t.counted)))

-- src/lib.rt:198:1
pub returns : goal.returns
returns c file titles t = (
  (λ e. clash c.if-not-adds.false e),
  λ x e room s. one_more x _ t room (search rules) s,
)
