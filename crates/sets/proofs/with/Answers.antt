-- `sets::with` meets its contract: a join with one bit; from thread 16 on nothing changes.
use mathlib.Core.Bool.{and-false}
use borrow.Author.Tests.{le-ltb}
use Rattle.sets.proofs.SetLaws.{member_with}
use Rattle.sets.proofs.with.Goals as goal

pub returns-then-t-lt16 : goal.returns-then-t-lt16
returns-then-t-lt16 c u = member_with c.args.set c.args.t u c.if-t-lt16.true

pub returns-else-t-lt16 : goal.returns-else-t-lt16
returns-else-t-lt16 c u = simp (le-ltb c.args.t 16 c.if-t-lt16.false, and-false)
