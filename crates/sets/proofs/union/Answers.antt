-- `sets::union` meets its contract: the members of a join, digit by digit.
use Rattle.sets.proofs.SetLaws.{member_or}
use Rattle.sets.proofs.union.Goals as goal

pub returns : goal.returns
returns c u = member_or c.args.a c.args.b u
