-- `sets::both` meets its contract: the members of a meet, digit by digit.
use Rattle.sets.proofs.SetLaws.{member_and}
use Rattle.sets.proofs.both.Goals as goal

pub returns : goal.returns
returns c u = member_and c.args.a c.args.b u
