-- `names::Names::has` answers `member`: a name is there exactly when its slot is below the count.
use Rattle.names.proofs.Naming.{slot_member}
use Rattle.names.proofs.Names.has.Goals as goal

pub returns : goal.returns
returns c titles x t s = rw (c.slot_of.ensures.slot titles x t s, t.counted) (slot_member titles x)
