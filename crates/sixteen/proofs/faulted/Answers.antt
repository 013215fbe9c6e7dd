-- `sixteen::faulted` meets its contract: where nothing lacks, nothing changes.
use Rattle.sixteen.proofs.Fill.{none_lack}
use Rattle.sixteen.proofs.faulted.Goals as goal

pub returns-then-lacks-eq0 : goal.returns-then-lacks-eq0
returns-then-lacks-eq0 c = λ j l. rw c.if-lacks-eq0.true (none_lack c.args.on c.args.ok j)

pub returns : goal.returns
returns c = λ j l. rw (c.unless.ensures j l, c.both.ensures j l, c.spread.ensures j l)
