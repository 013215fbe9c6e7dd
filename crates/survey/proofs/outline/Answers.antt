-- `survey::outline` meets its contract: what `outline_loaded` says of what was loaded.
use Rattle.logic.proofs.Lists.{long}
use Rattle.survey.proofs.outline.Goals as goal

pub returns : goal.returns
returns c =
    c.outline_loaded.ensures _ _ _
    (c.load-loaded.ensures.loads (long 4096 0) (long 4096 0) (long 65536 0))
