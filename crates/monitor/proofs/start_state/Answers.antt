-- `monitor::start_state` meets its contract: what `start_of` says of what was loaded.
use Rattle.calls.proofs.Same.{starts}
use Rattle.monitor.proofs.start_state.Goals as goal

pub returns : goal.returns
returns c =
    starts _ (c.start_of.ensures _ _ _ _ (c.load-loaded.ensures.loads))
