-- `monitor::run_both_from_start` meets its contract: what `both_loaded` says of what was loaded, at the start state.
use Rattle.monitor.proofs.run_both_from_start.Goals as goal

pub returns : goal.returns
returns c =
    let s = c in
    let loads = s.load-loaded.ensures.loads in
    rw (s.start_of-start.ensures _ _ _ _ loads) at (c.both_loaded.ensures _ loads)
