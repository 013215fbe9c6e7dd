-- `monitor::points` meets its contract: what `points_loaded` says of what was loaded.
use Rattle.calls.proofs.Pointed.{points_say}
use Rattle.monitor.proofs.points.Goals as goal

pub returns : goal.returns
returns c =
    let a = c.args in
    record {
      points = c.points_loaded.ensures _ (c.load-loaded.ensures.loads);
      points_say = points_say a.file.now a.bytes.now a.start a.out.now;
    }
