-- `calls::points_loaded` meets its contract: the file's refusal, 10, 11 or 12 with nothing written, or the points over the
-- slices that hold the file's monitor.
use native.Mathlib.Omega.{arith}
use mathlib.Core.Path.{refl, sym, ◌∙◌}
use Rattle.meaning.specs.Model.{model}
use Rattle.demands.proofs.Demand2.{checked}
use Rattle.trace.proofs.FramesAt.{frames_end}
use Rattle.run.proofs.Records.{admitted, ok_of}
use Rattle.calls.specs.Results.{EntriesOf}
use Rattle.calls.proofs.Loaded.{is_accepted, monitor_of}
use Rattle.calls.proofs.Pointed.{no_monitor, too_short, long_enough, refused_early, listed}
use Rattle.calls.proofs.points_loaded.Goals as goal

pub returns-in-Err : goal.returns-in-Err
returns-in-Err c file loads =
    let n = c.no_points.ensures in
    let (same, other) = c.in-Err.ensures in
    no_monitor file _ _ _ _ _ loads.verdict other (n.0 ∙ same) (n.1 ∙ same) n.2

pub returns-then-out-bytes : goal.returns-then-out-bytes
returns-then-out-bytes c file loads =
    let d = c in
    let n = c.no_points-then-out-bytes.ensures in
    let (m, e) = monitor_of file _ loads.verdict (is_accepted _ _ c.verdict.ensures c.in_default.not-Err) in
    too_short file _ _ _ _ m e d.if-out-bytes.true _ c.from.ensures n.0 n.1
    n.2

pub returns-in-Err-admit : goal.returns-in-Err-admit
returns-in-Err-admit c file loads =
    let n = c.no_points-in-Err-admit.ensures in
    let (m, e) = monitor_of file _ loads.verdict (is_accepted _ _ c.verdict.ensures c.in_default.not-Err) in
    let l = loads.monitored m e in
    long_enough file _ _ _ _ m e c.if-out-bytes.false _
    (refused_early file _ _ _ _ m (c.admit.ensures.admits m _ _ _ l.bounded l.held) c.in-Err-admit.refusal c.in-Err-admit.is
    _ c.from-in-Err-admit.ensures n.0 n.1 n.2)

pub returns : goal.returns
unfolding EntriesOf model
returns c file loads =
    let w = c in
    let f = w in
    let t = f in
    let x = t in
    let d = x in
    let (m, e) = monitor_of file _ loads.verdict (is_accepted _ _ c.verdict.ensures c.in_default.not-Err) in
    let l = loads.monitored m e in
    let a = admitted (x.admit.ensures.admits m _ _ _ l.bounded l.held) (ok_of _ c.in_default-admit.not-Err) in
    let whole = (frames_end a.2).whole in
    let low = d.if-out-bytes.false in
    let laid = c.slices_of-slices.ensures.laid in
    let swept = c.slices_of-slices.ensures.swept in
    long_enough file _ _ _ _ m e low _
    (listed file _ _ _ _ m a.1 a.0 a.2 w.write_points-written.result _
    (w.write_points-written.ensures m c.args.rows.now.kept a.0
    (record {
      asked = record {
        count = sym (laid.3 ∙ l.region_count);
        held = rw (swept.0, swept.1, laid.0) l.held;
        places = rw (laid.1, laid.2) l.held_places;
        table = rw swept.2 (f.entries_of-entries.ensures file loads m e);
        checked = checked file m e;
        start = a.1;
        read = a.2;
      };
      bounded = l.bounded;
      guard_count = l.guard_count;
      room = omega arith;
    }))
    c.answer_of.ensures c.answer_of-2.ensures refl)

pub overflow_cast-start : goal.overflow_cast-start
overflow_cast-start = λ c. let low = c.admit.ensures.start_lt_most_states (ok_of _ c.in_default-admit.not-Err) in
    record { fits = omega arith }
