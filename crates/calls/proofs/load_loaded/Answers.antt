-- `calls::load_loaded` meets its contract: the file's refusal or 10 with nothing written, or the frames over the slices that
-- hold the file's monitor.
use native.Mathlib.Omega.{arith}
use mathlib.Core.Path.{sym, ap, ◌∙◌}
use Rattle.meaning.specs.Model.{model}
use Rattle.demands.specs.Load.{CountFits}
use Rattle.demands.proofs.Demand2.{checked}
use Rattle.calls.proofs.Loaded.{is_accepted, monitor_of, start_at}
use Rattle.calls.proofs.Making.{no_monitor, too_short, made, zero_said, start_of_accepted, start_kept}
use Rattle.calls.proofs.load_loaded.Goals as goal

pub returns-in-Err : goal.returns-in-Err
returns-in-Err c file kept loads fits =
    let n = c.not_made.ensures in
    let (same, other) = c.in-Err.ensures in
    no_monitor file _ _ _ _ _ fits _ loads.verdict other (n.0 ∙ same) n.1

pub returns-then-out-wanted : goal.returns-then-out-wanted
returns-then-out-wanted c file kept loads fits =
    let d = c in
    let n = c.not_made-then-out-wanted.ensures in
    let (m, e) = monitor_of file _ loads.verdict (is_accepted _ _ c.verdict.ensures c.in_default.not-Err) in
    too_short file _ _ _ _ _ fits m e d.if-out-wanted.true _ c.from.ensures n.0
    n.1

pub returns : goal.returns
unfolding CountFits model
returns c file kept loads fits =
    let w = c in
    let q = w in
    let d = q in
    let (m, e) = monitor_of file _ loads.verdict (is_accepted _ _ c.verdict.ensures c.in_default.not-Err) in
    let l = loads.monitored m e in
    let state = start_at loads (is_accepted _ _ c.verdict.ensures c.in_default.not-Err) _ q.number_of.ensures.is ∙ start_of_accepted file m e in
    let low = d.if-out-wanted.false in
    let laid = c.slices_of-slices.ensures.laid in
    let swept = c.slices_of-slices.ensures.swept in
    made file _ _ _ _ _ fits m e low (zero_said file _ m e loads.verdict) _ _ state
    (w.make_frames-count.ensures (model m) kept
    (record {
      count = sym (laid.3 ∙ l.region_count);
      held = rw (swept.0, swept.1, laid.0) l.held;
      places = rw (laid.1, laid.2) l.held_places;
      checked = checked file m e;
      start = ap (model m).kept state ∙ start_kept file m e;
      some = fits.0;
      few = fits.1;
      room = omega arith;
    }))
