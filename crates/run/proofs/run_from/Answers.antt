-- `run::run_from` meets its contract: 11 or 12 for both machines, and else of each its refusal or its record.
use native.Mathlib.Omega.{arith}
use mathlib.Core.Path.{◌≡◌, refl, sym, subst}
use mathlib.Core.Bool.{Bool, true, false}
use mathlib.Core.List.{List}
use lib.ListN.{length}
use Rattle.syntax.specs.Tree.{Monitor}
use Rattle.machine.specs.Monitor.{Frame}
use Rattle.machine.specs.Agreement.{Checked}
use Rattle.machine.specs.Held.{Held, HeldPlaces, HeldEntries}
use Rattle.meaning.specs.Model.{vars, regions, kept, model}
use Rattle.meaning.specs.State.{count}
use Rattle.meaning.specs.Decide.Calls.{running_of, run_from}
use Rattle.meaning.specs.Decide.Frames.{frames_of, frames}
use Rattle.variables.specs.Bounded.{Bounded}
use Rattle.stepper.specs.Shown.{of_machine}
use Rattle.stepper.proofs.Machines.{each_machine}
use Rattle.run.specs.Way.{run_of}
use Rattle.run.specs.Ended.{StopsAs, stop_in}
use Rattle.run.specs.Results.{Runs, machine_of}
use Rattle.run.proofs.Records.{refused_early, admitted, ok_of, by_end, stops_as}
use Rattle.run.proofs.run_from.Goals as goal

pub returns-in-Err : goal.returns-in-Err
unfolding of_machine
returns-in-Err c m b n h p t ok w =
    let a = c.args in
    let refused = refused_early (c.admit.ensures.admits m _ _ _ b h) c.in-Err.refusal c.in-Err.is _ c.not_run.ensures in
    each_machine (λ v r. Runs (run_from m (machine_of v) a.start a.bytes.now) r)
    (subst (Runs (run_from m (machine_of false) a.start a.bytes.now)) (sym c.alike.ensures.0) (refused false))
    (subst (Runs (run_from m (machine_of true) a.start a.bytes.now)) (sym c.alike.ensures.1) (refused true)) w

-- the frames, and the end of each machine's run of them
facts : (c : goal.After-running_of-2) →
    let a = c.args in
    (m : Monitor) → Bounded (vars m) a.bounds → a.slices.now.regions ≡ length (regions m)
    → Held (model m) a.kept.now a.slices.now.holds.now a.slices.now.after.now a.slices.now.guard_of.now
    → HeldPlaces (model m) a.slices.now.begins.now a.slices.now.goes_on.now
    → HeldEntries (model m) a.slices.now.entries.now → Checked (model m)
    → (fs : List Frame) × (kept m a.start ≡ true) × (frames_of a.bytes.now ≡ frames fs)
    × ((w : Bool) → StopsAs w (count (vars m)) (stop_in w c.run_trace-ended.result) c.run_trace-ended.result.run
    (run_of (model m) w a.start fs))
unfolding model
facts c m b n h p t ok =
    let a = c.args in
    let f = admitted (c.admit.ensures.admits m _ _ _ b h) (ok_of _ c.in_default.not-Err) in (
      f.0,
      f.1,
      f.2,
      λ w. stops_as m ok w a.start f.1 f.0 c.run_trace-ended.result
          (c.run_trace-ended.ensures (model m) a.kept.now f.0 (record {
            count = sym n;
            held = h;
            places = p;
            table = t;
            checked = ok;
            start = f.1;
            read = f.2;
          }) w),
    )

pub returns : goal.returns
unfolding of_machine
returns c m b n h p t ok w =
    let f = facts c m b n h p t ok in
    let a = c.args in
    by_end m w a.start a.bytes.now _ f.0 f.1 f.2
    (each_machine (λ v r. Runs (running_of m (run_of (model m) v a.start f.0)) r)
    (c.running_of.ensures m false _ b refl (f.3 false))
    (c.running_of-2.ensures m true _ b refl (f.3 true)) w)

pub overflow_cast-start : goal.overflow_cast-start
overflow_cast-start c =
    let low = c.admit.ensures.start_lt_most_states (ok_of _ c.in_default.not-Err) in
    omega arith
