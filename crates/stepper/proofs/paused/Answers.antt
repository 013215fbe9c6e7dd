-- `stepper::paused` meets its contract: does the thread wait already. On each machine a recheck uses its own notice up.
use Prim.Native.Nat.{ℕ}
use mathlib.Core.Path.{◌≡◌, refl, sym, ◌∙◌, subst}
use mathlib.Core.Bool.{Bool, true, false, not, ◌&&◌}
use lib.Dec.{eqb}
use Rattle.sets.specs.Set.{member}
use Rattle.machine.specs.Monitor.{Monitor, Config}
use Rattle.machine.specs.Decide.Step.{Told, waited, rechecked, without}
use Rattle.machine.proofs.Order.{same_refl}
use Rattle.stepper.specs.declared.Run.{Run}
use Rattle.stepper.specs.declared.Frame.{Frame}
use Rattle.threads.specs.Held.{places_of, idle_thread}
use Rattle.stepper.specs.Shown.{of_machine, Shows, frame_of}
use Rattle.stepper.specs.Slices.{config_of}
use Rattle.stepper.specs.Parts.{next_by}
use Rattle.stepper.proofs.paused.Goals.{After-without-then-is_waiting}
use Rattle.stepper.proofs.paused.Goals as goal

-- the next point, at an answer to "does the thread wait"
abbrev next : Run → Frame → Bool → Monitor → Told → Bool → Config
next run frame w m told = next_by m told (config_of w run) (frame_of frame) false

-- the notices that are left
used_up : (c : After-without-then-is_waiting) →
    let a = c.args in
    (w : Bool) (u : ℕ) → member (of_machine w c.without.result c.without-then-is_waiting.result) u
    ≡ not (eqb u a.frame.thread) && member (of_machine w a.run.plain a.run.table) u
unfolding of_machine
used_up c false u = c.without.ensures u
used_up c true u = c.without-then-is_waiting.ensures u

pub returns-then-is_waiting : goal.returns-then-is_waiting
unfolding next_by frame_of config_of places_of idle_thread rechecked without
returns-then-is_waiting c queued turned w m told =
    let s = c in
    let run = s.args.run in
    let after : Run = record {
      state = run.state;
      threads = run.threads;
      plain = c.without.result;
      table = c.without-then-is_waiting.result;
    } in
    let waits = sym c.is_waiting.ensures ∙ c.if-is_waiting.true in
    subst (λ (b : Bool). Shows w after (next run s.args.frame w m told b)) (sym waits)
    (record {
      state = refl;
      threads = same_refl;
      turns = turned;
      notices = λ u h. used_up (goal.at.returns-then-is_waiting c).After-without-then-is_waiting w u;
    })

pub returns : goal.returns
unfolding next_by frame_of config_of places_of idle_thread waited
returns c queued turned w m told =
    let s = c in
    let run = s.args.run in
    let after : Run = record {
      state = run.state;
      threads = c.begin_wait.result;
      plain = run.plain;
      table = run.table;
    } in
    let waits = sym c.is_waiting.ensures ∙ c.if-is_waiting.false in
    let began = c.begin_wait.ensures s.requires queued turned waits in
    subst (λ (b : Bool). Shows w after (next run s.args.frame w m told b)) (sym waits)
    (record {
      state = refl;
      threads = began.0;
      turns = began.1;
      notices = λ u h. refl;
    })
