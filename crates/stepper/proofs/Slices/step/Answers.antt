-- `Slices::step` meets its contract, for either machine: the number and the next point of the slices' monitor are those of
-- the monitor that they hold, and the two parts make the machine's step.
use Prim.Native.Nat.{ℕ, ◌%◌, ◌<◌}
use mathlib.Core.Path.{◌≡◌, refl, sym, ap, ◌∙◌, subst}
use mathlib.Core.Bool.{Bool, true, false}
use mathlib.Core.List.{[]}
use native.Mathlib.Nat.{mod-eq_of_lt}
use Rattle.machine.specs.Monitor.{Monitor, Config, Frame}
use Rattle.machine.specs.Decide.Step.{Told, is_waiting, ran}
use Rattle.threads.specs.Held.{Turned, Queued}
use Rattle.stepper.specs.declared.Frame as code
use Rattle.stepper.specs.declared.Run.{Run}
use Rattle.stepper.specs.Answered.{answered}
use Rattle.stepper.specs.Shown.{of_machine, Shows, Stays, step_by, frame_of}
use Rattle.waiters.specs.Slices.{slices}
use Rattle.stepper.specs.Slices.{newly_at, config_of}
use Rattle.stepper.specs.Parts.{verdict_of, next_by, next_of}
use Rattle.stepper.proofs.Machines.{each_machine, refused_number, taken_number}
use Rattle.stepper.proofs.ByHeld.{steps_held, shows_queued}
use Rattle.stepper.proofs.Slices.step.Goals as goal
use Rattle.stepper.proofs.Slices.step.Goals.{Start, After-judge-answers, Joined-else-is_err, else-is_err-via-else-is_err, else-is_err-via-then-is_err+else-is_err-2}

-- a thread below 16 is its remainder
abbrev known : code.Frame → code.Frame
known f = record { thread = f.thread % 16; region = f.region; flag = f.flag }

same_frame : (f : code.Frame) → f.thread < 16 → frame_of (known f) ≡ frame_of f
unfolding frame_of
same_frame f h = ap (λ (t : ℕ). frame_of (record { thread = t; region = f.region; flag = f.flag })) (mod-eq_of_lt h)

number : (c : After-judge-answers) (w : Bool) → let a = c.args in
    Queued a.run.threads → Turned a.run.threads → a.frame.thread < 16
    → answered (of_machine w c.judge-answers.result.plain c.judge-answers.result.table)
    ≡ verdict_of (slices a.self.now.holds.now [] a.self.now.guard_of.now a.self.now.begins.now [] a.self.now.regions) (config_of w a.run)
    (frame_of a.frame)
number c w queued turned h =
    let a = c.args in
    c.judge-answers.ensures queued turned w
    ∙ ap
    (verdict_of (slices a.self.now.holds.now [] a.self.now.guard_of.now a.self.now.begins.now [] a.self.now.regions) (config_of w a.run))
    (same_frame a.frame h)

-- the next point is by the flag: a body ran, or the thread pauses
module _ (m : Monitor) (told : Told) (c : Config) (f : Frame) where
  next_ran : f.flag ≡ true → ran m told c f ≡ next_of m told c f
  unfolding next_of next_by
  next_ran e = sym (ap (λ (b : Bool). next_by m told c f b (is_waiting (c.threads.place f.thread))) e)

  next_paused :
      f.flag ≡ false → next_by m told c f false (is_waiting (c.threads.place f.thread)) ≡ next_of m told c f
  unfolding next_of
  next_paused e = sym (ap (λ (b : Bool). next_by m told c f b (is_waiting (c.threads.place f.thread))) e)

-- the slices' monitor, whom a machine notifies, and the next point as the frame stands or with its thread's remainder
abbrev moves : Start → Monitor
moves s = slices s.args.self.now.holds.now s.args.self.now.after.now s.args.self.now.guard_of.now [] s.args.self.now.goes_on.now 0

abbrev telling : Start → Bool → Told
telling s w = newly_at s.args.self.now.holds.now s.args.self.now.guard_of.now s.args.self.now.entries.now w s.args.run.state

abbrev next_at : Start → Bool → code.Frame → Config
next_at s w f = next_of (moves s) (telling s w) (config_of w s.args.run) (frame_of f)

shown : (s : Start) (w : Bool) (next : Run) {x : Config} → x ≡ next_at s w (known s.args.frame) → Shows w next x
    → s.args.frame.thread < 16 → Shows w next (next_at s w s.args.frame)
shown s w next e h thread =
    subst (Shows w next)
    (e ∙ ap (next_of (moves s) (telling s w) (config_of w s.args.run)) (same_frame s.args.frame thread)) h

-- a machine that takes the frame is known at the test whether both refuse
goes_on : (c : Joined-else-is_err) → let n = c.judge-answers.result in
    (answered n.plain ≡ 0 → ⊥) → (answered n.table ≡ 0 → ⊥) → ⊥
goes_on c p t = elim c.else-is_err.branch [
  | else-is_err-via-else-is_err x ↦ p (taken_number _ (sym c.is_err.ensures.value ∙ x.if-is_err.false))
  | else-is_err-via-then-is_err+else-is_err-2 x ↦ t (taken_number _ (sym x.is_err-then-is_err.ensures.value ∙ x.if-is_err-2.false))
]

pub returns-then-is_err-2 : goal.returns-then-is_err-2
unfolding step_by frame_of config_of Stays
returns-then-is_err-2 c =
    record {
      steps = λ w m d kept e held places entries thread ok reached told shows.
          let x = c in
          let a = x.args in
          let n = x.judge-answers.result in
          steps_held m kept a.self.now.holds.now a.self.now.after.now a.self.now.guard_of.now held a.self.now.begins.now a.self.now.goes_on.now places
          w d (frame_of a.frame) a.run thread reached shows ok told a.self.now.regions e a.self.now.entries.now entries _
          (number (goal.at.returns-then-is_err-2 c).After-judge-answers w (shows_queued m w a.run d reached.lined shows) shows.turns thread)
          (λ z. absurd (each_machine (λ _ r. answered r ≡ 0 → ⊥)
          (refused_number n.plain (sym c.is_err.ensures.value ∙ c.if-is_err.true))
          (refused_number n.table (sym c.is_err-then-is_err.ensures.value ∙ c.if-is_err-2.true)) w z));
      stays = λ p t. refl;
    }

pub returns-then-known : goal.returns-then-known
unfolding step_by frame_of config_of Stays
returns-then-known c =
    record {
      steps = λ w m d kept e held places entries thread ok reached told shows.
          let x = c in
          let s = (goal.at.returns-then-known c).Start in
          let a = s.args in
          let next = next_ran (moves s) (telling s w) (config_of w a.run) (frame_of (known a.frame)) c.if-known.true
          in
          steps_held m kept a.self.now.holds.now a.self.now.after.now a.self.now.guard_of.now held a.self.now.begins.now a.self.now.goes_on.now places
          w d (frame_of a.frame) a.run thread reached shows ok told a.self.now.regions e a.self.now.entries.now entries _
          (number (goal.at.returns-then-known c).After-judge-answers w (shows_queued m w a.run d reached.lined shows) shows.turns thread) (λ z. shown s w c.ran-run.result next (c.ran-run.ensures (shows_queued m w a.run d reached.lined shows) shows.turns w) thread);
      stays = λ p t. absurd (goes_on (goal.at.returns-then-known c).Joined-else-is_err p t);
    }

pub returns-else-known : goal.returns-else-known
unfolding step_by frame_of config_of Stays
returns-else-known c =
    record {
      steps = λ w m d kept e held places entries thread ok reached told shows.
          let x = c in
          let s = (goal.at.returns-else-known c).Start in
          let a = s.args in
          let next = next_paused (moves s) (telling s w) (config_of w a.run) (frame_of (known a.frame)) c.if-known.false
          in
          steps_held m kept a.self.now.holds.now a.self.now.after.now a.self.now.guard_of.now held a.self.now.begins.now a.self.now.goes_on.now places
          w d (frame_of a.frame) a.run thread reached shows ok told a.self.now.regions e a.self.now.entries.now entries _
          (number (goal.at.returns-else-known c).After-judge-answers w (shows_queued m w a.run d reached.lined shows) shows.turns thread) (λ z. shown s w c.paused-run.result next (c.paused-run.ensures (shows_queued m w a.run d reached.lined shows) shows.turns w (moves s) (telling s w)) thread);
      stays = λ p t. absurd (goes_on (goal.at.returns-else-known c).Joined-else-is_err p t);
    }
