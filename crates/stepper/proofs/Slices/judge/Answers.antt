-- `Slices::judge` meets its contract: each test's fact is one of the verdict's Booleans; a machine's own are its notice
-- and who stands ahead.
use Prim.Native.Nat.{ℕ}
use mathlib.Core.Path.{◌≡◌, sym, ap, ◌∙◌}
use mathlib.Core.Bool.{Bool, true, false, beq}
use mathlib.Core.List.{List, []}
use borrow.Author.Tests.{not-true, not-false}
use Rattle.sets.specs.Set.{member}
use Rattle.machine.specs.Monitor.{waits_on, line}
use Rattle.machine.specs.Queue.{has, those}
use Rattle.machine.specs.Decide.Step.{may_be_at, may, first_notified}
use Rattle.machine.proofs.Queue.{those_same}
use Rattle.queue.specs.Packed.{queue_of}
use Rattle.threads.specs.Held.{places_of, turns_of, threads_of, idle_thread, Turned, Queued}
use Rattle.stepper.specs.declared.Run.{Run}
use Rattle.stepper.specs.declared.Frame as code
use Rattle.stepper.specs.Shown.{of_machine, notices_in, frame_of}
use Rattle.waiters.specs.Slices.{guard_at, holds_at, slices, guards_only}
use Rattle.stepper.specs.Slices.{config_of}
use Rattle.stepper.specs.Parts.{verdict, verdict_of, AheadOf}
use Rattle.std.specs.Prelude.{Ok, Err}
use Rattle.stepper.specs.declared.Refusal.TheVariants.{Misplaced, NotAllowed}
use Rattle.stepper.specs.Answered.{answered, number_of}
use Rattle.stepper.proofs.Machines.{each_machine, answered_alike}
use Rattle.stepper.proofs.Loops.{guards_alone}
use Rattle.stepper.proofs.Front.{ahead_of}
use Rattle.stepper.proofs.Judged.{begins_alone, may_be, other_is_due, not_there, other_flag, not_waiting}
use Rattle.stepper.proofs.Judged.{waits_here, waits_there, none_ahead}
use Rattle.stepper.proofs.Slices.judge.Goals.{After-line_ahead-ahead, Else-not-may_be_at, Else-flag-holds_at, Else-not-is_waiting}
use Rattle.stepper.proofs.Slices.judge.Goals as goal

module _ (w : Bool) where
  at_region : (holds guard_of begins : List ℕ) (regions : ℕ) (run : Run) (f : code.Frame) {r : Bool}
      → r ≡ may_be_at (slices [] [] [] begins [] regions) (places_of run.threads.each f.thread) f.region
      → r ≡ may_be_at (slices holds [] guard_of begins [] regions) ((config_of w run).threads.place (frame_of f).thread)
      (frame_of f).region
  unfolding config_of frame_of
  at_region holds guard_of begins regions run f e =
      e ∙ sym (begins_alone holds [] guard_of begins [] regions (places_of run.threads.each f.thread) f.region)

  is_there : (c : Else-not-may_be_at) → let s = c.args in may (slices s.self.now.holds.now [] s.self.now.guard_of.now s.self.now.begins.now [] s.self.now.regions) (config_of w s.run).threads (frame_of s.frame) ≡ true
  unfolding config_of frame_of places_of idle_thread
  is_there c =
      let s = c.args in
      may_be (slices s.self.now.holds.now [] s.self.now.guard_of.now s.self.now.begins.now [] s.self.now.regions) (config_of w s.run) (frame_of s.frame)
      (sym c.other_due.ensures ∙ c.if-other_due.false)
      (sym (at_region s.self.now.holds.now s.self.now.guard_of.now s.self.now.begins.now s.self.now.regions s.run s.frame c.may_be_at.ensures) ∙ c.if-not-may_be_at.false)

  truth : (holds guard_of begins : List ℕ) (regions : ℕ) (run : Run) (f : code.Frame) {r : Bool} {g : ℕ}
      → r ≡ holds_at holds g run.state → g ≡ guard_at guard_of f.region → let m = slices holds [] guard_of begins [] regions in
      r ≡ m.holds (m.guard_of (frame_of f).region) (config_of w run).state
  unfolding config_of frame_of
  truth holds guard_of begins regions run f e known = e ∙ ap (λ (g : ℕ). holds_at holds g run.state) known

  is_same : (c : Else-flag-holds_at) → let s = c.args in
      beq (frame_of s.frame).flag ((slices s.self.now.holds.now [] s.self.now.guard_of.now s.self.now.begins.now [] s.self.now.regions).holds ((slices s.self.now.holds.now [] s.self.now.guard_of.now s.self.now.begins.now [] s.self.now.regions).guard_of (frame_of s.frame).region) (config_of w s.run).state) ≡ true
  unfolding config_of frame_of
  is_same c =
      let s = c.args in
      sym (ap (beq s.frame.flag) (truth s.self.now.holds.now s.self.now.guard_of.now s.self.now.begins.now s.self.now.regions s.run s.frame c.holds_at.ensures c.guard_at-guard.ensures)) ∙ not-false _ c.if-flag-holds_at.false

  -- of a waiting thread whose flag is right the notices alone are left to ask
  left_to_ask : (c : Else-not-is_waiting) → let s = c.args in
      may (slices s.self.now.holds.now [] s.self.now.guard_of.now s.self.now.begins.now [] s.self.now.regions) (config_of w s.run).threads (frame_of s.frame) ≡ true
      → beq (frame_of s.frame).flag ((slices s.self.now.holds.now [] s.self.now.guard_of.now s.self.now.begins.now [] s.self.now.regions).holds ((slices s.self.now.holds.now [] s.self.now.guard_of.now s.self.now.begins.now [] s.self.now.regions).guard_of (frame_of s.frame).region) (config_of w s.run).state) ≡ true
      → verdict_of (slices s.self.now.holds.now [] s.self.now.guard_of.now s.self.now.begins.now [] s.self.now.regions) (config_of w s.run) (frame_of s.frame)
      ≡ verdict true true true s.frame.flag (member (notices_in w s.run) s.frame.thread)
      (first_notified (slices s.self.now.holds.now [] s.self.now.guard_of.now s.self.now.begins.now [] s.self.now.regions) (config_of w s.run).threads (member (notices_in w s.run))
      (guard_at s.self.now.guard_of.now s.frame.region) s.frame.thread)
  unfolding frame_of config_of places_of idle_thread
  left_to_ask c there same =
      let s = c.args in
      waits_here (slices s.self.now.holds.now [] s.self.now.guard_of.now s.self.now.begins.now [] s.self.now.regions) (config_of w s.run) (frame_of s.frame) there same (sym c.is_waiting.ensures ∙ c.if-not-is_waiting.false)

pub returns-then-other_due : goal.returns-then-other_due
unfolding config_of frame_of answered number_of
returns-then-other_due c queued turned w =
    let s = c.args in
    answered_alike w (Err Misplaced) c.alike.ensures
    ∙ sym
    (other_is_due (slices s.self.now.holds.now [] s.self.now.guard_of.now s.self.now.begins.now [] s.self.now.regions) (config_of w s.run) (frame_of s.frame)
    (sym c.other_due.ensures ∙ c.if-other_due.true))

pub returns-then-not-may_be_at : goal.returns-then-not-may_be_at
unfolding config_of frame_of places_of idle_thread answered number_of
returns-then-not-may_be_at c queued turned w =
    let d = c in
    let s = d.args in
    answered_alike w (Err Misplaced) c.alike-then-not-may_be_at.ensures
    ∙ sym
    (not_there (slices s.self.now.holds.now [] s.self.now.guard_of.now s.self.now.begins.now [] s.self.now.regions) (config_of w s.run) (frame_of s.frame) (sym (at_region w s.self.now.holds.now s.self.now.guard_of.now s.self.now.begins.now s.self.now.regions s.run s.frame c.may_be_at.ensures) ∙ c.if-not-may_be_at.true))

pub returns-then-flag-holds_at : goal.returns-then-flag-holds_at
unfolding config_of frame_of places_of idle_thread answered number_of
returns-then-flag-holds_at c queued turned w =
    let d = c in
    let s = d.args in
    answered_alike w (Err NotAllowed) c.alike-then-flag-holds_at.ensures
    ∙ sym
    (other_flag (slices s.self.now.holds.now [] s.self.now.guard_of.now s.self.now.begins.now [] s.self.now.regions) (config_of w s.run) (frame_of s.frame) (is_there w (goal.at.returns-then-flag-holds_at c).Else-not-may_be_at)
    (sym (ap (beq s.frame.flag) (truth w s.self.now.holds.now s.self.now.guard_of.now s.self.now.begins.now s.self.now.regions s.run s.frame c.holds_at.ensures c.guard_at-guard.ensures)) ∙ not-true _ c.if-flag-holds_at.true))

pub returns-then-not-is_waiting : goal.returns-then-not-is_waiting
unfolding config_of frame_of places_of idle_thread answered number_of
returns-then-not-is_waiting c queued turned w =
    let d = c in
    let s = d.args in
    answered_alike w (Ok tt) c.alike-then-not-is_waiting.ensures
    ∙ sym
    (not_waiting (slices s.self.now.holds.now [] s.self.now.guard_of.now s.self.now.begins.now [] s.self.now.regions) (config_of w s.run) (frame_of s.frame) (is_there w (goal.at.returns-then-not-is_waiting c).Else-not-may_be_at)
    (is_same w (goal.at.returns-then-not-is_waiting c).Else-flag-holds_at)
    (sym c.is_waiting.ensures ∙ c.if-not-is_waiting.true))

-- a waiter names its own region, so it stands in the line on that region's guard
in_line : (c : Else-not-is_waiting) → let s = c.args in
    waits_on (slices s.self.now.holds.now [] s.self.now.guard_of.now s.self.now.begins.now [] s.self.now.regions) (threads_of s.run.threads) (guard_at s.self.now.guard_of.now s.frame.region)
    s.frame.thread ≡ true
unfolding waits_on frame_of config_of places_of idle_thread
in_line c =
    let s = c.args in
    waits_there (slices s.self.now.holds.now [] s.self.now.guard_of.now s.self.now.begins.now [] s.self.now.regions) (places_of s.run.threads.each s.frame.thread) s.frame.region
    (sym (at_region false s.self.now.holds.now s.self.now.guard_of.now s.self.now.begins.now s.self.now.regions s.run s.frame c.may_be_at.ensures)
    ∙ c.if-not-may_be_at.false)
    (sym c.is_waiting.ensures ∙ c.if-not-is_waiting.false)

-- and those ahead of it there are found by its turn
ahead_here : (c : After-line_ahead-ahead) → let s = c.args in
    waits_on (slices s.self.now.holds.now [] s.self.now.guard_of.now s.self.now.begins.now [] s.self.now.regions) (threads_of s.run.threads) (guard_at s.self.now.guard_of.now s.frame.region) s.frame.thread ≡ true
    → Queued s.run.threads → Turned s.run.threads
    → AheadOf (line (slices s.self.now.holds.now [] s.self.now.guard_of.now s.self.now.begins.now [] s.self.now.regions) (threads_of s.run.threads) (guard_at s.self.now.guard_of.now s.frame.region))
    s.frame.thread c.line_ahead-ahead.result
unfolding waits_on turns_of idle_thread
ahead_here c stands queued turned =
    let s = c.args in
    let a = s in
    let p = threads_of a.run.threads in
    let g = guard_at a.self.now.guard_of.now a.frame.region in
    let known = c.guard_at-guard.ensures in
    let q = queue_of a.run.threads.order (turns_of a.run.threads.each a.frame.thread) in
    ahead_of (slices s.self.now.holds.now [] s.self.now.guard_of.now s.self.now.begins.now [] s.self.now.regions) a.run.threads queued turned a.frame.thread g c.requires stands
    c.line_ahead-ahead.result
    (λ u h. c.line_ahead-ahead.ensures u h
    ∙ ap (λ (k : ℕ). has (those (waits_on (guards_only a.self.now.guard_of.now) p k) q) u) known
    ∙ ap (λ (l : List ℕ). has l u)
    (those_same (waits_on (guards_only a.self.now.guard_of.now) p g) (waits_on (slices s.self.now.holds.now [] s.self.now.guard_of.now s.self.now.begins.now [] s.self.now.regions) p g) q
    (λ v _. sym (guards_alone a.self.now.holds.now [] a.self.now.guard_of.now a.self.now.begins.now [] a.self.now.regions g (p.place v)))))

pub returns-then-flag : goal.returns-then-flag
unfolding config_of of_machine first_notified
returns-then-flag c queued turned w =
    let x = c in
    let e = x in
    let s = e.args in
    let a = s in
    let p = threads_of a.run.threads in
    let g = guard_at a.self.now.guard_of.now a.frame.region in
    each_machine
    (λ v r. answered r ≡ verdict true true true true (member (notices_in v a.run) a.frame.thread)
    (first_notified (slices s.self.now.holds.now [] s.self.now.guard_of.now s.self.now.begins.now [] s.self.now.regions) p (member (notices_in v a.run)) g a.frame.thread))
    (c.resumes.ensures (line (slices s.self.now.holds.now [] s.self.now.guard_of.now s.self.now.begins.now [] s.self.now.regions) p g) (ahead_here (goal.at.returns-then-flag c).After-line_ahead-ahead (in_line (goal.at.returns-then-flag c).Else-not-is_waiting) queued turned))
    (c.resumes-then-flag.ensures (line (slices s.self.now.holds.now [] s.self.now.guard_of.now s.self.now.begins.now [] s.self.now.regions) p g) (ahead_here (goal.at.returns-then-flag c).After-line_ahead-ahead (in_line (goal.at.returns-then-flag c).Else-not-is_waiting) queued turned)) w
    ∙ ap (λ (f : Bool). verdict true true true f (member (notices_in w a.run) a.frame.thread)
    (first_notified (slices s.self.now.holds.now [] s.self.now.guard_of.now s.self.now.begins.now [] s.self.now.regions) p (member (notices_in w a.run)) g a.frame.thread)) (sym x.if-flag.true)
    ∙ sym (left_to_ask w (goal.at.returns-then-flag c).Else-not-is_waiting (is_there w (goal.at.returns-then-flag c).Else-not-may_be_at)
    (is_same w (goal.at.returns-then-flag c).Else-flag-holds_at))

pub returns : goal.returns
unfolding config_of of_machine
returns c queued turned w =
    let e = c in
    let s = e.args in
    let a = s in
    let first = first_notified (slices s.self.now.holds.now [] s.self.now.guard_of.now s.self.now.begins.now [] s.self.now.regions) (threads_of a.run.threads) (member (notices_in w a.run))
    (guard_at a.self.now.guard_of.now a.frame.region) a.frame.thread in
    each_machine (λ v r. answered r ≡ verdict true true true false (member (notices_in v a.run) a.frame.thread) true)
    c.rechecks.ensures c.rechecks-2.ensures w
    ∙ none_ahead (member (notices_in w a.run) a.frame.thread) first
    ∙ ap (λ (f : Bool). verdict true true true f (member (notices_in w a.run) a.frame.thread) first)
    (sym c.if-flag.false)
    ∙ sym (left_to_ask w (goal.at.returns c).Else-not-is_waiting (is_there w (goal.at.returns c).Else-not-may_be_at)
    (is_same w (goal.at.returns c).Else-flag-holds_at))
