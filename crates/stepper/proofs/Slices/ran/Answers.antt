-- `Slices::ran` meets its contract: the look-ups and the calls are the parts of the point after a body, of each machine.
use Prim.Native.Nat.{ℕ, ◌<◌}
use mathlib.Core.Path.{◌≡◌, refl, ap, ◌∙◌, subst}
use mathlib.Core.Bool.{Bool, true, false, not, ◌&&◌, ◌||◌}
use mathlib.Core.List.{List}
use lib.Dec.{eqb}
use Rattle.sets.specs.Set.{member}
use Rattle.machine.specs.Monitor.{Place, Threads, SameThreads}
use Rattle.machine.specs.Decide.Step.{ran, leave, without, is_waiting}
use Rattle.machine.specs.Queue.{has}
use Rattle.queue.proofs.Lists.{queue_below}
use Rattle.threads.specs.Held.{threads_of, Queued}
use Rattle.stepper.specs.Shown.{of_machine, frame_of}
use Rattle.waiters.specs.Slices.{after_at, follows_at}
use Rattle.waiters.specs.Told.{becomes_at}
use Rattle.stepper.specs.Slices.{newly_in, newly_at, config_of}
use Rattle.stepper.proofs.Agree.{newly_alike, goes_on}
use Rattle.stepper.proofs.Slices.ran.Goals as goal

-- the notices of a machine: those that are left, and those whom the body notifies
renewed : (c : goal.After-union-2) →
    let d = c in
    let a = d.args in
    (w : Bool) (u : ℕ) → member (of_machine w c.union.result c.union-2.result) u
    ≡ (not (eqb u a.frame.thread) && member (of_machine w a.run.plain a.run.table) u)
    || member (of_machine w d.told-more.result.plain d.told-more.result.table) u
unfolding of_machine
renewed c false u =
    let d = c in
    c.union.ensures u
    ∙ ap (λ (x : Bool). x || member d.told-more.result.plain u) (c.without.ensures u)
renewed c true u =
    let d = c in
    c.union-2.ensures u
    ∙ ap (λ (x : Bool). x || member d.told-more.result.table u) (c.without-2.ensures u)

-- whom the body notifies anew, on either machine
told_on_lem : (c : goal.After-union-2) →
    let d = c in
    let l = d in
    let a = l.args in
    Queued l.leave-after_body.result → (w : Bool) (u : ℕ) → u < 16 → member (of_machine w d.told-more.result.plain d.told-more.result.table) u
    ≡ newly_in a.self.now.guard_of.now a.self.now.entries.now (member d.made_true-newly.result) w (threads_of l.leave-after_body.result)
    a.frame.region u
unfolding of_machine newly_in
told_on_lem c queued false u h = (c.told-more.ensures queued u h).0
told_on_lem c queued true u h = (c.told-more.ensures queued u h).1

pub returns : goal.returns
unfolding ran without after_at newly_at config_of frame_of
returns c queued turned w =
    let d = c in
    let l = d in
    let s = l in
    let a = s.args in
    let before : Threads = threads_of a.run.threads in
    let after : Threads = leave before a.frame.thread (follows_at a.self.now.goes_on.now a.frame.region) in
    let known = l.behind.ensures in
    let left = l.leave-after_body.ensures s.requires queued turned (ap is_waiting known ∙ goes_on a.self.now.goes_on.now a.frame.region) in
    let same : SameThreads (threads_of l.leave-after_body.result) after =
    subst (λ (q : Place). SameThreads (threads_of l.leave-after_body.result) (leave before a.frame.thread q)) known left.0 in
    let to = after_at a.self.now.after.now a.frame.region a.run.state in
    record {
      state = refl;
      threads = same;
      turns = left.1;
      notices = λ u h.
          renewed c w u
          ∙ ap
          (λ (x : Bool). (not (eqb u a.frame.thread) && member (of_machine w a.run.plain a.run.table) u) || x)
          (told_on_lem c left.2 w u h
          ∙ newly_alike a.self.now.guard_of.now a.self.now.entries.now (member d.made_true-newly.result)
          (becomes_at a.self.now.holds.now a.run.state to) d.made_true-newly.ensures
          (threads_of l.leave-after_body.result) after same
          (λ v k. queue_below l.leave-after_body.result.order l.leave-after_body.result.waiting v
          (ap (λ (q : List ℕ). has q v) same.same_queue ∙ k)) w a.frame.region u h);
    }
