-- `run::running_of` meets its contract: by the machine's run of the list, its refusal or the record of its last point.
use Prim.Native.Nat.{ℕ}
use mathlib.Core.Path.{refl, sym, ap, ap₂, ◌∙◌, subst}
use mathlib.Core.Bool.{false}
use Rattle.machine.specs.Monitor.{Run, accepted, stopped}
use Rattle.meaning.specs.Answer.{Answer, answer}
use Rattle.meaning.specs.Calls.{not_run}
use Rattle.meaning.specs.Model.{vars}
use Rattle.meaning.specs.State.{count}
use Rattle.meaning.specs.Decide.Calls.{running_of}
use Rattle.run.specs.Results.{Runs}
use Rattle.run.specs.Ended.{StopsAs}
use Rattle.run.specs.Way.{stop_number, stop_frame}
use Rattle.run.proofs.FrameByFrame.{some_number}
use Rattle.run.proofs.running_of.Goals as goal

pub returns-in-Some : goal.returns-in-Some
unfolding StopsAs running_of stop_number stop_frame
returns-in-Some c m w x b own = go x
  where
    go : (x : Run) → StopsAs w (count (vars m)) c.args.stop c.args.run x
        → Runs (running_of m x) c.not_run.result
    go (accepted d) s = absurd (some_number c.in-Some.stop.refusal (sym (ap stop_number c.in-Some.is) ∙ s.0))
    go (stopped a k) s =
        subst (λ (x : Answer). Runs (not_run x) c.not_run.result)
        (c.from.ensures ∙ ap₂ (λ (n i : ℕ). answer n i 0) (sym (ap stop_number c.in-Some.is) ∙ s.0)
        (sym (ap stop_frame c.in-Some.is) ∙ s.1))
        c.not_run.ensures

pub returns-in-None : goal.returns-in-None
unfolding StopsAs running_of Runs stop_number
returns-in-None c m w x b own = go x
  where
    go : (x : Run)
        → StopsAs w (count (vars m)) c.args.stop c.args.run x
        → Runs (running_of m x)
        (record { answer = c.accepted.result; «record» = c.record_of.result; of_file = false })
    go (accepted d) s =
        let a = c.accepted.ensures in (
          record { number = a.0; first = a.1; second = a.2 },
          c.record_of.ensures m w d b own s.1 s.2,
          refl,
        )
    go (stopped a k) s = absurd (s.2 (sym s.0 ∙ ap stop_number c.in-None.is))
