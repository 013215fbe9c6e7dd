-- `run::admit` meets its contract: a start that is no kept state, a line that is no frame, or neither.
use native.Mathlib.Omega.{arith}
use mathlib.Core.Path.{◌≡◌, refl, sym, ◌∙◌}
use mathlib.Core.Bool.{true}
use mathlib.Core.List.{List}
use lib.ListN.{get_or}
use Prim.Native.Nat.{ℕ, ◌<◌}
use Rattle.syntax.specs.Tree.{Monitor}
use Rattle.machine.specs.Held.{Held}
use Rattle.meaning.specs.Model.{vars, kept, model}
use Rattle.meaning.specs.State.{count}
use Rattle.variables.specs.Bounded.{Bounded}
use Rattle.variables.specs.declared.Bounds.{Bounds}
use Rattle.trace.proofs.FramesAt.{counted_frames, counted_bad}
use Rattle.run.specs.Ended.{not_kept, no_frame, all_frames}
use Rattle.run.proofs.Records.{past_states, kept_by, kept_one, kept_other, not_ok}
use Rattle.answers.specs.declared.Refusal.TheVariants.{NoStart, NoFrame}
use Rattle.run.proofs.admit.Goals as goal
use Rattle.run.proofs.admit.Goals.{then-start-ge-STATES-via-then-start-ge-STATES, then-start-ge-STATES-via-else-start-ge-STATES+then-bounds-start}

pub returns-then-start-ge-STATES : goal.returns-then-start-ge-STATES
returns-then-start-ge-STATES c =
    record {
      admits = λ m holds after guards b h.
          let a = c.args in
          let few = b.few_states in
          let states = b.states in
          not_kept
          (past_states m a.start
          (elim c.then-start-ge-STATES.branch [
            | then-start-ge-STATES-via-then-start-ge-STATES w ↦ omega arith
            | then-start-ge-STATES-via-else-start-ge-STATES+then-bounds-start w ↦ omega arith
          ]))
          refl;
      start_lt_most_states = not_ok NoStart refl;
    }

pub returns-then-kept-start-ne1 : goal.returns-then-kept-start-ne1
returns-then-kept-start-ne1 c =
    record {
      admits = λ m holds after guards b h.
          let a = c.args in
          let low : a.start < count (vars m) = omega (arith, b.states) in
          not_kept (kept_other (kept m a.start) _ (kept_by m _ _ _ _ h a.start low) c.if-kept-start-ne1.true)
          refl;
      start_lt_most_states = not_ok NoStart refl;
    }

-- past the tests the start is a kept state
started : (bounds : Bounds) (slice : List ℕ) (start : ℕ) → start < bounds.states → get_or slice start 0 ≡ 1
    → (m : Monitor) (holds after guards : List ℕ) → Bounded (vars m) bounds
    → Held (model m) slice holds after guards → kept m start ≡ true
started bounds slice start least one m holds after guards b h =
    let low : start < count (vars m) = omega (arith, b.states) in
    kept_one (kept m start) _ (kept_by m _ _ _ _ h start low) one

pub returns-in-Err : goal.returns-in-Err
returns-in-Err c =
    record {
      admits = λ m holds after guards b h.
          no_frame _ (started _ _ _ c.if-bounds-start.false c.if-kept-start-ne1.false m holds after guards b h)
          (counted_bad _ _ (sym c.count.ensures ∙ c.in-Err.is))
          refl;
      start_lt_most_states = not_ok (NoFrame _) refl;
    }

pub returns-in-Ok : goal.returns-in-Ok
returns-in-Ok c =
    record {
      admits = λ m holds after guards b h.
          let f = counted_frames _ _ (sym c.count.ensures ∙ c.in-Ok.is) in
          all_frames f.all (started _ _ _ c.if-bounds-start.false c.if-kept-start-ne1.false m holds after guards b h) f.read
          refl;
      start_lt_most_states = λ z.
          omega arith;
    }
