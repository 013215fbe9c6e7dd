-- `choice::choose` meets its contract. The loop's invariant: behind k passes the choice is at stage k.
use Prim.Native.Nat.{ℕ}
use native.Mathlib.Omega.{arith}
use mathlib.Core.Path.{refl, ap, ◌∙◌}
use mathlib.Core.Bool.{◌&&◌}
use lib.Dec.{ltb}
use Rattle.sets.specs.Set.{member}
use Rattle.choice.proofs.Staging.{stage_first, stage_next, stage_still, stage_last, all_passes}
use Rattle.choice.proofs.choose.Goals as goal

pub returns-then-states-gt-STATE_END : goal.returns-then-states-gt-STATE_END
returns-then-states-gt-STATE_END c m held = absurd (omega (arith, held.states_counted, held.few_states))

pub returns-then-regions-gt-REGIONS : goal.returns-then-regions-gt-REGIONS
returns-then-regions-gt-REGIONS c m held = absurd (omega (arith, held.few_regions))

pub returns-then-after-lt-AFTER : goal.returns-then-after-lt-AFTER
returns-then-after-lt-AFTER c m held = absurd (omega (arith, held.long))

pub returns-then-tries-gt-TRIES : goal.returns-then-tries-gt-TRIES
returns-then-tries-gt-TRIES c m held = absurd (omega (arith, held.few_tries))

pub loop-k-init : goal.loop-k-init
loop-k-init c =
    let a = c.args in (
      omega arith,
      omega (arith, c.undropped-choice.ensures.0),
      λ m held. stage_first m held c.below.result c.undropped-choice.result
          (λ u low. c.below.ensures u low
          ∙ ap (λ (x : ℕ). member x u && ltb u a.tries) c.at.ensures) c.undropped-choice.ensures.1,
    )

pub returns-then-next-set : goal.returns-then-next-set
returns-then-next-set c m held =
    let i = c.loop-k in
    let t = i.invariant.2 m held in
    stage_last m i.k i.choice
    (stage_still m held i.k i.choice c.drop_pass-next.result (omega (arith, held.tries_counted)) t _ refl c.drop_pass-next.ensures c.if-next-set.true)
    i.invariant.1 (omega (arith, held.tries_counted)) t

pub loop-k-preserved : goal.loop-k-preserved
loop-k-preserved c = (
  omega arith,
  omega arith,
  λ m held.
      let i = c.loop-k in
      stage_next m held i.k i.choice c.drop_pass-next.result (omega (arith, held.tries_counted)) (i.invariant.2 m held) _ refl
      c.drop_pass-next.ensures,
)

pub returns : goal.returns
returns c m held =
    let i = c.loop-k in
    stage_last m i.k i.choice (all_passes m i.k (omega (arith, held.tries_counted))) i.invariant.1
    (omega (arith, held.tries_counted)) (i.invariant.2 m held)
