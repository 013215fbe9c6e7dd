-- `generator::make_frames` meets its contract. The loop's invariant: it is on its way behind the first k frames.
use native.Mathlib.Nat.{lt_of_lt_of_le}
use native.Mathlib.Omega.{arith}
use Prim.Native.Nat.{ℕ}
use mathlib.Core.Path.{◌≡◌, refl, ap, ◌∙◌, subst}
use Rattle.generator.specs.Making.{MakesFrames}
use mathlib.Core.Bool.{false, false≢true}
use Rattle.machine.specs.Load.{upper}
use Rattle.machine.proofs.Points.{ToldAt}
use Rattle.stepper.specs.Shown.{frame_of}
use Rattle.generator.proofs.Way.{way_start, next_of, way_next, ends_all, ends_none, zeros}
use Rattle.generator.proofs.make_frames.Goals as goal

pub loop-k-init : goal.loop-k-init
loop-k-init c = (
  refl,
  λ m kept a.
      let few = a.held.few_regions in
      let count = a.count in (
        c.methods_of-methods.ensures m _ count (omega arith) a.places,
        way_start m _ _ _ _ _ _ a.start a.some (c.start-run.ensures false),
      ),
)

pub returns-in_default : goal.returns-in_default
returns-in_default c m kept a =
    let at = c.loop-k.invariant.1 m kept a in
    let w = at.1 in
    let chosen = c.choose.ensures m w.point kept _ a.held at.0 (zeros 256) a.few w.here in
    ends_none w c.loop-k-test.true (chosen.none c.in_default.is)

pub loop-k-preserved : goal.loop-k-preserved
unfolding ToldAt frame_of
loop-k-preserved c =
    let inv = c.loop-k.invariant in (
      omega (arith, inv.0),
      λ m kept a.
          let at = inv.1 m kept a in
          let w = at.1 in
          let chosen = c.choose.ensures m w.point kept _ a.held at.0 (zeros 256) a.few w.here in
          let x = next_of m _ w.point _ _ _ _ w.here.reached (c.upper_bits.ensures ∙ ap upper c.next-next.ensures) chosen c.in-Some.is in
          let steps = c.step.ensures.steps false m w.point kept a.count a.held a.places
          (λ z. absurd (false≢true z)) (lt_of_lt_of_le x.below a.few) a.checked w.here.reached w.here.point
          w.here.shows in
          (at.0, way_next w a.checked a.room c.loop-k-test.true _ x _ steps c.next-next.ensures c.put_frame-at.ensures),
    )

pub returns : goal.returns
returns c m kept a =
    let b = c.args in
    let e : c.loop-k.k ≡ b.wanted = omega arith in
    subst (λ (k : ℕ). MakesFrames m b.seed b.threads b.wanted b.state k b.out.now c.loop-k.out) e
    (ends_all (c.loop-k.invariant.1 m kept a).1 (omega arith))
