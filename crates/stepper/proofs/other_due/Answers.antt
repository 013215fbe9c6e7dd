-- `stepper::other_due` meets its contract. The invariant: what is found is whether a thread below u is due, but t.
use Prim.Native.Nat.{ℕ}
use mathlib.Core.Path.{◌≡◌, refl, ◌∙◌, sym, ap, ap₂}
use mathlib.Core.Bool.{Bool, not, ◌&&◌, ◌||◌}
use native.Mathlib.Numerals.{add-one}
use native.Mathlib.Omega.{arith}
use lib.Dec.{eqb}
use Rattle.logic.specs.Tests.{any}
use Rattle.machine.specs.Decide.Step.{is_due}
use Rattle.threads.specs.Held.{places_of, idle_thread}
use Rattle.stepper.proofs.other_due.Goals as goal

pub loop-u-init : goal.loop-u-init
unfolding any
loop-u-init c = refl

pub loop-u-preserved : goal.loop-u-preserved
unfolding places_of idle_thread any
loop-u-preserved c =
    let loop = c.loop-u in
    let a = c.args in
    let others : ℕ → Bool = λ v. not (eqb v a.t) && is_due (places_of a.each v) in
    ap₂ (λ (x y : Bool). (not (eqb loop.u a.t) && x) || y) c.is_due.ensures loop.invariant
    ∙ ap (λ (k : ℕ). any k others) (sym (add-one loop.u))

pub returns : goal.returns
returns c =
    let l = c.loop-u in
    let a = c.args in
    let end : l.u ≡ 16 = omega arith in
    l.invariant ∙ ap (λ (k : ℕ). any k (λ v. not (eqb v a.t) && is_due (places_of a.each v))) end
