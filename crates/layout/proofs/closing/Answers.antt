-- `layout::closing` meets its contract. The loop's invariant: what is left to pass from here, at this depth, is what is
-- left of the whole.
use Prim.Native.Nat.{◌+◌}
use native.Mathlib.Omega.{arith}
use mathlib.Core.Path.{◌≡◌, refl, sym, ap, ◌∙◌}
use lib.ListN.{drop}
use Rattle.std.proofs.lemmas.Grind.{common_steps}
use Rattle.layout.specs.Closing.{close_from}
use Rattle.layout.proofs.Closes.{turn_opens, turn_ends, turn_closes, turn_passes, turns_over}
use Rattle.layout.proofs.closing.Goals as goal
use Rattle.layout.proofs.closing.Goals.{then-kind-opener, else-kind-opener+then-kind-closer+else-depth-eq0, else-kind-opener+else-kind-closer}

pub loop-i-init : goal.loop-i-init
loop-i-init c = (refl, omega arith, λ h. refl)

pub returns-then-depth-eq0 : goal.returns-then-depth-eq0
returns-then-depth-eq0 c =
    let q = c in
    let a = q.args in
    turn_ends a.opener a.closer a.kinds.now q.loop-i.i c.loop-i-test.true
    c.if-kind-opener.false c.if-kind-closer.true
    ∙ ap (λ d. q.loop-i.i + close_from a.opener a.closer d (drop q.loop-i.i a.kinds.now))
    (sym c.if-depth-eq0.true)
    ∙ q.loop-i.invariant.0

pub loop-i-preserved : goal.loop-i-preserved
loop-i-preserved c =
    let q = c in
    let a = q.args in
    let ks = a.kinds.now in
    let h = c.loop-i-test.true in
    elim c.if-kind-opener.branch [
      | then-kind-opener w ↦ (
        rw w.depth-is (turn_opens a.opener a.closer ks q.loop-i.i q.loop-i.depth h w.if-kind-opener.true
            ∙ q.loop-i.invariant.0),
        omega (arith, w.depth-is),
        λ over. absurd (omega arith),
      )
      | else-kind-opener+then-kind-closer+else-depth-eq0 w ↦ (
        rw w.depth-is (turn_closes a.opener a.closer ks q.loop-i.i q.loop-i.depth h w.if-kind-opener.false
            w.if-kind-closer.true w.if-depth-eq0.false ∙ q.loop-i.invariant.0),
        omega (arith, w.depth-is),
        λ over. absurd (omega arith),
      )
      | else-kind-opener+else-kind-closer w ↦ (
        rw w.depth-is (turn_passes a.opener a.closer ks q.loop-i.i q.loop-i.depth h w.if-kind-opener.false
            w.if-kind-closer.false ∙ q.loop-i.invariant.0),
        omega (arith, w.depth-is),
        λ over. absurd (omega arith),
      )
    ]

pub returns : goal.returns
returns c =
    let a = c.args in
    let e : c.max.result ≡ c.loop-i.i = grind (arith, common_steps, c.max.ensures, c.loop-i.invariant.2) in
    rw e (turns_over a.opener a.closer a.kinds.now c.loop-i.i c.loop-i.depth c.loop-i-test.false ∙ c.loop-i.invariant.0)
