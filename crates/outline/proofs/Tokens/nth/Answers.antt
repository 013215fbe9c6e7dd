-- `outline::Tokens::nth` meets its contract. The loop's invariant: what is left to pass from here, with so many left to count,
-- is what is left of the whole.
use Prim.Native.Nat.{◌+◌}
use native.Mathlib.Omega.{arith}
use mathlib.Core.Path.{◌≡◌, sym, ap, ◌∙◌}
use lib.ListN.{length, drop}
use Rattle.outline.specs.Found.{nth_of}
use Rattle.outline.proofs.Found.{turn_here, turn_counts, turn_passes, turns_over}
use Rattle.outline.proofs.Tokens.nth.Goals as goal
use Rattle.outline.proofs.Tokens.nth.Goals.{then-x-kind+else-left-eq0, else-x-kind}

pub loop-i-init : goal.loop-i-init
loop-i-init c = omega arith

pub returns-then-left-eq0 : goal.returns-then-left-eq0
returns-then-left-eq0 c =
    let q = c in
    let a = q.args in
    let here : q.loop-i.i ≡ nth_of a.kind a.k a.self.kinds.now =
    turn_here a.kind a.self.kinds.now q.loop-i.i c.loop-i-test.true
    c.if-x-kind.true
    ∙ ap (λ d. q.loop-i.i + nth_of a.kind d (drop q.loop-i.i a.self.kinds.now)) (sym c.if-left-eq0.true)
    ∙ q.loop-i.invariant in
    (here, omega arith)

pub loop-i-preserved : goal.loop-i-preserved
loop-i-preserved c =
    let a = c.args in
    let l = c.loop-i in
    let h = c.loop-i-test.true in
    elim c.if-x-kind.branch [
      | then-x-kind+else-left-eq0 w ↦ rw w.left-is (turn_counts a.kind a.self.kinds.now l.i l.left h w.if-x-kind.true w.if-left-eq0.false
          ∙ l.invariant)
      | else-x-kind w ↦ rw w.left-is (turn_passes a.kind a.self.kinds.now l.i l.left h w.if-x-kind.false ∙ l.invariant)
    ]

pub returns : goal.returns
returns c =
    let a = c.args in
    let l = c.loop-i in
    let over : length a.self.kinds.now ≡ l.i = omega arith in (
      rw over (turns_over a.kind a.self.kinds.now l.i l.left c.loop-i-test.false ∙ l.invariant),
      omega arith,
    )
