-- `layout::link_braces` meets its contract. The loop's invariant: the braces passed are linked, and all else is as it
-- was.
use Prim.Native.Nat.{◌%◌, ◌<◌}
use native.Mathlib.Omega.{arith}
use mathlib.Core.Path.{◌≡◌, sym, ap, ◌∙◌}
use lib.ListN.{length, length-map}
use Rattle.syntax.specs.Decide.Lexeme.{mark_number}
use Rattle.syntax.specs.Held.Kind.{kind_of}
use Rattle.syntax.specs.Held.Kind.{Kinds}
use Rattle.layout.proofs.Links.{link_of, links_none, links_pass, links_store, links_linked}
use Rattle.layout.proofs.link_braces.Goals as goal
use Rattle.layout.proofs.link_braces.Goals.{then-kind-eq-LBRACE, else-kind-eq-LBRACE}

pub shape_of-operands : goal.shape_of-operands
shape_of-operands c = c.loop-i.invariant.0.as_long

pub returns-then-operands-kinds : goal.returns-then-operands-kinds
unfolding Kinds
returns-then-operands-kinds c = λ ls are long few. absurd (c.if-operands-kinds.true (long ∙ sym (length-map ls kind_of) ∙ ap length are))

pub loop-i-init : goal.loop-i-init
loop-i-init c = (
  links_none c.args.kinds.now
      c.args.operands.now,
  omega arith,
)

pub bounds-operands-i : goal.bounds-operands-i
bounds-operands-i c = omega (arith, c.loop-i.invariant.0.as_long)

pub loop-i-preserved : goal.loop-i-preserved
unfolding kind_of mark_number
loop-i-preserved c =
    let q = c in
    let a = q.args in
    let ks = a.kinds.now in
    let i = q.loop-i.i in
    let low : i < length a.operands.now = omega (arith, q.if-operands-kinds.false) in
    elim c.if-kind-eq-LBRACE.branch [
      | then-kind-eq-LBRACE w ↦ let e : w.held.result ≡ link_of ks i = w.held.ensures ∙ ap (λ x. x % 65536) w.closing.ensures in (
        rw (w.operands-is, e) (links_store ks a.operands.now q.loop-i.operands i q.loop-i.invariant.0 low w.if-kind-eq-LBRACE.true),
        omega arith,
      )
      | else-kind-eq-LBRACE w ↦ (
        rw w.operands-is (links_pass ks a.operands.now q.loop-i.operands i q.loop-i.invariant.0 w.if-kind-eq-LBRACE.false),
        omega arith,
      )
    ]

pub returns : goal.returns
returns c =
    let q = c in
    let a = q.args in
    let e : q.loop-i.i ≡ length a.kinds.now = omega arith in
    λ ls are long few. links_linked ls a.kinds.now a.operands.now q.loop-i.operands are few
    (rw e at q.loop-i.invariant.0)
