-- `variables::read` meets its contract. The loop's invariant: at most 4,096 states and six variables, and whatever
-- variables are spelled there, those passed are good and held, and the tokens of the others are left (`Walk`). The
-- place grows with each variable.
use Rattle.std.proofs.Common.{List, ℕ, ◌≡◌, ◌<◌, [], length, get_or, sym, refl, ◌∙◌, arith}
use Rattle.syntax.specs.Token.{key, k_var}
use Rattle.syntax.specs.Decide.Lexeme.{keyword_number}
use Rattle.syntax.specs.Held.Kind.{kind_of}
use Rattle.meaning.specs.State.{count}
use Rattle.logic.proofs.Indices.{inside}
use Rattle.variables.proofs.Walk.{walk_start, walk_more, walk_bad, walk_end}
use Rattle.variables.proofs.read.Goals as goal

-- no variables have one state
none : count [] ≡ 1
unfolding count
none = refl

pub loop-v-init : goal.loop-v-init
loop-v-init c =
    let a = c.args in
    let l = c.no_bounds-bounds.ensures in (
      omega (arith, l.states, none),
      omega (arith, l.counted),
      walk_start a.kinds.now a.values.now a.at c.no_bounds-bounds.result l,
    )

-- `var` stands at the place, which is inside the tokens
var_there : (kinds : List ℕ) (i : ℕ) {k : ℕ} → k ≡ get_or kinds i 0 → k ≡ 33 → (get_or kinds i 0 ≡ kind_of (key k_var)) × (i < length kinds)
unfolding kind_of keyword_number
var_there kinds i held is =
    let e = sym held ∙ is in (e, inside kinds i (omega arith))

pub triple_at-v-requires : goal.triple_at-v-requires
triple_at-v-requires c = omega (arith, (var_there c.args.kinds.now c.loop-v.next c.kind_at.ensures c.loop-v-test.true).1)

pub returns-then-not-fits : goal.returns-then-not-fits
returns-then-not-fits c vs ls us held e ends few short =
    let g = c in
    let a = g.args in
    walk_bad a.kinds.now a.values.now a.at g.loop-v.bounds g.loop-v.next g.loop-v.invariant.2
    (var_there c.args.kinds.now c.loop-v.next c.kind_at.ensures c.loop-v-test.true).0 c.triple_at-v.result
    c.triple_at-v.ensures
    (c.fits.ensures.no c.if-not-fits.true) vs ls us
    (record { held = held; begins = e; ends = ends; few = few })

pub with_var-bounds-requires : goal.with_var-bounds-requires
with_var-bounds-requires c =
    record {
      good = c.fits.ensures.yes c.if-not-fits.false;
      room = (omega arith, omega arith);
    }

pub loop-v-smaller : goal.loop-v-smaller
loop-v-smaller c =
    omega (
      arith,
      (var_there c.args.kinds.now c.loop-v.next c.kind_at.ensures c.loop-v-test.true).1,
      c.triple_at-v.ensures.further,
    )

pub loop-v-preserved : goal.loop-v-preserved
loop-v-preserved c =
    let g = c in
    let a = g.args in (
      c.with_var-bounds.ensures.few,
      c.with_var-bounds.ensures.room,
      walk_more a.kinds.now a.values.now a.at g.loop-v.bounds g.loop-v.next g.loop-v.invariant.2
          (var_there c.args.kinds.now c.loop-v.next c.kind_at.ensures c.loop-v-test.true).0 c.triple_at-v.result
          c.triple_at-v.ensures c.with_var-bounds.result
          (c.fits.ensures.yes c.if-not-fits.false)
          c.with_var-bounds.ensures,
    )

pub returns : goal.returns
unfolding kind_of keyword_number
returns c vs ls us held e ends few short =
    let g = c in
    let a = g.args in
    walk_end a.kinds.now a.values.now a.at g.loop-v.bounds g.loop-v.next g.loop-v.invariant.2
    (λ q. c.loop-v-test.false (c.kind_at.ensures ∙ q)) c.weighed.result c.weighed.ensures
    vs ls us (record { held = held; begins = e; ends = ends; few = few })
