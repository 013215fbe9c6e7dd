-- `layout::lay_out` meets its contract. The loop's invariant: the regions held and those of the methods ahead make up
-- the file's.
use Prim.Native.Nat.{◌<◌}
use native.Mathlib.Omega.{arith}
use mathlib.Core.Path.{◌≡◌, sym, ◌∙◌}
use lib.ListN.{length, get_or}
use Rattle.syntax.specs.Token.{lexemes, key, k_method}
use Rattle.syntax.specs.Decide.Lexeme.{keyword_number}
use Rattle.syntax.specs.Tree.{all}
use Rattle.syntax.specs.Held.Kind.{kind_of, no_kind}
use Rattle.layout.proofs.Methods.{kind_within, all_start, all_turn, all_over}
use Rattle.layout.proofs.Whole.{laid, holds_none, keep_below, first_below, kinds_held, keep_at}
use Rattle.layout.proofs.Whole.{words_sized, few_flagged}
use Rattle.layout.proofs.lay_out.Goals as goal
use Rattle.layout.proofs.lay_out.Goals.{In-loop-tokens}

-- a file of the grammar passes the tests
pub returns-then-kinds-keep : goal.returns-then-kinds-keep
returns-then-kinds-keep c =
    let a = c.args in
    λ m ts w e few small k f.
    let keep = keep_below m (lexemes ts) a.kinds.now (kinds_held w) a.keep k in
    let first = first_below m (lexemes ts) a.kinds.now (kinds_held w) a.first f in
    let sized = words_sized w in
    absurd (omega (arith, c.then-kinds-keep.either, keep, first, sized.0, sized.1))

pub loop-tokens-init : goal.loop-tokens-init
loop-tokens-init c =
    let a = c.args in
    let l = c.empty-2 in (
      λ m ts w few small f.
          all_start (lexemes ts) (all m.methods) l.result a.first (holds_none l.ensures.1 l.ensures.2)
          f,
      l.ensures.3,
      l.ensures.0,
    )

-- in a turn `method` stands there
begins : (q : In-loop-tokens) → get_or q.args.kinds.now q.loop-tokens.spot.at no_kind ≡ kind_of (key k_method)
unfolding kind_of keyword_number
begins q = sym q.kind_at.ensures ∙ q.loop-tokens-test.true

inside : (q : In-loop-tokens) → q.loop-tokens.spot.at < length q.args.kinds.now
inside q = kind_within q.args.kinds.now q.loop-tokens.spot.at (key k_method) (begins q)

pub overflow_add-spot : goal.overflow_add-spot
overflow_add-spot c = omega (arith, inside (goal.at.overflow_add-spot c).In-loop-tokens)

pub add_method-spot-requires : goal.add_method-spot-requires
add_method-spot-requires c =
    let l = c in (
      omega (arith, inside (goal.at.add_method-spot-requires c).In-loop-tokens),
      c.loop-tokens.invariant.1,
    )

pub overflow_add-spot-in-loop-tokens : goal.overflow_add-spot-in-loop-tokens
overflow_add-spot-in-loop-tokens c =
    let l = c in
    omega (
      arith,
      c.add_method-spot.ensures.0.within,
      l.well_formed.1.0,
    )

pub loop-tokens-smaller : goal.loop-tokens-smaller
loop-tokens-smaller c = omega (arith, inside (goal.at.loop-tokens-smaller c).In-loop-tokens, c.add_method-spot.ensures.0.forth)

pub loop-tokens-preserved : goal.loop-tokens-preserved
loop-tokens-preserved c =
    let q = c in
    let a = q.args in
    let r = c.add_method-spot in (
      λ m ts w few small f.
          all_turn w small (all m.methods) (few_flagged m few) q.loop-tokens.spot.layout q.loop-tokens.spot.at r.result
          (q.loop-tokens.invariant.0 m ts w few small f) (begins (goal.at.loop-tokens-preserved c).In-loop-tokens) r.ensures.1,
      r.ensures.0.room,
      r.ensures.0.keep_kept ∙ q.loop-tokens.invariant.2,
    )

pub returns : goal.returns
unfolding kind_of keyword_number
returns c =
    let q = c in
    let a = q.args in
    λ m ts w e few small k f.
    let held = all_over w small (all m.methods) (few_flagged m few) q.loop-tokens.spot.layout q.loop-tokens.spot.at
    (q.loop-tokens.invariant.0 m ts w few small f) (λ h. c.loop-tokens-test.false (c.kind_at.ensures ∙ h)) in
    let keep = keep_at m (lexemes ts) a.keep k in
    laid m (lexemes ts) q.loop-tokens.spot.layout held keep.0 (rw q.loop-tokens.invariant.2 keep.1)
