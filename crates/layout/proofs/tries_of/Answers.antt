-- `layout::tries_of` meets its contract. The loop's invariant: the tries passed stand where they are held, and those
-- left stand ahead.
use Prim.Native.Nat.{◌<◌}
use native.Mathlib.Omega.{arith}
use mathlib.Core.Path.{◌≡◌, refl, sym, ◌∙◌}
use lib.ListN.{length, get_or, length-set}
use Rattle.syntax.specs.Token.{key, k_try}
use Rattle.syntax.specs.Decide.Lexeme.{keyword_number}
use Rattle.syntax.specs.Held.Kind.{kind_of, no_kind}
use Rattle.layout.specs.Places.{behind_at}
use Rattle.layout.proofs.EachTry.{tries_start, left_at_try, tries_turn, tries_over}
use Rattle.layout.proofs.Methods.{kind_within}
use Rattle.layout.proofs.Whole.{keep_below}
use Rattle.layout.proofs.tries_of.Goals as goal
use Rattle.layout.proofs.tries_of.Goals.{In-loop-tries}

pub returns-then-kinds-keep : goal.returns-then-kinds-keep
returns-then-kinds-keep c =
    let a = c.args in
    λ m ls are small few is. absurd (omega (arith, c.if-kinds-keep.true, keep_below m ls a.kinds.now are a.keep is))

pub loop-tries-init : goal.loop-tries-init
loop-tries-init c =
    let a = c.args in (
      λ m ls are small is.
          tries_start m ls a.kinds.now are a.keep c.behind.result _ is c.behind.ensures.0,
      refl,
      c.behind.ensures.1,
    )

-- in a turn `try` stands there
tries : (q : In-loop-tries)
    → get_or q.args.kinds.now q.loop-tries.tries.next no_kind
    ≡ kind_of (key k_try)
unfolding kind_of keyword_number
tries q = sym q.kind_at.ensures ∙ q.loop-tries-test.true

inside : (q : In-loop-tries)
    → q.loop-tries.tries.next < length q.args.kinds.now
inside q =
    kind_within q.args.kinds.now q.loop-tries.tries.next
    (key k_try) (tries q)

pub returns-then-tries-ge-TRIES : goal.returns-then-tries-ge-TRIES
returns-then-tries-ge-TRIES c =
    let q = c in
    let a = q.args in
    λ m ls are small few is.
    let left = left_at_try m ls a.kinds.now are q.loop-tries.tries.ats q.loop-tries.tries.count q.loop-tries.tries.next
    (q.loop-tries.invariant.0 m ls are small is) (tries (goal.at.returns-then-tries-ge-TRIES c).In-loop-tries) in
    absurd (omega (arith, c.if-tries-ge-TRIES.true, left))

pub overflow_add-tries : goal.overflow_add-tries
overflow_add-tries c = omega (arith, inside (goal.at.overflow_add-tries c).In-loop-tries)

pub behind-requires-in-loop-tries : goal.behind-requires-in-loop-tries
behind-requires-in-loop-tries c = omega (arith, inside (goal.at.behind-requires-in-loop-tries c).In-loop-tries)

pub loop-tries-smaller : goal.loop-tries-smaller
unfolding behind_at
loop-tries-smaller c = omega (arith, inside (goal.at.loop-tries-smaller c).In-loop-tries, c.behind-in-loop-tries.ensures.0)

pub loop-tries-preserved : goal.loop-tries-preserved
loop-tries-preserved c =
    let q = c in
    let a = q.args in
    let l = q.loop-tries in let t = l.tries in (
      λ m ls are small is.
          tries_turn m ls a.kinds.now are t.ats t.count t.next (l.invariant.0 m ls are small is)
          c.held.result c.behind-in-loop-tries.result (omega (arith, l.invariant.1)) small c.held.ensures
          c.behind-in-loop-tries.ensures.0 (tries (goal.at.loop-tries-preserved c).In-loop-tries),
      length-set t.ats t.count c.held.result ∙ l.invariant.1,
      c.behind-in-loop-tries.ensures.1,
    )

pub returns : goal.returns
unfolding kind_of keyword_number
returns c =
    let q = c in
    let a = q.args in
    λ m ls are small few is.
    tries_over m ls a.kinds.now are q.loop-tries.tries.ats q.loop-tries.tries.count q.loop-tries.tries.next (q.loop-tries.invariant.0 m ls are small is)
    (λ e. c.loop-tries-test.false (c.kind_at.ensures ∙ e))
