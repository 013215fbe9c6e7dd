-- `passes::find_crowded` answers `crowded`: at each turn `crowded` of the whole file is `crowded` of the tokens that
-- are left, with the counts so far.
use native.Mathlib.Omega.{arith}
use mathlib.Core.Path.{sym, ◌∙◌}
use Rattle.syntax.specs.Decide.Lexeme.{mark_number}
use Rattle.syntax.specs.Held.Kind.{kind_of}
use Rattle.passes.proofs.ByIndex.{token_at, kind_at, places_long, tally_up, counted, offends, goes_on, ends, crowding}
use Rattle.passes.proofs.ByIndex.{kind_opens, kind_closes}
use Rattle.passes.proofs.find_crowded.Goals as goal

pub returns-then-places-kinds : goal.returns-then-places-kinds
returns-then-places-kinds c file ts values h = absurd (c.if-places-kinds.true (places_long h))

pub returns-then-crowds : goal.returns-then-crowds
returns-then-crowds c file ts values h =
    let a = c.loop-passed in
    let t = c.crowds.ensures (token_at ts a.passed).lexeme (kind_at h a.passed) in
    offends crowding h (0, 0, 0) (a.passed, a.opened, a.closed) a.passed (a.invariant.2 file ts values h) (omega arith)
    (sym t ∙ c.if-crowds.true)

pub loop-passed-preserved : goal.loop-passed-preserved
unfolding kind_of mark_number
loop-passed-preserved c = (
  tally_up _ _ _ _ (counted _ _ _ c.from-opened.ensures) (omega arith),
  tally_up _ _ _ _ (counted _ _ _ c.from-closed.ensures) (omega arith),
  λ file ts values h.
      let a = c.loop-passed in
      let l = (token_at ts a.passed).lexeme in
      let k = kind_at h a.passed in
      let t = c.crowds.ensures l k in
      rw (
        (counted _ _ _ c.from-opened.ensures),
        (counted _ _ _ c.from-closed.ensures),
        c.either.ensures,
        c.either-in-loop-passed.ensures,
        k,
        ← kind_opens,
        ← kind_closes,
      )
      (goes_on crowding h (0, 0, 0) (a.passed, a.opened, a.closed) a.passed (a.invariant.2 file ts values h) (omega arith)
      (sym t ∙ c.if-crowds.false)),
)

pub returns : goal.returns
returns c file ts values h =
    let a = c.loop-passed in
    ends crowding h (0, 0, 0) (a.passed, a.opened, a.closed) a.passed (a.invariant.2 file ts values h) (omega arith)
