-- `passes::find_past_limit` answers `past_limit`: at each turn `past_limit` of the whole file is `past_limit` of the
-- tokens that are left, with the counts so far.
use native.Mathlib.Omega.{arith}
use mathlib.Core.Path.{sym, ◌∙◌}
use Rattle.syntax.specs.Token.{k_var, k_method, k_waituntil, k_try}
use Rattle.syntax.specs.Decide.Lexeme.{keyword_number}
use Rattle.syntax.specs.Held.Kind.{kind_of}
use Rattle.syntax.proofs.ByKind.{kind_key}
use Rattle.passes.proofs.ByIndex.{token_at, kind_at, places_long, tally_up, counted, offends, goes_on, ends, limiting}
use Rattle.passes.proofs.find_past_limit.Goals as goal

pub returns-then-places-kinds : goal.returns-then-places-kinds
returns-then-places-kinds c file ts values h = absurd (c.if-places-kinds.true (places_long h))

pub returns-then-exceeds : goal.returns-then-exceeds
returns-then-exceeds c file ts values h =
    let a = c.loop-i in
    let t = c.exceeds.ensures (token_at ts a.i).lexeme (kind_at h a.i) in
    offends limiting h (0, 0, 0, 0) (a.vars, a.methods, a.regions, a.tries) a.i (a.invariant.4 file ts values h)
    (omega arith) (sym t ∙ c.if-exceeds.true)

pub loop-i-preserved : goal.loop-i-preserved
unfolding kind_of keyword_number
loop-i-preserved c = (
  tally_up _ _ _ _ (counted _ _ _ c.from-vars.ensures) (omega arith),
  tally_up _ _ _ _ (counted _ _ _ c.from-methods.ensures) (omega arith),
  tally_up _ _ _ _ (counted _ _ _ c.from-regions.ensures) (omega arith),
  tally_up _ _ _ _ (counted _ _ _ c.from-tries.ensures) (omega arith),
  λ file ts values h.
      let a = c.loop-i in
      let l = (token_at ts a.i).lexeme in
      let k = kind_at h a.i in
      let t = c.exceeds.ensures l k in
      rw (
        (counted _ _ _ c.from-vars.ensures),
        (counted _ _ _ c.from-methods.ensures),
        (counted _ _ _ c.from-regions.ensures),
        (counted _ _ _ c.from-tries.ensures),
        k,
        ← kind_key k_var,
        ← kind_key k_method,
        ← kind_key k_waituntil,
        ← kind_key k_try,
      )
      (goes_on limiting h (0, 0, 0, 0) (a.vars, a.methods, a.regions, a.tries) a.i (a.invariant.4 file ts values h)
      (omega arith) (sym t ∙ c.if-exceeds.false)),
)

pub returns : goal.returns
returns c file ts values h =
    let a = c.loop-i in
    ends limiting h (0, 0, 0, 0) (a.vars, a.methods, a.regions, a.tries) a.i (a.invariant.4 file ts values h)
    (omega arith)
