-- `entries::Sweep::fill` meets its contract. The loop's invariant: the entries of the guards passed are in place, and
-- all others are as they were.
use Prim.Native.Nat.{◌+◌, ◌*◌}
use mathlib.Core.Path.{◌∙◌}
use native.Mathlib.Omega.{arith}
use borrow.Author.Count.{below_more}
use lib.ListN.{length-set}
use lib.Seq.{get_or-set_same, get_or-set_other}
use Rattle.entries.specs.Slices.{swept_code}
use Rattle.entries.proofs.Sweep.fill.Goals as goal

pub loop-g-preserved : goal.loop-g-preserved
unfolding swept_code
loop-g-preserved c =
    let r = c.args.r in
    let at = r * 16 + c.loop-g.g in
    let es = c.loop-g.entries in
    let v = c.code.result in (
      length-set es at v ∙ c.loop-g.invariant.0,
      below_more _ _ (λ k h. get_or-set_other es at (r * 16 + k) v 0 (λ e. omega arith) ∙ c.loop-g.invariant.1 k h)
          (get_or-set_same es at v 0 (omega arith) ∙ c.code.ensures
          ∙ rw (c.has.ensures, c.has-in-loop-g.ensures, c.has-in-loop-g-2.ensures)),
      λ p k h other.
          get_or-set_other es at (p * 16 + k) v 0 (λ e. other (omega arith) (omega arith)) ∙ c.loop-g.invariant.2 p k h other,
    )
