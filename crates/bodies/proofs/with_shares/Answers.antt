-- `bodies::with_shares` meets its contract: each turn stores the sum of its lane.
use Prim.Native.Nat.{ℕ, ◌+◌}
use mathlib.Core.Path.{ap, ◌∙◌}
use lib.ListN.{get_or}
use Rattle.meaning.specs.SixteenBits.{wrapped}
use Rattle.sixteen.proofs.Fill.{fill_none, fill_more, all_filled}
use Rattle.bodies.proofs.with_shares.Goals as goal

pub loop-j-preserved : goal.loop-j-preserved
loop-j-preserved c =
    fill_more c.plus.result c.loop-j.invariant c.loop-j-test.true
    (c.plus.ensures
    ∙ ap (λ (x : ℕ). wrapped (get_or c.args.sums c.loop-j.j 0 + x)) c.share_of-share.ensures)

pub loop-j-init : goal.loop-j-init
loop-j-init = λ c. fill_none 0

pub returns : goal.returns
returns = λ c. all_filled c.loop-j.invariant c.loop-j-test.false
