-- `variables::share_of` meets its contract: a product in sixteen bits.
use Rattle.std.proofs.Common.{ℕ, ◌*◌, ap, ◌∙◌}
use Rattle.meaning.specs.SixteenBits.{wrapped, share}
use Rattle.variables.proofs.share_of.Goals as goal

pub returns : goal.returns
unfolding share
returns c =
    c.times.ensures ∙ ap (λ (x : ℕ). wrapped (x * c.args.weight)) c.above.ensures
