-- `mentions::meets` meets its contract: the set of what both have below the count is 0 where it has no member.
use native.Mathlib.Omega.{arith}
use mathlib.Core.Path.{ap, ◌∙◌}
use mathlib.Core.Bool.{Bool, ◌&&◌}
use lib.Dec.{ltb}
use Rattle.mentions.specs.Gathered.{meet_below}
use Rattle.mentions.proofs.Growing.{some_member}
use Rattle.mentions.proofs.meets.Goals as goal

pub returns : goal.returns
unfolding meet_below
returns c =
    some_member c.below.result _ (omega (arith, c.below.type_inv)) (λ k h. c.below.ensures k h
    ∙ ap (λ (b : Bool). b && ltb k c.args.variables) (c.both.ensures k))
