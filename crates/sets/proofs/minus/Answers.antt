-- `sets::minus` meets its contract: a member of the one that is no member of both.
use mathlib.Core.Path.{◌≡◌, refl, ap, ◌∙◌}
use mathlib.Core.Bool.{Bool, true, false, not, ◌&&◌, xor}
use lib.Bits.{bit_and}
use Rattle.sets.specs.Set.{member}
use Rattle.sets.proofs.SetLaws.{member_and, member_xor}
use Rattle.sets.proofs.minus.Goals as goal

without : (x y : Bool) → xor x (x && y) ≡ x && not y
unfolding xor
without true true = refl
without true false = refl
without false y = refl

pub returns : goal.returns
returns c u =
    let a = c.args.a in
    let b = c.args.b in
    member_xor a (bit_and a b) u ∙ ap (xor (member a u)) (member_and a b u) ∙ without (member a u) (member b u)
