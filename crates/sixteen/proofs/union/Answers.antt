-- `sixteen::union` meets its contract: outside what is outside both.
use mathlib.Core.Path.{◌≡◌, refl}
use mathlib.Core.Bool.{Bool, true, false, not, ◌&&◌, ◌||◌}
use lib.ListN.{get_or}
use Rattle.sixteen.proofs.union.Goals as goal

either : (a b : Bool) → not (not a && not b) ≡ a || b
either true b = refl
either false true = refl
either false false = refl

pub returns : goal.returns
returns c = λ j l.
    let args = c.args in
    rw (c.other-2.ensures j l, c.unless.ensures j l, c.other.ensures j l)
    (either (get_or args.a j false) (get_or args.b j false))
