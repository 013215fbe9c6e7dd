-- `choice::misses` meets its contract: a difference is not 0 exactly where it has a member.
use Prim.Native.Nat.{◌^◌, ◌<◌}
use native.Mathlib.Omega.{arith}
use mathlib.Core.Path.{sym, ap, ◌∙◌}
use mathlib.Core.Bool.{not}
use lib.Dec.{eqb}
use borrow.Author.Tests.{eqb-true, eqb-false}
use Rattle.logic.proofs.Bools.{split}
use Rattle.choice.proofs.Members.{none_left, some_left}
use Rattle.choice.proofs.misses.Goals as goal

pub returns : goal.returns
returns c =
    let a = c.args in
    let rest = c.minus.result in
    let fits : rest < 2 ^ 16 = omega arith in
    split (eqb rest 0)
    (λ h. ap not h ∙ sym (none_left a.set a.other rest fits c.minus.ensures (eqb-true rest 0 h)))
    (λ h. ap not h ∙ sym (some_left a.set a.other rest fits c.minus.ensures (eqb-false rest 0 h)))
