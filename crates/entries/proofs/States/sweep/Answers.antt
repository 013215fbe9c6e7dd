-- `entries::States::sweep` meets its contract: no guard touched, or a sweep of which the touched ones are taken.
use native.Mathlib.Omega.{arith}
use mathlib.Core.Path.{◌≡◌}
use Rattle.logic.proofs.Bools.{split_eq}
use Rattle.entries.proofs.Sweeps.{found_still, found_swept}
use Rattle.entries.proofs.States.sweep.Goals as goal

pub returns : goal.returns
returns c =
    let a = c.args in
    split_eq a.touched 0 (λ (e : a.touched ≡ 0). found_still _ _ _ _ _ _ _ _ e)
    (λ (h : a.touched ≡ 0 → ⊥).
    let all = c.needed.ensures.2 (omega arith) in
    found_swept _ _ _ _ _ _ _ _ (rw all at c.sweep_first-sweep.ensures))
