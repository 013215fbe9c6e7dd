-- `allowed::frame_at` meets its contract: the flag is the truth of the region's guard.
use mathlib.Core.Path.{refl, ap, ◌∙◌}
use Prim.Native.Nat.{ℕ}
use Rattle.waiters.specs.Slices.{holds_at}
use Rattle.allowed.proofs.frame_at.Goals as goal

pub returns : goal.returns
returns c =
    let a = c.args in
    (refl, refl, c.holds_at.ensures ∙ ap (λ (k : ℕ). holds_at a.holds.now k a.state) c.guard_at.ensures)
