-- `queue::behind` meets its contract: a shift by four bits a thread.
use Prim.Native.Nat.{ℕ, ◌*◌, ◌/◌, ◌^◌}
use mathlib.Core.Path.{ap, ◌∙◌}
use native.Mathlib.Nat.{mod-eq_of_lt}
use Rattle.queue.proofs.Packing.{behind_is}
use Rattle.queue.proofs.behind.Goals as goal

pub returns : goal.returns
returns c h =
    let a = c.args in ap (λ (k : ℕ). a.order / 2 ^ (k * 4)) (mod-eq_of_lt h) ∙ behind_is a.order a.count
