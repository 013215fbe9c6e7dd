use Prim.Native.Nat.{◌≤◌, ◌*◌}
use mathlib.Core.Path.{◌≡◌}
use Rattle.allowed.specs.Offered.{sum_each, offered_at}
use Rattle.allowed.proofs.Offers.count.Given as goal

abbrev pub invariant-loop-t : goal.invariant-loop-t
invariant-loop-t l =
    (l.sum ≡ sum_each l.t (offered_at l.self.each l.self.methods.count l.self.fronts)) × (l.t ≤ l.self.n) × (l.sum ≤ 255 * l.t)
