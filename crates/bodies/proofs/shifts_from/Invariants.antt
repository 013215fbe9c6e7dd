use Prim.Native.Nat.{ℕ, ◌*◌, ◌≤◌, ◌<◌}
use mathlib.Core.Path.{◌≡◌}
use lib.ListN.{length, get_or}
use Rattle.syntax.specs.Tree.{Monitor}
use Rattle.meaning.specs.Model.{vars, region}
use Rattle.lanes.specs.Promises.{Sixteen, Values, SomeApart}
use Rattle.bodies.specs.Shifts.{Filling, Serves, AllServe}
use Rattle.bodies.proofs.shifts_from.Given as goal

abbrev pub invariant-loop-r : goal.invariant-loop-r
invariant-loop-r l =
    (l.r ≤ l.count) × (length l.shifts ≡ length l.initial.shifts) × ((n : ℕ) → l.r * 16 ≤ n → get_or l.shifts n 0 ≡ get_or l.initial.shifts n 0)
    × ((m : Monitor) → Filling m l.kinds l.values l.bounds l.ats l.named l.count → Sixteen (vars m) (Values (vars m) l.lanes) l.s
    → AllServe m (λ i. SomeApart (get_or l.named i 0) l.changed) l.initial.shifts l.s
    → (i : ℕ) → i < l.r → Serves (vars m) (region m i) l.shifts i l.s)
