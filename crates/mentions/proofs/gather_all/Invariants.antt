use Prim.Native.Nat.{ℕ, ◌≤◌, ◌<◌}
use mathlib.Core.Path.{◌≡◌}
use lib.ListN.{length, get_or}
use Rattle.mentions.specs.Gathered.{only_left, Gathers}
use Rattle.mentions.proofs.gather_all.Given as goal

abbrev pub invariant-loop-i : goal.invariant-loop-i
invariant-loop-i l =
    (l.i ≤ 16) × (length l.all ≡ 16)
    × ((u : ℕ) → u < l.i → u < l.count → Gathers l.kinds (only_left l.which) l.values l.ends.opener l.ends.closer (get_or l.ats u 0) (get_or l.all u 0))
