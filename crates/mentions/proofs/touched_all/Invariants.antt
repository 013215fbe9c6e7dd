use Prim.Native.Nat.{ℕ, ◌≤◌, ◌<◌}
use mathlib.Core.Path.{◌≡◌}
use lib.ListN.{length, get_or}
use Rattle.mentions.specs.Gathered.{Touches}
use Rattle.mentions.proofs.touched_all.Given as goal

abbrev pub invariant-loop-q : goal.invariant-loop-q
invariant-loop-q l =
    (l.q ≤ 16) × (length l.all ≡ 16)
    × ((u : ℕ) → u < l.q → Touches l.guards l.variables l.named (get_or l.assigned u 0) (get_or l.all u 0))
