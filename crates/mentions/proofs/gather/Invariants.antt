use Prim.Native.Nat.{ℕ, ◌-◌, ◌≤◌}
use mathlib.Core.Path.{◌≡◌}
use Rattle.sets.specs.Set.{member}
use Rattle.mentions.specs.Gathered.{only_left, gathered}
use Rattle.mentions.proofs.gather.Given as goal

abbrev pub invariant-loop-i : goal.invariant-loop-i
invariant-loop-i l =
    (l.from ≤ l.i) × (l.i - l.from ≤ l.to - l.from) × ((k : ℕ) → member l.set k ≡ gathered l.kinds (only_left l.which) l.values l.from (l.i - l.from) k)
