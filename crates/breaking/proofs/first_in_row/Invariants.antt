use Prim.Native.Nat.{ℕ, ◌<◌}
use mathlib.Core.Path.{◌≡◌}
use mathlib.Core.Bool.{false}
use lib.ListN.{get_or}
use Rattle.breaking.specs.Broken.{breaks_by}
use Rattle.breaking.proofs.first_in_row.Given as goal

abbrev pub invariant-loop-s : goal.invariant-loop-s
invariant-loop-s l = (k : ℕ) → k < l.s → breaks_by l.kept l.holds l.guard k (get_or l.row k 0) ≡ false
