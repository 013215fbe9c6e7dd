use Prim.Native.Nat.{ℕ, ◌+◌, ◌≤◌, ◌<◌}
use mathlib.Core.Path.{◌≡◌}
use lib.ListN.{length, get_or}
use Rattle.logic.specs.Tests.{bit}
use Rattle.sets.specs.Set.{member}
use Rattle.truths.proofs.put_bits.Given as goal

abbrev pub invariant-loop-j : goal.invariant-loop-j
invariant-loop-j l =
    (l.j ≤ 16) × (length l.row ≡ length l.initial.row) × ((k : ℕ) → k < l.j → get_or l.row (l.from + k) 0 ≡ bit (member l.known k))
    × ((n : ℕ) → n < l.from → get_or l.row n 0 ≡ get_or l.initial.row n 0)
