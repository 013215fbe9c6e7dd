use Prim.Native.Nat.{ℕ, ◌+◌, ◌*◌, ◌≤◌, ◌<◌}
use mathlib.Core.Path.{◌≡◌}
use lib.ListN.{length, get_or}
use Rattle.lanes.proofs.put_values.Given as goal

abbrev pub invariant-loop-k : goal.invariant-loop-k
invariant-loop-k l =
    (l.k ≤ 6) × (length l.all ≡ length l.initial.all) × ((i : ℕ) → i < l.k → (n : ℕ) → n ≡ l.at + i * 16
    → get_or l.all n 0 ≡ get_or l.values i 0)
    × ((n : ℕ) → ((i : ℕ) → i < l.k → n ≡ l.at + i * 16 → ⊥) → get_or l.all n 0 ≡ get_or l.initial.all n 0)
