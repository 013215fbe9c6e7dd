use Prim.Native.Nat.{ℕ, ◌+◌, ◌*◌, ◌<◌}
use mathlib.Core.Path.{◌≡◌}
use lib.ListN.{length, get_or}
use Rattle.entries.specs.Slices.{swept_code}
use Rattle.entries.proofs.Sweep.fill.Given as goal

abbrev pub invariant-loop-g : goal.invariant-loop-g
invariant-loop-g l =
    (length l.entries ≡ 256)
    × ((k : ℕ) → k < l.g → get_or l.entries (l.r * 16 + k) 0 ≡ swept_code l.self l.wide k)
    × ((q k : ℕ) → k < 16 → (q ≡ l.r → k < l.guards → ⊥) → get_or l.entries (q * 16 + k) 0 ≡ get_or l.initial.entries (q * 16 + k) 0)
