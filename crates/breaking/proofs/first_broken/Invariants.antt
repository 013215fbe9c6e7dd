use Prim.Native.Nat.{ℕ, ◌+◌, ◌*◌, ◌<◌}
use mathlib.Core.Path.{◌≡◌}
use mathlib.Core.Bool.{false}
use mathlib.Core.List.{List}
use lib.ListN.{get_or}
use Rattle.breaking.specs.Broken.{breaks_by}
use Rattle.breaking.proofs.first_broken.Given as goal

-- region j breaks at no state
abbrev pub Quiet : List ℕ → List ℕ → List ℕ → List ℕ → ℕ → ℕ → Type 0
Quiet kept holds after numbers states j =
    (s : ℕ) → s < states → s < 4096 → breaks_by kept holds (get_or numbers j 0) s (get_or after (j * 4096 + s) 0) ≡ false

abbrev pub invariant-loop-r : goal.invariant-loop-r
invariant-loop-r l = (j : ℕ) → j < l.r → Quiet l.kept l.holds l.after l.guard_of l.states j
