use Prim.Native.Nat.{ℕ, ◌≤◌, ◌<◌}
use mathlib.Core.Path.{◌≡◌}
use mathlib.Core.Bool.{Bool, not, ◌&&◌}
use mathlib.Core.List.{List}
use lib.ListN.{length, get_or}
use Rattle.logic.specs.Tests.{bit}
use Rattle.choice.specs.Slots.{lacks}
use Rattle.choice.proofs.strengthen.Given as goal

-- a state's truth, with the chosen tries
abbrev pub Strong : List ℕ → ℕ → ℕ → ℕ → ℕ → Type 0
Strong tried chosen s old new =
    (b : Bool) → old ≡ bit b → new ≡ bit (b && not (lacks (get_or tried s 0) chosen))

abbrev pub invariant-loop-s : goal.invariant-loop-s
invariant-loop-s l =
    (l.s ≤ l.states) × (length l.kept ≡ length l.initial.kept)
    × ((u : ℕ) → u < l.s → Strong l.tried l.chosen u (get_or l.initial.kept u 0) (get_or l.kept u 0))
    × ((u : ℕ) → l.s ≤ u → get_or l.kept u 0 ≡ get_or l.initial.kept u 0)
