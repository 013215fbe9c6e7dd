use Prim.Native.Nat.{ℕ, ◌+◌, ◌*◌, ◌%◌, ◌<◌}
use mathlib.Core.Path.{◌≡◌}
use lib.ListN.{length, get_or}
use Rattle.sets.specs.Set.{member}
use Rattle.entries.specs.Slices.{Found, wide_at, code_at}
use Rattle.entries.specs.declared.Sweep.{Sweep}
use Rattle.entries.proofs.fill_regions.Given as goal

-- an element that is not looked at
abbrev pub nothing : Sweep
nothing = record { raised = 0; covered = 0; left = 0 }

abbrev pub invariant-loop-r : goal.invariant-loop-r
invariant-loop-r l =
    (length l.sweeps ≡ 16)
    × ((k : ℕ) → k < l.r
    → Found l.states.kept.now l.states.holds.now l.states.after.now l.states.count (get_or l.guard_of k 0 % 16) k (get_or l.touched k 0) (get_or l.sweeps k nothing))
    × ((g : ℕ) → member l.wide g ≡ wide_at l.states.kept.now l.states.holds.now l.states.after.now l.guard_of l.touched l.states.count l.r g)

abbrev pub invariant-loop-r-2 : goal.invariant-loop-r-2
invariant-loop-r-2 l =
    (length l.entries ≡ 256)
    × ((k : ℕ) → k < l.r → (g : ℕ) → g < l.guards
    → get_or l.entries (k * 16 + g) 0 ≡ code_at l.states.kept.now l.states.holds.now l.states.after.now l.guard_of l.touched l.states.count l.regions k g)
    × ((k g : ℕ) → g < 16 → (k < l.regions → g < l.guards → ⊥) → get_or l.entries (k * 16 + g) 0 ≡ get_or l.initial.entries (k * 16 + g) 0)
