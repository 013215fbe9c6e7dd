-- What the code works out from the slices alone: the promises of the inner functions. `proofs/Monitors.antt` ties these
-- to a monitor that the slices hold.
use Rattle.std.specs.Prelude.{ℕ, ◌+◌, ◌*◌, ◌%◌, ◌<◌, ◌≤◌, ◌≡◌, Bool, true, false, not, ◌&&◌, ◌||◌, List, get_or, eqb}
use Rattle.machine.specs.Limits.{most_regions, most_states}
use Rattle.sets.specs.Set.{member}
use Rattle.logic.specs.Tests.{any}
use Rattle.machine.specs.Algorithm1.{Entry, none, entry}
use Rattle.machine.specs.Held.{code_of}
use Rattle.entries.specs.declared.Sweep.{Sweep}

-- a body whose guard is given may run from state s: the kept condition and the guard hold
unfoldable pub runs_at : (kept holds : List ℕ) (guard s : ℕ) → Bool
runs_at kept holds guard s = eqb (get_or kept s 0) 1 && member (get_or holds s 0) guard

-- from one of the first n states, region r's body leads to a state such that a test of the two states' sets of guards
-- passes
unfoldable pub some_at : (kept holds after : List ℕ) (n guard r : ℕ) → (ℕ → ℕ → Bool) → Bool
some_at kept holds after n guard r test =
    any n
    (λ s. runs_at kept holds guard s && test (get_or holds s 0)
    (get_or holds (get_or after (r * most_states + s) 0 % most_states) 0))

-- guard g becomes true; it holds neither before nor after; it holds after
unfoldable pub rises : ℕ → ℕ → ℕ → Bool
rises g x y = not (member x g) && member y g

unfoldable pub neither : ℕ → ℕ → ℕ → Bool
neither g x y = not (member x g || member y g)

unfoldable pub holds_then : ℕ → ℕ → ℕ → Bool
holds_then g x y = member y g

-- what a sweep of the first n states says
pub record Swept (kept holds after : List ℕ) (n guard r : ℕ) (w : Sweep) : Type 0 where
  pub by_raised : (g : ℕ) → member w.raised g ≡ some_at kept holds after n guard r (rises g)
  pub by_covered : (g : ℕ) → g < most_regions → member w.covered g
      ≡ not (some_at kept holds after n guard r (neither g))
  pub by_left : (g : ℕ) → member w.left g ≡ some_at kept holds after n guard r (holds_then g)

-- what is found of a region that touches the guards of a set: what its body does to these
pub record Found (kept holds after : List ℕ) (states guard r touched : ℕ) (w : Sweep) : Type 0 where
  pub by_raised : (g : ℕ) → member w.raised g
      ≡ member touched g && some_at kept holds after states guard r (rises g)
  pub by_covered : (g : ℕ) → g < most_regions → member touched g ≡ true → member w.covered g
      ≡ not (some_at kept holds after states guard r (neither g))
  pub by_left : (g : ℕ) → member touched g ≡ true → member w.left g
      ≡ some_at kept holds after states guard r (holds_then g)

-- a region does not touch its guard, or leaves it true from some state
unfoldable pub leaves_at : (kept holds after : List ℕ) (states guard r touched : ℕ) → Bool
leaves_at kept holds after states guard r touched =
    not (member touched guard) || some_at kept holds after states guard r (holds_then guard)

-- an entry by whether it stands, is unconditional and is a broadcast
unfoldable pub made : Bool → Bool → Bool → Entry
made false a b = none
made true a b = entry a b

-- that of a region's sweep and the set of guards whose entries are broadcasts, as a number
unfoldable pub swept_code : (w : Sweep) (wide g : ℕ) → ℕ
swept_code w wide g = code_of (made (member w.raised g) (member w.covered g) (member wide g))

module _ (kept holds after guard_of touched : List ℕ) (states : ℕ) where
  -- one of the first n regions has guard g, and does not touch it or leaves it true
  unfoldable pub wide_at : (n g : ℕ) → Bool
  wide_at n g =
      any n (λ w. eqb g (get_or guard_of w 0 % most_regions) && leaves_at kept holds after states
      (get_or guard_of w 0 % most_regions) w (get_or touched w 0))

  -- the entry of a region and a guard, of so many regions, as a number: none where the region does not touch the guard
  unfoldable pub code_at : (regions r g : ℕ) → ℕ
  code_at regions r g =
      let some = some_at kept holds after states (get_or guard_of r 0 % most_regions) r in
      code_of (made (member (get_or touched r 0) g && some (rises g)) (not (some (neither g))) (wide_at regions g))

-- counts for which the slices have room
pub record Counts (states regions guards : ℕ) : Type 0 where
  pub few_states : states ≤ most_states
  pub few_regions : regions ≤ most_regions
  pub few_guards : guards ≤ most_regions

module _ (kept holds after guard_of touched : List ℕ) (states regions guards : ℕ) (before entries : List ℕ) where
  -- the entries of so many regions and guards stand in a slice at region * most_regions + guard, and every other number
  -- is as it was
  pub record Filled : Type 0 where
    pub standing : (r g : ℕ) → r < regions → g < guards
        → get_or entries (r * most_regions + g) 0 ≡ code_at kept holds after guard_of touched states regions r g
    pub others : (r g : ℕ) → g < most_regions → (r < regions → g < guards → ⊥)
        → get_or entries (r * most_regions + g) 0 ≡ get_or before (r * most_regions + g) 0

  -- what filling does to a lent slice: where a count is too large, nothing
  pub record FillsEntries : Type 0 where
    pub filled : Counts states regions guards → Filled
    pub refused : (Counts states regions guards → ⊥) → entries ≡ before
