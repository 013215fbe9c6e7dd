-- The monitor that lent slices give by look-ups alone, each index taken by a remainder: total, and the held monitor's
-- where that is asked.
use Rattle.std.specs.Prelude.{ℕ, ◌+◌, ◌*◌, ◌%◌, Bool, false, List, [], get_or, eqb}
use Rattle.machine.specs.Limits.{most_regions, most_states}
use Rattle.sets.specs.Set.{member}
use Rattle.machine.specs.Monitor.{Place, Monitor}
use Rattle.machine.specs.Held.{follows_by}

unfoldable pub guard_at : List ℕ → ℕ → ℕ
guard_at gs r = get_or gs (r % most_regions) 0 % most_regions

unfoldable pub holds_at : List ℕ → ℕ → ℕ → Bool
holds_at hs g s = member (get_or hs (s % most_states) 0) g

unfoldable pub after_at : List ℕ → ℕ → ℕ → ℕ
after_at as' r s = get_or as' (r % most_regions * most_states + s % most_states) 0

unfoldable pub begins_at : List ℕ → ℕ → Bool
begins_at bs r = eqb (get_or bs (r % most_regions) 0) 1

unfoldable pub follows_at : List ℕ → ℕ → Place
follows_at os r = follows_by (r % most_regions) (get_or os (r % most_regions) 0)

abbrev pub slices : List ℕ → List ℕ → List ℕ → List ℕ → List ℕ → ℕ → Monitor
slices hs as' gs bs os n = record {
  states = 0;
  regions = n;
  guards = 0;
  guard_of = guard_at gs;
  holds = holds_at hs;
  after = after_at as';
  kept = λ s. false;
  begins = begins_at bs;
  follows = follows_at os;
}

-- the guards alone: what some look-ups ask of a monitor
abbrev pub guards_only : List ℕ → Monitor
guards_only gs = slices [] [] gs [] [] 0
