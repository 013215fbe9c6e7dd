-- What the code says of one try from the slices alone: whether it stands and what broke it, state by state, region by
-- region, in one pass. `proofs/` ties it to the choice of a file.
use Rattle.std.specs.Prelude.{ℕ, zero, suc, ◌+◌, ◌*◌, Bool, true, false, not, ◌&&◌, List, get_or, eqb, ltb}
use Rattle.syntax.specs.Limits.{most_tries}
use Rattle.machine.specs.Limits.{most_states}
use Rattle.logic.specs.Tests.{any}
use Rattle.sets.specs.Set.{member}
use Rattle.choice.specs.declared.Choice.{Choice}

-- a set lacks a member of another
unfoldable pub lacks : ℕ → ℕ → Bool
lacks set other = any most_tries (λ u. member other u && not (member set u))

-- a try: whether it stands, and else the pass, the region and the state that broke it
pub record Slot : Type 0 where
  pub stands : Bool
  pub pass : ℕ
  pub region : ℕ
  pub state : ℕ

unfoldable pub slot_of : Choice → ℕ → Slot
slot_of c u =
    record {
      stands = member c.chosen u;
      pass = get_or c.passes u 0;
      region = get_or c.regions u 0;
      state = get_or c.states u 0;
    }

abbrev pub mark_slot : ℕ → ℕ → ℕ → Slot
mark_slot p r s = record { stands = false; pass = p; region = r; state = s }

unfoldable pub mark_if : Bool → ℕ → ℕ → ℕ → Slot → Slot
mark_if true p r s x = mark_slot p r s
mark_if false p r s x = x

-- the first n states of region r: where the test holds of a state, the try that stands is dropped
unfoldable pub row_slot : ℕ → (ℕ → Bool) → ℕ → ℕ → Slot → Slot
row_slot zero f p r x = x
row_slot (suc n) f p r x = mark_if ((row_slot n f p r x).stands && f n) p r n (row_slot n f p r x)

-- the first k regions, n states each
unfoldable pub rows_slot : ℕ → ℕ → (ℕ → ℕ → Bool) → ℕ → Slot → Slot
rows_slot zero n f p x = x
rows_slot (suc k) n f p x = row_slot n (f k) p k (rows_slot k n f p x)

-- while a set of tries stands: keep, the set and the guard hold at a state, and the body stays in range
unfoldable pub binds_by : List ℕ → List ℕ → List ℕ → ℕ → ℕ → ℕ → ℕ → Bool
binds_by keep holds tried guard set s to =
    not (lacks (get_or tried s 0) set) && eqb (get_or keep s 0) 1 && ltb to most_states && member (get_or holds s 0) guard

-- the body, whose outcomes are a row, breaks try u from a state
unfoldable pub breaks_row : List ℕ → ℕ → List ℕ → List ℕ → List ℕ → ℕ → ℕ → ℕ → Bool
breaks_row row guard keep holds tried set u s =
    binds_by keep holds tried guard set s (get_or row s 0) && not (member (get_or tried (get_or row s 0) 0) u)

-- region r's
unfoldable pub breaks_by : List ℕ → List ℕ → List ℕ → List ℕ → List ℕ → ℕ → ℕ → ℕ → ℕ → Bool
breaks_by after guard_of keep holds tried set u r s =
    let to = get_or after (r * most_states + s) 0 in
    binds_by keep holds tried (get_or guard_of r 0) set s to && not (member (get_or tried to 0) u)
