-- What the slices hold of a file before the choice, and what the choice then is.
use Rattle.std.specs.Prelude.{ℕ, ◌≤◌, ◌<◌, ◌≡◌, true, false, List, length}
use Rattle.syntax.specs.Tree.{Monitor}
use Rattle.syntax.specs.Limits.{most_tries}
use Rattle.machine.specs.Limits.{most_states, most_regions, most_after}
use Rattle.meaning.specs.Value.{truth}
use Rattle.meaning.specs.State.{count, start_number}
use Rattle.meaning.specs.Accepted.{GoodRanges}
use Rattle.meaning.specs.Model.{vars, regions}
use Rattle.meaning.specs.Choice.{Fate, chosen, false_at_start, broken}
use Rattle.meaning.specs.Decide.Choice.{chosen_bits, fate_of}
use Rattle.states.specs.Rows.{TruthRow, TruthSets, GuardNumbers, HoldsAll, Outcomes}
use Rattle.choice.specs.declared.Choice.{Choice}
use Rattle.choice.specs.Slots.{Slot, slot_of}

-- the truths of keep, the guards and the tries at every state, and the outcomes of the bodies
pub record Tried (m : Monitor) (states : ℕ) (guard_of : List ℕ) (count_of start tries : ℕ)
    (keep holds after tried : List ℕ) : Type 0 where
  pub good : GoodRanges (vars m)
  pub few_states : count (vars m) ≤ most_states
  pub states_counted : states ≡ count (vars m)
  pub regions_counted : count_of ≡ length (regions m)
  pub few_regions : count_of ≤ most_regions
  pub tries_counted : tries ≡ length m.tries
  pub few_tries : tries ≤ most_tries
  pub starts : start ≡ start_number (vars m)
  pub long : most_after ≤ length after
  pub by_number : GuardNumbers m guard_of
  pub by_keep : TruthRow (vars m) (truth m.keep (vars m)) keep
  pub by_holds : HoldsAll m holds
  pub by_tries : TruthSets (vars m) m.tries tried
  pub outcomes : Outcomes m after

-- what becomes of a try, as it is held: of one that no body breaks all numbers are 0 (R 16.18)
unfoldable pub slot_for : Fate → Slot
slot_for chosen = record { stands = true; pass = 0; region = 0; state = 0 }
slot_for false_at_start = record { stands = false; pass = 0; region = 0; state = 0 }
slot_for (broken p r s) = record { stands = false; pass = p; region = r; state = s }

-- the choice of a file: its bits, and each of sixteen slots; one behind the tries is as that of a try that is false at the
-- start values
pub record Chooses (m : Monitor) (c : Choice) : Type 0 where
  pub bits : c.chosen ≡ chosen_bits m
  pub slots : (i : ℕ) → i < most_tries → slot_of c i ≡ slot_for (fate_of m i)
