-- `calls::entries_of` meets its contract: the slices hold the monitor of an accepted file, and its regions leave the guards
-- that they do not touch as they were; so the entries filled from them are the file's.
use Prim.Native.Nat.{ℕ}
use mathlib.Core.Path.{sym, ◌∙◌}
use mathlib.Core.List.{List}
use Rattle.syntax.specs.Tree.{Monitor}
use Rattle.machine.specs.Held.{HeldTouched}
use Rattle.meaning.specs.Accepted.{GoodRanges}
use Rattle.meaning.specs.Model.{vars, model}
use Rattle.meaning.proofs.Touching.{untouched_after}
use Rattle.mentions.specs.Mentioned.{TouchedSets}
use Rattle.entries.proofs.Monitors.{entries_held}
use Rattle.demands.proofs.Demand2.{checked}
use Rattle.calls.specs.Results.{EntriesOf}
use Rattle.calls.proofs.entries_of.Goals as goal

leaves : (m : Monitor) (sets : List ℕ) → GoodRanges (vars m) → TouchedSets m sets → HeldTouched (model m) sets
unfolding HeldTouched model
leaves m sets good t r g s low below none runs =
    untouched_after m good r g s (sym (t.members r g low below) ∙ none) runs

pub returns : goal.returns
unfolding EntriesOf model
returns c file loads m e =
    let x = loads.monitored m e in
    entries_held (model m) _ _ _ _ _ _ _ _ x.held (leaves m _ x.bounded.good x.touched)
    (checked file m e).keeps (sym x.bounded.states) (sym x.region_count) (sym x.guard_count)
    c.fill_entries.ensures
