-- `entries::States::sweep_first` meets its contract. The loop's invariant: the sweep of the states passed.
use Rattle.entries.proofs.Sweeps.{swept_none}
use Rattle.entries.proofs.States.sweep_first.Goals as goal

pub loop-s-init : goal.loop-s-init
loop-s-init c = swept_none _ _ _ _ _
