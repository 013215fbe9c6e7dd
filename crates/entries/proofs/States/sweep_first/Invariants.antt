use Rattle.entries.specs.Slices.{Swept}
use Rattle.entries.proofs.States.sweep_first.Given as goal

abbrev pub invariant-loop-s : goal.invariant-loop-s
invariant-loop-s l = Swept l.self.kept.now l.self.holds.now l.self.after.now l.s l.region.guard l.region.number l.sweep
