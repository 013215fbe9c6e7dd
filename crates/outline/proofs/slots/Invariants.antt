use Rattle.outline.proofs.Filling.{Filling}
use Rattle.outline.proofs.slots.Given as goal

abbrev pub invariant-loop-k : goal.invariant-loop-k
invariant-loop-k g l = Filling g.row.SIZE l.fn.empty (goal.F-post g l.item) l.found l.k
