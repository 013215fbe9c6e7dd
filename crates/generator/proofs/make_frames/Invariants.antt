use Prim.Native.Nat.{ℕ}
use mathlib.Core.Path.{◌≡◌}
use mathlib.Core.List.{List}
use lib.ListN.{length}
use Rattle.machine.specs.Monitor.{Monitor}
use Rattle.allowed.specs.Offered.{HeldMethods}
use Rattle.generator.specs.Making.{MakeAsked}
use Rattle.generator.proofs.Way.{OnWay}
use Rattle.generator.proofs.make_frames.Given as goal

abbrev pub invariant-loop-k : goal.invariant-loop-k
invariant-loop-k l =
    (length l.out ≡ length l.initial.out) × ((m : Monitor) (kept : List ℕ)
    → MakeAsked l.threads l.wanted l.state l.slices.holds.now l.slices.after.now l.slices.guard_of.now l.slices.begins.now l.slices.goes_on.now l.slices.regions l.initial.out m kept
    → HeldMethods m l.methods × OnWay m l.threads l.wanted l.state l.seed l.initial.out l.run l.number l.last l.at l.k l.out)
