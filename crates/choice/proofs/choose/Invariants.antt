use Prim.Native.Nat.{◌^◌, ◌≤◌, ◌<◌}
use Rattle.syntax.specs.Tree.{Monitor}
use Rattle.choice.specs.Chosen.{Tried}
use Rattle.choice.proofs.Staging.{Stage}
use Rattle.choice.proofs.choose.Given as goal

abbrev pub invariant-loop-k : goal.invariant-loop-k
invariant-loop-k l =
    (l.k ≤ l.tries) × (l.choice.chosen < 2 ^ 16)
    × ((m : Monitor) → Tried m l.states l.guard_of l.regions l.start l.tries l.keep l.holds l.after l.tried → Stage m l.k l.choice)
