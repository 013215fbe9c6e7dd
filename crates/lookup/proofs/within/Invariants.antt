use mathlib.Core.Path.{◌≡◌}
use mathlib.Core.Logic.{◌↔◌}
use mathlib.Core.List.{List}
use lib.ListN.{length}
use Rattle.syntax.specs.Tree.{Var}
use Rattle.variables.specs.Bounded.{Bounded}
use Rattle.lookup.proofs.Ranges.{From}
use Rattle.lookup.proofs.within.Given as goal

abbrev pub invariant-loop-k : goal.invariant-loop-k
invariant-loop-k l =
    (length l.values ≡ 6)
    × ((vs : List Var) (b : Bounded vs l.bounds) (six : length l.values ≡ 6)
    → From vs l.bounds b l.values six 0 ↔ From vs l.bounds b l.values six l.k)
