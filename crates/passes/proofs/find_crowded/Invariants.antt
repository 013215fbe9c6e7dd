use Prim.Native.Nat.{ℕ, ◌≤◌}
use mathlib.Core.Path.{◌≡◌}
use mathlib.Core.List.{List}
use lib.ListN.{drop}
use Rattle.syntax.specs.Token.{Token}
use Rattle.meaning.specs.Decide.Check.{crowded}
use Rattle.syntax.specs.Held.Kind.{Words}
use Rattle.passes.proofs.find_crowded.Given as goal

abbrev pub invariant-loop-passed : goal.invariant-loop-passed
invariant-loop-passed l =
    (l.opened ≤ l.passed) × (l.closed ≤ l.passed)
    × ((file : List ℕ) (ts : List Token) (values : List ℕ) → Words file ts l.kinds values l.places
    → crowded 0 0 0 ts ≡ crowded l.passed l.opened l.closed (drop l.passed ts))
