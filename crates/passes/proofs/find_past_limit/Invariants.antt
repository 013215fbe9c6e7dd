use Prim.Native.Nat.{ℕ, ◌≤◌}
use mathlib.Core.Path.{◌≡◌}
use mathlib.Core.List.{List}
use lib.ListN.{drop}
use Rattle.syntax.specs.Token.{Token}
use Rattle.meaning.specs.Decide.Check.{past_limit}
use Rattle.syntax.specs.Held.Kind.{Words}
use Rattle.passes.proofs.find_past_limit.Given as goal

abbrev pub invariant-loop-i : goal.invariant-loop-i
invariant-loop-i l =
    (l.vars ≤ l.i) × (l.methods ≤ l.i) × (l.regions ≤ l.i) × (l.tries ≤ l.i)
    × ((file : List ℕ) (ts : List Token) (values : List ℕ) → Words file ts l.kinds values l.places
    → past_limit 0 0 0 0 ts ≡ past_limit l.vars l.methods l.regions l.tries (drop l.i ts))
