use Prim.Native.Nat.{ℕ}
use mathlib.Core.Path.{◌≡◌}
use mathlib.Core.List.{List}
use mathlib.Core.Option.{none}
use Rattle.syntax.specs.Token.{Token}
use Rattle.meaning.specs.Decide.Check.{past_limit}
use Rattle.syntax.specs.Held.Kind.{Words}
use Rattle.names.proofs.Listing.{Listing}
use Rattle.names.proofs.variables.Given as goal

abbrev pub invariant-loop-i : goal.invariant-loop-i
invariant-loop-i l =
    ((file : List ℕ) (ts : List Token) → Words file ts l.kinds l.values l.places → past_limit 0 0 0 0 ts ≡ none
    → Listing file ts l.vars l.before l.i)
