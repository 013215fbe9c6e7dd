use mathlib.Core.Path.{◌≡◌}
use mathlib.Core.List.{List}
use mathlib.Core.Option.{none}
use Rattle.syntax.specs.Token.{Token}
use Rattle.meaning.specs.Decide.Check.{past_limit}
use Rattle.syntax.specs.Held.Kind.{Words}
use Rattle.names.proofs.Misnaming.{Naming}
use Rattle.names.proofs.find_misnamed.Given as goal

abbrev pub invariant-loop-i : goal.invariant-loop-i
invariant-loop-i l =
    ((ts : List Token) → Words l.file ts l.kinds l.values l.places → past_limit 0 0 0 0 ts ≡ none
    → Naming l.file ts l.vars l.methods l.before l.i)
