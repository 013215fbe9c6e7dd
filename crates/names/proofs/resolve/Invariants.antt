use mathlib.Core.Path.{◌≡◌}
use mathlib.Core.List.{List, ◌++◌, map}
use mathlib.Core.Option.{none}
use lib.ListN.{length, take, drop}
use Rattle.syntax.specs.Token.{Token}
use Rattle.meaning.specs.Decide.Check.{past_limit}
use Rattle.names.specs.Slots.{titles_of, slot_or_value}
use Rattle.syntax.specs.Held.Kind.{Words}
use Rattle.names.proofs.resolve.Given as goal

abbrev pub invariant-loop-i : goal.invariant-loop-i
invariant-loop-i l =
    (length l.operands ≡ length l.initial.operands)
    × ((ts : List Token) → Words l.file ts l.kinds l.values l.places → past_limit 0 0 0 0 ts ≡ none → length l.initial.operands ≡ length ts
    → l.operands ≡ map (λ t. slot_or_value (titles_of ts) t.lexeme) (take l.i ts) ++ drop l.i l.initial.operands)
