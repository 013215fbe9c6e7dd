use Prim.Native.Nat.{◌+◌}
use mathlib.Core.Path.{◌≡◌}
use mathlib.Core.List.{List}
use lib.ListN.{drop}
use Rattle.syntax.specs.Token.{Token, lexemes}
use Rattle.syntax.specs.Tree.{Cond}
use Rattle.meaning.specs.Model.{place_in}
use Rattle.syntax.specs.Held.Kind.{Words}
use Rattle.layout.specs.Promises.{GuardAt, Flagged, found, Holds}
use Rattle.layout.proofs.Tokens.guard_number.Given as goal

abbrev pub invariant-loop-g : goal.invariant-loop-g
invariant-loop-g l =
    (ts : List Token) (done : List Flagged) (c : Cond) → Words l.self.file.now ts l.self.kinds.now l.self.values.now l.self.places.now
    → Holds (lexemes ts) done l.layout
    → GuardAt (lexemes ts) l.at c → l.g + place_in c (drop l.g (found done)) ≡ place_in c (found done)
