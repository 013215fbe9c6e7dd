use Prim.Native.Nat.{ℕ}
use mathlib.Core.Path.{◌≡◌}
use mathlib.Core.Bool.{false}
use mathlib.Core.List.{List}
use lib.ListN.{drop}
use Rattle.syntax.specs.Token.{Token, lexemes}
use Rattle.syntax.specs.Tree.{Var}
use Rattle.syntax.specs.Held.Kind.{Words}
use Rattle.meaning.specs.Decide.Check.{unvalued}
use Rattle.divisors.specs.Coded.{Coded}
use Rattle.divisors.proofs.find_unvalued.Given as goal

abbrev pub invariant-loop-i : goal.invariant-loop-i
invariant-loop-i l =
    ((file : List ℕ) (ts : List Token) (values : List ℕ) (vs : List Var) → Words file ts l.kinds values l.places
    → Coded vs (lexemes ts) l.kinds l.operands l.fn.lows l.count → unvalued vs false ts ≡ unvalued vs l.on (drop l.i ts))
