use Prim.Native.Nat.{◌+◌, ◌-◌, ◌≤◌}
use mathlib.Core.Path.{◌≡◌}
use mathlib.Core.List.{List}
use lib.ListN.{length, drop}
use Rattle.syntax.specs.Token.{Token, lexemes}
use Rattle.syntax.specs.Tree.{Monitor, all}
use Rattle.meaning.specs.Model.{regions}
use Rattle.layout.specs.Places.{to_condition}
use Rattle.syntax.specs.Held.Kind.{Words}
use Rattle.layout.specs.Promises.{Room}
use Rattle.layout.proofs.Methods.{methods_ahead, AheadAll}
use Rattle.layout.proofs.lay_out.Given as goal

abbrev pub invariant-loop-tokens : goal.invariant-loop-tokens
invariant-loop-tokens l =
    ((m : Monitor) (ts : List Token) → Words l.file ts l.kinds l.values l.places → length (regions m) ≤ 16 → length ts ≤ 1024
    → drop l.first (lexemes ts) ≡ methods_ahead (all m.methods) → AheadAll (lexemes ts) (all m.methods) l.spot.layout l.spot.at)
    × Room l.spot.layout × (l.spot.layout.keep ≡ l.keep + to_condition)

abbrev pub decreases-loop-tokens : goal.decreases-loop-tokens
decreases-loop-tokens l = length l.kinds - l.spot.at
