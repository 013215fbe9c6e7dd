use Prim.Native.Nat.{◌+◌, ◌-◌, ◌≤◌}
use mathlib.Core.Path.{◌≡◌}
use mathlib.Core.List.{List}
use lib.ListN.{length, drop}
use Rattle.syntax.specs.Token.{Token, lexemes, Lexeme}
use Rattle.syntax.specs.Tree.{Region}
use Rattle.syntax.specs.Held.Kind.{Words}
use Rattle.layout.specs.Promises.{Flagged, Holds, Grown}
use Rattle.layout.proofs.Methods.{regions_ahead, Ahead}
use Rattle.layout.proofs.Tokens.add_method.Given as goal

abbrev pub invariant-loop-spot : goal.invariant-loop-spot
invariant-loop-spot l =
    ((ts : List Token) (done : List Flagged) (qs : List Region) (us : List Lexeme) → Words l.self.file.now ts l.self.kinds.now l.self.values.now l.self.places.now
    → length ts ≤ 1024 → Holds (lexemes ts) done l.initial.spot.layout → length done + length qs ≤ 16
    → drop l.initial.spot.at (lexemes ts) ≡ regions_ahead qs us
    → Ahead (lexemes ts) done qs us l.spot.layout l.spot.at l.begins) × Grown l.self.kinds.now l.initial.spot.layout l.initial.spot.at l.spot

abbrev pub decreases-loop-spot : goal.decreases-loop-spot
decreases-loop-spot l = length l.self.kinds.now - l.spot.at
