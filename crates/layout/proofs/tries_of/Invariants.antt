use Prim.Native.Nat.{◌+◌, ◌-◌, ◌≤◌}
use mathlib.Core.Path.{◌≡◌}
use mathlib.Core.List.{List}
use lib.ListN.{length}
use Rattle.syntax.specs.Token.{Lexeme}
use Rattle.syntax.specs.Held.Kind.{Kinds}
use Rattle.syntax.specs.Tree.{Monitor}
use Rattle.layout.specs.Places.{overrun}
use Rattle.layout.specs.Laid.{IsKeep}
use Rattle.layout.proofs.EachTry.{TriesAhead}
use Rattle.layout.proofs.tries_of.Given as goal

abbrev pub invariant-loop-tries : goal.invariant-loop-tries
invariant-loop-tries l =
    ((m : Monitor) (ls : List Lexeme) → Kinds ls l.kinds → length ls ≤ 1024 → IsKeep m ls l.keep
    → TriesAhead m ls l.tries.ats l.tries.count l.tries.next)
    × (length l.tries.ats ≡ 16) × (l.tries.next ≤ length l.kinds + overrun)

abbrev pub decreases-loop-tries : goal.decreases-loop-tries
decreases-loop-tries l = length l.kinds - l.tries.next
