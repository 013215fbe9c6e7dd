use mathlib.Core.Path.{◌≡◌}
use lib.ListN.{length}
use Rattle.tokens.proofs.Tokens.{Held}
use Rattle.tokens.proofs.scan_into.Given as goal

abbrev pub invariant-loop-n : goal.invariant-loop-n
invariant-loop-n l =
    Held l.file l.initial.kinds l.initial.values l.initial.places l.kinds l.values l.places l.n l.cursor.at × (length l.kinds ≡ 8192) × (length l.values ≡ 8192)
    × (length l.places ≡ 8192)
