-- What a pass answers: the place of the first token that offends, or that there is none.
use Rattle.std.specs.Prelude.{ℕ, Option, Some, None}
use Rattle.std.proofs.Math.Option as maybe
use Rattle.std.proofs.Math.Option.{none, some}

unfoldable pub found_of : maybe.Option ℕ → Option ℕ
found_of none = None
found_of (some k) = Some k
