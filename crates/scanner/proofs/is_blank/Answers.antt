-- `scanner::is_blank` meets its contract, by computation.
use mathlib.Core.Path.{refl}
use Rattle.syntax.specs.Bytes.{blank}
use Rattle.scanner.proofs.is_blank.Goals as goal

pub returns : goal.returns
unfolding blank
returns c = refl
