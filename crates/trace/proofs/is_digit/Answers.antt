-- `trace::is_digit` meets its contract: it is the definition.
use mathlib.Core.Path.{refl}
use Rattle.meaning.specs.Decide.Frames.{is_hex}
use Rattle.trace.proofs.is_digit.Goals as goal

pub returns : goal.returns
unfolding is_hex
returns c = refl
