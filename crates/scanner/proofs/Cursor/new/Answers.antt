-- `scanner::Cursor::new` meets its contract, by computation.
use mathlib.Core.Path.{refl}
use Rattle.scanner.proofs.Cursor.new.Goals as goal

pub returns : goal.returns
returns c = refl
