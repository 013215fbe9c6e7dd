-- `scanner::is_digit` meets its contract: the class is that of the kit.
use Rattle.syntax.specs.Bytes.{digit, between}
use Rattle.scanner.proofs.is_digit.Goals as goal

pub returns : goal.returns
unfolding digit between
returns c = c.is_ascii_digit.ensures.value
