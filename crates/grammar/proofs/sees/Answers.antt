-- `grammar::sees` meets its contract.
use Rattle.grammar.proofs.Readers.{seen_if}
use Rattle.grammar.proofs.sees.Goals as goal

pub returns : goal.returns
returns c = rw c.is_some.ensures (seen_if c.accept.ensures)
