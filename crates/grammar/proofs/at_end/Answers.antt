-- `grammar::at_end` meets its contract.
use mathlib.Core.Path.{refl}
use Rattle.grammar.proofs.Readers.{more, all_passed}
use Rattle.grammar.proofs.at_end.Goals as goal

pub returns-then-at-kinds : goal.returns-then-at-kinds
returns-then-at-kinds c = more refl c.if-at-kinds.true

pub returns-else-at-kinds : goal.returns-else-at-kinds
returns-else-at-kinds c = all_passed c.if-at-kinds.false
