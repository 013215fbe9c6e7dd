use Rattle.syntax.specs.Decide.Reading.{read_method}
use Rattle.syntax.specs.Decide.Lexeme.{is_key}
use Rattle.syntax.specs.Token.{k_method}
use Rattle.syntax.specs.Tree.{Method}
use Rattle.grammar.proofs.Readers.{Many}
use Rattle.grammar.proofs.read_methods.Given as goal

abbrev pub invariant-loop-round : goal.invariant-loop-round
invariant-loop-round l = Many Method l.kinds l.from (is_key k_method) (read_method l.left) l.rounds l.at l._round
