use Rattle.syntax.specs.Decide.Reading.{read_var}
use Rattle.syntax.specs.Decide.Lexeme.{is_key}
use Rattle.syntax.specs.Token.{k_var}
use Rattle.syntax.specs.Tree.{Var}
use Rattle.grammar.proofs.Readers.{Many}
use Rattle.grammar.proofs.read_vars.Given as goal

abbrev pub invariant-loop-round : goal.invariant-loop-round
invariant-loop-round l = Many Var l.kinds l.from (is_key k_var) read_var l.rounds l.at l._round
