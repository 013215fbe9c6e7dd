use Rattle.syntax.specs.Decide.Reading.{read_try}
use Rattle.syntax.specs.Decide.Lexeme.{is_key}
use Rattle.syntax.specs.Token.{k_try}
use Rattle.syntax.specs.Tree.{Cond}
use Rattle.grammar.proofs.Readers.{Many}
use Rattle.grammar.proofs.read_tries.Given as goal

abbrev pub invariant-loop-round : goal.invariant-loop-round
invariant-loop-round l = Many Cond l.kinds l.from (is_key k_try) (read_try l.left) l.rounds l.at l._round
