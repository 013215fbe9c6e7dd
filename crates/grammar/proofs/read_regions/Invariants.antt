use Rattle.syntax.specs.Decide.Reading.{read_region}
use Rattle.syntax.specs.Decide.Lexeme.{is_key}
use Rattle.syntax.specs.Token.{k_waituntil}
use Rattle.syntax.specs.Tree.{Region}
use Rattle.grammar.proofs.Readers.{Many}
use Rattle.grammar.proofs.read_regions.Given as goal

abbrev pub invariant-loop-round : goal.invariant-loop-round
invariant-loop-round l = Many Region l.kinds l.from (is_key k_waituntil) (read_region l.left) l.rounds l.at l._round
