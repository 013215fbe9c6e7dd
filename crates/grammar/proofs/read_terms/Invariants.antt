use Rattle.syntax.specs.Decide.Reading.{is_sign, read_signed}
use Rattle.syntax.specs.Tree.{Signed}
use Rattle.grammar.proofs.Readers.{Many}
use Rattle.grammar.proofs.read_terms.Given as goal

abbrev pub invariant-loop-round : goal.invariant-loop-round
invariant-loop-round l = Many Signed l.kinds l.from is_sign read_signed l.rounds l.at l._round
