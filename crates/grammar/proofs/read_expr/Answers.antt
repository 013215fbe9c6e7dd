-- `grammar::read_expr` meets its contract.
use Rattle.grammar.proofs.Readers.{then, stops, ends}
use Rattle.syntax.specs.Decide.Reading.{read_expr}
use Rattle.grammar.proofs.read_expr.Goals as goal

pub returns-in_err-term : goal.returns-in_err-term
unfolding read_expr
returns-in_err-term c =
    stops _ c.in_err-term.ensures c.from_residual.ensures

pub returns : goal.returns
unfolding read_expr
returns c =
    then c.in_ok-term.ensures λ _. ends _ c.read_terms.ensures
