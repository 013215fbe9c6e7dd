-- `outline::Tokens::variable_at` meets its contract.
use Rattle.syntax.specs.Decide.Lexeme.{keyword_number}
use Rattle.syntax.specs.Held.Kind.{kind_of}
use Rattle.outline.proofs.Formed.{variable_formed}
use Rattle.outline.proofs.Tokens.variable_at.Goals as goal

pub returns : goal.returns
unfolding kind_of keyword_number
returns c =
    let a = c.args in
    let q = c in
    variable_formed a.self.kinds.now a.self.places.now a.self.values.now a.bounds a.k _ _ q.nth-at.ensures.0
    q.name_at.ensures
