-- `outline::Tokens::method_at` meets its contract.
use Rattle.syntax.specs.Decide.Lexeme.{keyword_number}
use Rattle.syntax.specs.Held.Kind.{kind_of}
use Rattle.outline.proofs.Formed.{method_formed}
use Rattle.outline.proofs.Tokens.method_at.Goals as goal

pub returns : goal.returns
unfolding kind_of keyword_number
returns c =
    let a = c.args in
    method_formed a.self.kinds.now a.self.places.now a.self.values.now a.k _ _ _ c.nth-at.ensures.0
    c.name_at.ensures c.count_before.ensures
