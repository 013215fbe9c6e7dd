-- `outline::Tokens::condition_at` meets its contract.
use Rattle.syntax.specs.Decide.Lexeme.{mark_number}
use Rattle.syntax.specs.Held.Kind.{kind_of}
use Rattle.outline.proofs.Formed.{condition_formed}
use Rattle.outline.proofs.Tokens.condition_at.Goals as goal

pub returns : goal.returns
unfolding kind_of mark_number
returns c =
    let a = c.args in
    condition_formed a.self.kinds.now a.self.places.now a.kind a.k a.size _ _ _
    c.nth-at.ensures.0 c.closing-end.ensures c.between.ensures
