-- `outline::Tokens::between` meets its contract.
use Rattle.outline.proofs.Formed.{between_formed}
use Rattle.outline.proofs.Tokens.between.Goals as goal

pub returns : goal.returns
returns c =
    let a = c.args in
    between_formed a.self.places.now a.opener a.size a.closer _ _ c.number_at.ensures.0
    c.number_at-2.ensures.0
