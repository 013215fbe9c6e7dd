-- `outline::Tokens::name_at` meets its contract.
use Rattle.outline.proofs.Formed.{name_formed}
use Rattle.outline.proofs.Tokens.name_at.Goals as goal

pub returns : goal.returns
returns c =
    let a = c.args in
    name_formed a.self.places.now a.self.values.now a.at _ _ c.number_at-from.ensures.0
    c.number_at-long.ensures.0
