-- `outline::Tokens::count_before` meets its contract: the chain gives the tokens of the kind among the first ones.
use mathlib.Core.Path.{◌∙◌}
use borrow.Author.Rules.{rules}
use borrow.Author.Tests.{tests}
use lib.Dec.{eqb}
use Rattle.std.proofs.lemmas.Iterator.{YieldsList-from_slice, YieldsList-from_take}
use Rattle.std.proofs.lemmas.Iterator.Consumers.{YieldsList-from_filter, count_from_yields_List}
use Rattle.outline.proofs.Found.{counted}
use Rattle.outline.proofs.Tokens.count_before.Goals as goal

pub returns : goal.returns
returns c =
    let a = c.args in
    count_from_yields_List _ _ c.count.ensures.ran
    (YieldsList-from_filter _ (λ x. eqb x a.kind)
    (YieldsList-from_take a.end (YieldsList-from_slice a.self.kinds.now (cc)) (cc)) c.filter.ensures.closure (λ x b q k. search (rules, tests)))
    ∙ counted a.kind _
