-- `sixteen::by_divisor` meets its contract: each way gives the remainders by its kind of number.
use mathlib.Core.Path.{sym, ◌∙◌}
use lib.ListN.{get_or-replicate}
use Rattle.sixteen.proofs.Division.{remainder_some, remainder_none}
use Rattle.sixteen.proofs.by_divisor.Goals as goal

pub returns-then-divisor-le128 : goal.returns-then-divisor-le128
returns-then-divisor-le128 c = λ j l.
    c.by_small.ensures j l ∙ sym (remainder_some _ _ _ _ c.if-less-by.true)

pub returns-then-less-by : goal.returns-then-less-by
returns-then-less-by c = λ j l.
    c.by_large.ensures j l ∙ sym (remainder_some _ _ _ _ c.if-less-by.true)

pub returns : goal.returns
returns c = λ j l. get_or-replicate 16 j 0 0 l ∙ sym (remainder_none _ _ _ _ c.if-less-by.false)
