-- `divisors::has_mod` meets its contract: a `mod` at a place would be contained.
use mathlib.Core.Path.{sym, ◌∙◌}
use mathlib.Core.Bool.{true≢false}
use lib.Dec.{eqb}
use borrow.Author.Tests.{eq-eqb}
use Rattle.std.proofs.lemmas.List.Folds.{list_any_at}
use Rattle.syntax.specs.Decide.Lexeme.{keyword_number}
use Rattle.syntax.specs.Held.Kind.{kind_of}
use Rattle.divisors.proofs.has_mod.Goals as goal

pub returns : goal.returns
unfolding kind_of keyword_number
returns c e i h k =
    absurd (true≢false (sym (list_any_at (λ x. eqb x 43) c.args.kinds.now i 0 h (eq-eqb _ _ k))
    ∙ sym c.contains.ensures.value ∙ e))
