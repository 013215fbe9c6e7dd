-- `outline::outline_of` meets its contract: what it says by the slices is the outline of the file that they hold.
use borrow.Author.Rules.{rules}
use mathlib.Core.Path.{◌≡◌, refl, sym, ◌∙◌}
use lib.ListN.{length}
use Rattle.machine.specs.Limits.{most_regions}
use Rattle.syntax.specs.Decide.Lexeme.{keyword_number}
use Rattle.syntax.specs.Held.Kind.{kind_of}
use Rattle.outline.proofs.Filling.{listed}
use Rattle.outline.proofs.Whole.{outlines}
use Rattle.outline.proofs.outline_of.Goals as goal
use Rattle.outline.proofs.outline_of.Goals.{Start}

-- the layout's arrays have sixteen slots
slots : (c : Start) → length c.args.layout.guards_at ≡ most_regions
slots c = search rules

pub returns : goal.returns
unfolding kind_of keyword_number
returns c =
    record {
      verdict = refl;
      outlines = λ file ts m words spelt few_tries few bounded laid.
          outlines (record {
            vars = refl;
            tries = c.count_before-tries.ensures;
            methods = c.count_before-methods.ensures;
            regions = refl;
            guards = refl;
            states = c.from.ensures;
            start = λ vs as' b h s. c.from-2.ensures ∙ c.number_of.ensures.is vs as' b h s;
            title = c.name_at.ensures;
            keep = c.condition_at.ensures;
            each_variable = listed _ c.slots.ensures (λ k a p q. search rules);
            each_try = listed _ c.slots-2.ensures (λ k a p q. search rules);
            each_method = listed _ c.slots-3.ensures (λ k a p q. search rules);
            each_region = listed _ c.slots-4.ensures (λ k a p q. search rules);
            slots = slots (goal.at.returns c).Start;
          }) words m (sym spelt) few_tries few bounded laid;
    }
