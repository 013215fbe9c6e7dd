-- `sets::lowest` meets its contract: trailing zeros stand below the lowest digit that is set.
use mathlib.Core.Path.{sym, ◌∙◌}
use mathlib.Core.Bool.{false≢true}
use lib.Count.{trailing_le}
use Rattle.sets.proofs.SetLaws.{below_lowest, at_lowest}
use Rattle.sets.proofs.lowest.Goals as goal

pub returns : goal.returns
returns c =
    record {
      least = λ u h e. false≢true (sym (below_lowest 16 c.args.set u h) ∙ e);
      found = at_lowest 16 c.args.set;
      within = trailing_le 16 c.args.set;
    }
