-- What is known of a file whose names and braces are resolved, and what the slices hold once its states have been gone
-- through.
use Rattle.std.specs.Prelude.{ℕ, ◌<◌, ◌≤◌, ◌≡◌, List, length, get_or}
use Rattle.machine.specs.Limits.{most_regions}
use Rattle.syntax.specs.Token.{Lexeme}
use Rattle.syntax.specs.Tree.{Monitor}
use Rattle.meaning.specs.Value.{truth}
use Rattle.meaning.specs.Model.{vars, regions}
use Rattle.evaluator.specs.Coding.{Codes}
use Rattle.variables.specs.Bounded.{Bounded}
use Rattle.variables.specs.declared.Bounds.{Bounds}
use Rattle.layout.specs.Laid.{Laid, TriesLaid}
use Rattle.layout.specs.declared.Layout.{Layout}
use Rattle.layout.specs.declared.Tries.{Tries}
use Rattle.mentions.specs.Gathered.{guard_at}
use Rattle.mentions.specs.declared.Mentions.{Mentions}
use Rattle.states.specs.Rows.{TruthRow, TruthSets, HoldsAll, Outcomes}
use Rattle.truths.specs.declared.Texts.{Texts}

pub record Filling (m : Monitor) (ls : List Lexeme) (kinds values : List ℕ) (b : Bounds) (l : Layout) (t : Tries) : Type 0
  where
    pub codes : Codes (vars m) ls kinds values
    pub bounded : Bounded (vars m) b
    pub laid : Laid m ls l
    pub tries_laid : TriesLaid m ls t
    pub few : length ls ≤ 8192
    pub few_regions : length (regions m) ≤ 16
    pub few_tries : length m.tries ≤ 16

-- the truths of keep, the guards and the tries at every state, and the outcomes of the bodies
pub record Swept (m : Monitor) (keep holds tried after : List ℕ) : Type 0 where
  pub by_keep : TruthRow (vars m) (truth m.keep (vars m)) keep
  pub by_holds : HoldsAll m holds
  pub by_tries : TruthSets (vars m) m.tries tried
  pub outcomes : Outcomes m after

-- the texts of the guards, each where its first region has it, and of the tries
pub record GuardTexts (l : Layout) (n : Mentions) (r : Texts) : Type 0 where
  pub places : (g : ℕ) → g < most_regions → get_or r.ats g 0 ≡ guard_at l g
  pub named : r.named ≡ n.guards
  pub counted : r.count ≡ l.guards

pub record TryTexts (t : Tries) (n : Mentions) (r : Texts) : Type 0 where
  pub places : r.ats ≡ t.ats
  pub named : r.named ≡ n.tries
  pub counted : r.count ≡ t.count
