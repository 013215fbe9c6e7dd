-- What is known of a file whose names are resolved, and what the sets say of it: every name of keep, of each guard, try
-- and body has its slot in their set, and each region has the guards that it touches.
use Rattle.std.specs.Prelude.{ℕ, ◌<◌, ◌≤◌, ◌≡◌, false, List, length, get_or}
use Rattle.sets.specs.Set.{member}
use Rattle.machine.specs.Limits.{most_regions}
use Rattle.syntax.specs.Limits.{most_vars, most_tries}
use Rattle.syntax.specs.Token.{Lexeme}
use Rattle.syntax.specs.Tree.{Monitor, spell_cond, spell_block}
use Rattle.meaning.specs.Model as model
use Rattle.meaning.specs.Model.{vars, regions, region, no_guard}
use Rattle.meaning.specs.Decide.Touch as touch
use Rattle.evaluator.specs.Coding.{Codes, Covers}
use Rattle.layout.specs.Laid.{Laid, TriesLaid}
use Rattle.layout.specs.declared.Layout.{Layout}
use Rattle.layout.specs.declared.Tries.{Tries}
use Rattle.mentions.specs.declared.Mentions.{Mentions}

-- the tokens of a file, with n variables, and where its parts stand among them
pub record Resolved (m : Monitor) (ls : List Lexeme) (kinds values : List ℕ) (n : ℕ) (l : Layout) (t : Tries) : Type 0
  where
    pub codes : Codes (vars m) ls kinds values
    pub counted : n ≡ length (vars m)
    pub laid : Laid m ls l
    pub tries_laid : TriesLaid m ls t
    pub few_vars : length (vars m) ≤ most_vars
    pub few_regions : length (regions m) ≤ most_regions
    pub few_tries : length m.tries ≤ most_tries

-- for each region the guards that it touches, and no number past them
pub record TouchedSets (m : Monitor) (sets : List ℕ) : Type 0 where
  pub members : (q g : ℕ) → q < length (regions m) → g < length (model.guards m)
      → member (get_or sets q 0) g ≡ touch.touched m q g
  pub none_behind : (q g : ℕ) → q < length (regions m) → length (model.guards m) ≤ g
      → member (get_or sets q 0) g ≡ false

-- all sets of a file; those of guards have none that the file lacks
pub record Mentioned (m : Monitor) (r : Mentions) : Type 0 where
  pub keep : Covers (vars m) (spell_cond m.keep) r.keep
  pub guards : (g : ℕ) → g < length (model.guards m)
      → Covers (vars m) (spell_cond (get_or (model.guards m) g no_guard)) (get_or r.guards g 0)
  pub tries : (i : ℕ) → i < length m.tries
      → Covers (vars m) (spell_cond (get_or m.tries i no_guard)) (get_or r.tries i 0)
  pub bodies : (q : ℕ) → q < length (regions m)
      → Covers (vars m) (spell_block (region m q).body) (get_or r.bodies q 0)
  pub touched : TouchedSets m r.touched
