-- What loading a file says of its check: the answer, and of an accepted file all that the table and the machines look
-- up.
use Rattle.std.specs.Prelude.{ℕ, ◌≡◌, true, List, length, Result, Ok, Err}
use Rattle.syntax.specs.Token.{Token, lexemes}
use Rattle.syntax.specs.Tree.{Monitor}
use Rattle.machine.specs.Held.{Held, HeldPlaces}
use Rattle.meaning.specs.Answer.{accepted, refused}
use Rattle.meaning.specs.Decide.Check.{check}
use Rattle.meaning.specs.Model.{vars, regions, guards, model}
use Rattle.meaning.specs.State.{starts}
use Rattle.meaning.specs.Decide.Touch.{pairs_of}
use Rattle.meaning.specs.Kept.{kept_at}
use Rattle.meaning.specs.Refusal as words
use Rattle.variables.specs.Bounded.{Bounded}
use Rattle.layout.specs.Laid.{Laid}
use Rattle.choice.specs.Chosen.{Chooses}
use Rattle.mentions.specs.Mentioned.{TouchedSets}
use Rattle.filling.specs.Filling.{Rows}
use Rattle.answers.specs.Says.{Is}
use Rattle.answers.specs.Numbered.{numbered}
use Rattle.answers.specs.declared.Answer as code
use Rattle.answers.specs.declared.Refusal.{Refusal}
use Rattle.loader.specs.declared.Loaded.{Loaded}

-- how many tries there are, and the choice among them
pub record Chosen (m : Monitor) (l : Loaded) : Type 0 where
  pub counted : l.tries ≡ length m.tries
  pub choice : Chooses m l.choice

-- of an accepted file: its variables, the slices that hold its monitor freed from its syntax, and what its regions touch
pub record Monitored (m : Monitor) (l : Loaded) (kept holds after : List ℕ) : Type 0 where
  pub bounded : Bounded (vars m) l.bounds
  pub held : Held (model m) kept holds after l.layout.guard_of
  pub held_places : HeldPlaces (model m) l.layout.begins l.layout.goes_on
  pub region_count : l.layout.regions ≡ length (regions m)
  pub guard_count : l.layout.guards ≡ length (guards m)
  pub chosen : Chosen m l
  pub touched : TouchedSets m l.touched
  pub pairs : l.pairs ≡ pairs_of m

-- the verdict; of an accepted file its monitor; of every file that the checks 1 to 7 and 15 pass its variables and its
-- layout, and where 8 passes too the rows of truths and outcomes, and the choice
pub record Loads (file : List ℕ) (l : Loaded) (kept holds after : List ℕ) : Type 0 where
  pub verdict : Is l.answer (check file)
  pub monitored : (m : Monitor) → check file ≡ accepted m → Monitored m l kept holds after
  pub outlined : (ts : List Token) (m : Monitor) → words.Past15 file ts m
      → Bounded (vars m) l.bounds × Laid m (lexemes ts) l.layout
  pub rows : (ts : List Token) (m : Monitor) → words.Past15 file ts m → kept_at m (starts (vars m)) ≡ true
      → Rows m kept holds after × Chosen m l

-- the number of an answer by which nothing more is known of a file: that of 1 to 7, or 15
abbrev pub Early : ℕ → Type 0
Early n = (n ≡ 0 → ⊥) × (n ≡ 8 → ⊥) × (n ≡ 9 → ⊥)

-- what was loaded, or a refusal by which nothing more is known
unfoldable pub LoadsOr : List ℕ → Result Loaded Refusal → List ℕ → List ℕ → List ℕ → Type 0
LoadsOr file (Ok l) kept holds after = Loads file l kept holds after
LoadsOr file (Err r) kept holds after = Early (numbered r).number × (check file ≡ refused (numbered r))

-- the number of the answer, either way
abbrev pub number_of : Result Loaded Refusal → ℕ
number_of (Ok l) = l.answer.number
number_of (Err r) = (numbered r).number

-- what stands beside an answer where its number is 0, and else the answer, which is a refusal
abbrev pub OrRefusal : {A : Type 0} → code.Answer → A → Result A code.Answer → Type 0
OrRefusal a x (Ok y) = (y ≡ x) × (a.number ≡ 0)
OrRefusal a x (Err b) = (b ≡ a) × (a.number ≡ 0 → ⊥)
