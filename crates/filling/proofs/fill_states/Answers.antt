-- `filling::fill_states` meets its contract: the truths and outcomes, the choice, the row of the kept condition, and 9 by
-- what `first_broken` answers.
use Prim.Native.Nat.{ℕ, ◌≤◌}
use native.Mathlib.Omega.{arith}
use mathlib.Core.Path.{◌≡◌}
use mathlib.Core.Logic.{inl, inr}
use mathlib.Core.List.{List}
use lib.ListN.{length}
use Rattle.syntax.specs.Token.{Lexeme}
use Rattle.syntax.specs.Tree.{Monitor}
use Rattle.meaning.specs.State.{starts}
use Rattle.meaning.specs.Decide.Check.{broken}
use Rattle.meaning.specs.Model.{vars}
use Rattle.meaning.proofs.StateLaws.{starts_state}
use Rattle.states.specs.Rows.{KeptAll}
use Rattle.mentions.specs.Mentioned.{Mentioned}
use Rattle.rows.specs.Filling.{Filling, Swept}
use Rattle.breaking.specs.Broken.{BrokenAs}
use Rattle.choice.specs.Chosen.{Chooses}
use Rattle.filling.specs.Filling.{Rows, AsLong}
use Rattle.filling.proofs.Fills.{numbers_of, kept_strong, settled_9, settled_0}
use Rattle.filling.proofs.fill_states.Goals as goal
use Rattle.filling.proofs.fill_states.Goals.{After-first_broken}

-- where the slices have been looked through
abbrev At : Type 0
At = After-first_broken

-- what the slices then hold
abbrev keep_row : At → List ℕ
keep_row c = c.fill_rows.new.kept

abbrev holds_row : At → List ℕ
holds_row c = c.fill_rows.new.holds

abbrev tried_row : At → List ℕ
tried_row c = c.fill_rows.new.tried

abbrev after_rows : At → List ℕ
after_rows c = c.fill_rows.new.after

abbrev kept_row : At → List ℕ
kept_row c = c.strengthen.new.kept

abbrev Given : At → Monitor → List Lexeme → Type 0
Given c m ls =
    let a = c.args in
    Filling m ls a.kinds.now a.values.now a.bounds a.layout a.tries

-- each slice is as long as it was
long : (c : At)
    → AsLong c.args.kept.now c.args.holds.now c.args.after.now
    (kept_row c) (holds_row c) (after_rows c)
long c = (
  omega (arith, c.strengthen.auto.kept, c.fill_rows.auto.kept),
  omega (arith, c.fill_rows.auto.holds),
  omega (arith, c.fill_rows.auto.after),
)

module _ (c : At) {m : Monitor} {ls : List Lexeme} (f : Given c m ls) (named : Mentioned m c.args.mentions)
    (l₁ : 4096 ≤ length c.args.kept.now) (l₂ : 4096 ≤ length c.args.holds.now)
    (l₃ : 65536 ≤ length c.args.after.now)
    (l₄ : 1 ≤ c.args.tries.count → 4096 ≤ length c.args.tried.now) where
  few_regions : c.args.layout.regions ≤ 16
  few_regions = omega (arith, f.few_regions, f.laid.region_count)

  swept : Swept m (keep_row c) (holds_row c) (tried_row c) (after_rows c)
  swept = c.fill_rows.ensures m ls f named l₁ l₂ l₄ l₃

  after_long : 65536 ≤ length (after_rows c)
  after_long = omega (arith, (long c).2)

  chooses : Chooses m c.choose-choice.result
  chooses =
      c.choose-choice.ensures m
      (record {
        good = f.bounded.good;
        few_states = f.bounded.few_states;
        states_counted = f.bounded.states;
        regions_counted = f.laid.region_count;
        few_regions = few_regions;
        tries_counted = f.tries_laid.count;
        few_tries = omega (arith, f.tries_laid.count, f.few_tries);
        starts =
            c.number_of-start.ensures.is (vars m) (starts (vars m)) f.bounded f.bounded.start_values
            (starts_state f.bounded.good);
        long = after_long;
        by_number = numbers_of f;
        by_keep = swept.by_keep;
        by_holds = swept.by_holds;
        by_tries = swept.by_tries;
        outcomes = swept.outcomes;
      })

  by_kept : KeptAll m (kept_row c)
  by_kept =
      kept_strong m (tried_row c) (keep_row c) (kept_row c) c.choose-choice.result.chosen f.few_tries
      chooses.bits swept.by_keep swept.by_tries
      (λ s b low e. c.strengthen.ensures s b (omega (arith, f.bounded.states))
      (omega (arith, c.fill_rows.auto.kept, f.bounded.states, f.bounded.few_states)) e)

  full : Rows m (kept_row c) (holds_row c) (after_rows c)
  full =
      record {
        by_kept = by_kept;
        by_holds = swept.by_holds;
        outcomes = swept.outcomes;
      }

  broken_as : BrokenAs c.first_broken.result (broken m)
  broken_as =
      c.first_broken.ensures m f.bounded f.laid.region_count few_regions (numbers_of f)
      (omega (arith, (long c).0)) (omega (arith, (long c).1)) after_long by_kept swept.by_holds full.outcomes

tried_long : (c : At) → length (tried_row c) ≡ length c.args.tried.now
tried_long c = omega (arith, c.fill_rows.auto.tried)

pub returns-in-Some : goal.returns-in-Some
returns-in-Some c =
    let g = (goal.at.returns-in-Some c).After-first_broken in
    let nine = c.from.ensures in
    record {
      settles = λ m ls f n l₁ l₂ l₃ l₄.
          settled_9 m _ _ _ _ (broken_as g f n l₁ l₂ l₃ l₄) (full g f n l₁ l₂ l₃ l₄) (chooses g f n l₁ l₂ l₃ l₄) _ _
          c.in-Some.is nine;
      ends = (inl nine.number, long g);
    }

pub returns-in-None : goal.returns-in-None
returns-in-None c =
    let g = (goal.at.returns-in-None c).After-first_broken in
    let zero = c.accepted.ensures in
    record {
      settles = λ m ls f n l₁ l₂ l₃ l₄.
          settled_0 m _ _ _ _ (broken_as g f n l₁ l₂ l₃ l₄) (full g f n l₁ l₂ l₃ l₄) (chooses g f n l₁ l₂ l₃ l₄)
          c.in-None.is zero;
      ends = (inr zero.0, long g);
    }

pub shape_of-kept-in-Some : goal.shape_of-kept-in-Some
shape_of-kept-in-Some = λ c. (long (goal.at.shape_of-kept-in-Some c).After-first_broken).0

pub shape_of-holds-in-Some : goal.shape_of-holds-in-Some
shape_of-holds-in-Some = λ c. (long (goal.at.shape_of-holds-in-Some c).After-first_broken).1

pub shape_of-after-in-Some : goal.shape_of-after-in-Some
shape_of-after-in-Some = λ c. (long (goal.at.shape_of-after-in-Some c).After-first_broken).2

pub shape_of-tried-in-Some : goal.shape_of-tried-in-Some
shape_of-tried-in-Some = λ c. tried_long (goal.at.shape_of-tried-in-Some c).After-first_broken

pub shape_of-kept-in-None : goal.shape_of-kept-in-None
shape_of-kept-in-None = λ c. (long (goal.at.shape_of-kept-in-None c).After-first_broken).0

pub shape_of-holds-in-None : goal.shape_of-holds-in-None
shape_of-holds-in-None = λ c. (long (goal.at.shape_of-holds-in-None c).After-first_broken).1

pub shape_of-after-in-None : goal.shape_of-after-in-None
shape_of-after-in-None = λ c. (long (goal.at.shape_of-after-in-None c).After-first_broken).2

pub shape_of-tried-in-None : goal.shape_of-tried-in-None
shape_of-tried-in-None = λ c. tried_long (goal.at.shape_of-tried-in-None c).After-first_broken
