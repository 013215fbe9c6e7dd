-- `judging::judge` meets its contract: each pass's answer is a refusal of the file's check, or says that the refusal
-- does not arise; what is known past each is one law, which the later ones cite.
use native.Mathlib.Omega.{arith}
use mathlib.Core.Path.{◌≡◌, sym, ◌∙◌}
use mathlib.Core.List.{List, [], ◌∷◌}
use mathlib.Core.Option.{none}
use Rattle.syntax.specs.Token.{number, key, k_keep, Token, lexemes}
use Rattle.syntax.specs.Tree.{Monitor, all, spell}
use Rattle.syntax.specs.Held.Kind.{Words}
use Rattle.meaning.specs.Decide.Check.{crowded, past_limit, misnamed}
use Rattle.meaning.specs.Held.{behind_keep}
use Rattle.variables.specs.Bounded.{Ranged}
use Rattle.variables.specs.Places.{first_var}
use Rattle.judging.specs.Judging.{Judges}
use Rattle.judging.proofs.TokenSlices.{numbers}
use Rattle.judging.proofs.TokensStand.{vars_stand, vars_end}
use Rattle.judging.proofs.Counts.{few_parts}
use Rattle.judging.proofs.Refusals.{found_at, found_nothing, kinds_of, says_3, says_4, tree_read, says_5, says_6, says_7}
use Rattle.judging.proofs.Judging.{few_lexemes, past_7}
use Rattle.judging.proofs.judge.Goals.{In_default, In_default-read, In_default-find_past_limit, In_default-find_misnamed, After-read-2}
use Rattle.judging.proofs.judge.Goals as goal

-- what is known past 3, 4, 5 and 6
module _ {ts : List Token} where
  room : (c : In_default) → Words c.args.file.now ts c.args.kinds.now c.args.values.now c.args.places.now
      → crowded 0 0 0 ts ≡ none
  room c w = found_nothing _ (sym c.in_default.is ∙ c.find_crowded.ensures _ ts _ w)

  tree : (c : In_default-read) → Words c.args.file.now ts c.args.kinds.now c.args.values.now c.args.places.now
      → crowded 0 0 0 ts ≡ none → (m : Monitor) × (spell m ≡ lexemes ts)
  tree c w room =
      tree_read w room (rw c.in_default-read.is at (c.read.ensures (lexemes ts) (kinds_of w) (few_lexemes ts room)))

  few : (c : In_default-find_past_limit)
      → Words c.args.file.now ts c.args.kinds.now c.args.values.now c.args.places.now
      → past_limit 0 0 0 0 ts ≡ none
  few c w = found_nothing _ (sym c.in_default-find_past_limit.is ∙ c.find_past_limit.ensures _ ts _ w)

  named : (c : In_default-find_misnamed)
      → Words c.args.file.now ts c.args.kinds.now c.args.values.now c.args.places.now
      → past_limit 0 0 0 0 ts ≡ none → misnamed (number 0) [] [] ts ≡ none
  named c w few = found_nothing _ (sym c.in_default-find_misnamed.is ∙ c.find_misnamed.ensures ts w few)

  -- what the variables' reader says
  ranged : (c : After-read-2) → Words c.args.file.now ts c.args.kinds.now c.args.values.now c.args.places.now
      → crowded 0 0 0 ts ≡ none → (m : Monitor) → spell m ≡ lexemes ts → past_limit 0 0 0 0 ts ≡ none
      → Ranged (all m.vars) (lexemes ts) (key k_keep ∷ behind_keep m) first_var c.read-2.result
  ranged c w room m spelt few =
      c.read-2.ensures (all m.vars) (lexemes ts) (key k_keep ∷ behind_keep m) (numbers w) (vars_stand ts m spelt)
      (vars_end ts m spelt) (few_parts ts m spelt few).vars (few_lexemes ts room)

pub returns-in-Some : goal.returns-in-Some
unfolding Judges
returns-in-Some c ts w = (
  omega arith,
  omega arith,
  rw c.from.ensures (says_3 w (found_at _ _ (sym c.in-Some.is ∙ c.find_crowded.ensures _ ts _ w))),
)

pub returns-in-Err : goal.returns-in-Err
unfolding Judges
returns-in-Err c ts w =
    let room = room (goal.at.returns-in-Err c).In_default w in (
      omega arith,
      omega arith,
      rw c.place_of.ensures
          (says_4 w room _ (rw c.in-Err.is at (c.read.ensures (lexemes ts) (kinds_of w) (few_lexemes ts room)))),
    )

pub returns-in-Some-find_past_limit : goal.returns-in-Some-find_past_limit
unfolding Judges
returns-in-Some-find_past_limit c ts w =
    let at = goal.at.returns-in-Some-find_past_limit c in
    let room = room at.In_default w in
    let (m, spelt) = tree at.In_default-read w room in (
      omega arith,
      omega arith,
      rw c.from-in-Some-find_past_limit.ensures
          (says_5 w room m spelt
          (found_at _ _ (sym c.in-Some-find_past_limit.is ∙ c.find_past_limit.ensures _ ts _ w))),
    )

pub returns-in-Some-find_misnamed : goal.returns-in-Some-find_misnamed
unfolding Judges
returns-in-Some-find_misnamed c ts w =
    let at = goal.at.returns-in-Some-find_misnamed c in
    let room = room at.In_default w in
    let (m, spelt) = tree at.In_default-read w room in
    let few = few at.In_default-find_past_limit w in (
      omega arith,
      omega arith,
      rw c.from-in-Some-find_misnamed.ensures
          (says_6 w room m spelt few
          (found_at _ _ (sym c.in-Some-find_misnamed.is ∙ c.find_misnamed.ensures ts w few))),
    )

pub returns-in-Ok : goal.returns-in-Ok
unfolding Judges
returns-in-Ok c ts w =
    let at = goal.at.returns-in-Ok c in
    let room = room at.In_default w in
    let (m, spelt) = tree at.In_default-read w room in
    let few = few at.In_default-find_past_limit w in
    let named = named at.In_default-find_misnamed w few in
    (m, past_7 w room m spelt few named _ (rw c.in-Ok.is at (ranged at.After-read-2 w room m spelt few)))

pub returns-in-Err-read : goal.returns-in-Err-read
unfolding Judges
returns-in-Err-read c ts w =
    let at = goal.at.returns-in-Err-read c in
    let room = room at.In_default w in
    let (m, spelt) = tree at.In_default-read w room in
    let few = few at.In_default-find_past_limit w in
    let named = named at.In_default-find_misnamed w few in (
      omega arith,
      omega arith,
      rw c.place_of-in-Err-read.ensures
          (says_7 w room m spelt few named _ (rw c.in-Err-read.is at (ranged at.After-read-2 w room m spelt few))),
    )
