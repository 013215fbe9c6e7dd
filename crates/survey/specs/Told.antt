-- What the calls of this crate say of a file, every part of each result, for every input. They tell more than the verdict
-- of every file that the checks 1 to 7 and 15 pass (`Past15`), whether it is accepted or refused with 8 or 9.
use Rattle.std.specs.Prelude.{ℕ, ◌<◌, ◌≡◌, Bool, true, false, ◌||◌, List, length, get_or, replicate, eqb}
use Rattle.syntax.specs.Limits.{most_tries}
use Rattle.sets.specs.Set.{member}
use Rattle.syntax.specs.Token.{Token}
use Rattle.syntax.specs.Tree.{Monitor}
use Rattle.meaning.specs.State.{starts}
use Rattle.meaning.specs.Kept.{kept_at}
use Rattle.meaning.specs.Refusal.{Past15}
use Rattle.meaning.specs.Decide.Check.{check}
use Rattle.meaning.specs.Decide.Choice.{chosen_bits, fate_of}
use Rattle.meaning.specs.Model.{vars}
use Rattle.answers.specs.Says.{Is}
use Rattle.outline.specs.Outlined.{Outlines, NoOutline}
use Rattle.outline.specs.declared.Outline.{Outline}
use Rattle.lookup.specs.Looked.{StateIs, NoState, NumberIs, NoNumber}
use Rattle.lookup.specs.declared.State.{State}
use Rattle.lookup.specs.declared.Numbered.{Numbered}
use Rattle.choice.specs.Slots.{Slot}
use Rattle.choice.specs.Chosen.{slot_for}
use Rattle.survey.specs.declared.Fates.{Fates}

-- the numbers of the answers to a file that the checks 1 to 7 and 15 pass, and of those to one that 8 passes too: 0, 8 and
-- 9, and 0 and 9 (R 16.2, 16.13)
unfoldable pub past15 : ℕ → Bool
past15 n = eqb n 0 || eqb n 8 || eqb n 9

unfoldable pub past8 : ℕ → Bool
past8 n = eqb n 0 || eqb n 9

-- the outline: told beside 0, 8 and 9 (R 16.2)
pub record OutlineTold (file : List ℕ) (r : Outline) : Type 0 where
  pub verdict : Is r.answer (check file)
  pub told : (ts : List Token) (m : Monitor) → Past15 file ts m → Outlines ts m r
  pub untold : past15 r.answer.number ≡ false → NoOutline r

-- a state by its number: told where 8 passes too, so beside 0 and 9 (R 16.13)
pub record StateTold (file : List ℕ) (n : ℕ) (r : State) : Type 0 where
  pub verdict : Is r.answer (check file)
  pub told : (ts : List Token) (m : Monitor) → Past15 file ts m → kept_at m (starts (vars m)) ≡ true → StateIs m n r
  pub untold : past8 r.answer.number ≡ false → NoState r

-- a state's number by its values: told beside 0, 8 and 9 (R 16.15)
pub record NumberTold (file values : List ℕ) (r : Numbered) : Type 0 where
  pub verdict : Is r.answer (check file)
  pub told : (ts : List Token) (m : Monitor) → Past15 file ts m → NumberIs (vars m) values r
  pub untold : past15 r.answer.number ≡ false → NoNumber r

-- what becomes of each try: whether it stands, and the pass, the region and the state that break it (R 16.18)
abbrev pub fate_slot : Fates → ℕ → Slot
fate_slot r i =
    record {
      stands = member r.chosen i;
      pass = get_or r.passes i 0;
      region = get_or r.regions i 0;
      state = get_or r.states i 0;
    }

pub record FatesAre (m : Monitor) (r : Fates) : Type 0 where
  pub known : r.known ≡ true
  pub tries : r.tries ≡ length m.tries
  pub chosen : r.chosen ≡ chosen_bits m
  pub each_fate : (i : ℕ) → i < most_tries → fate_slot r i ≡ slot_for (fate_of m i)

-- of a file that is refused otherwise than with 9: nothing (R 16.18)
pub record NoFates (r : Fates) : Type 0 where
  pub known : r.known ≡ false
  pub tries : r.tries ≡ 0
  pub chosen : r.chosen ≡ 0
  pub passes : r.passes ≡ replicate most_tries 0
  pub regions : r.regions ≡ replicate most_tries 0
  pub states : r.states ≡ replicate most_tries 0

-- the fates: told where 8 passes too, so beside 0 and 9 (R 16.18)
pub record FatesTold (file : List ℕ) (r : Fates) : Type 0 where
  pub verdict : Is r.answer (check file)
  pub told : (ts : List Token) (m : Monitor) → Past15 file ts m → kept_at m (starts (vars m)) ≡ true → FatesAre m r
  pub untold : past8 r.answer.number ≡ false → NoFates r
