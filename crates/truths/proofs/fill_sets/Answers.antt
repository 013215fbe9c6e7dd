-- `truths::fill_sets` meets its contract. The loop's invariant: the conditions that hold at each state below s are held,
-- the lanes have the values of the sixteen states from s on, and what is known is carried over to these.
use Prim.Native.Nat.{ℕ, ◌+◌, ◌<◌}
use native.Mathlib.Omega.{arith}
use mathlib.Core.Path.{refl, ap, ◌∙◌}
use mathlib.Core.List.{List}
use lib.ListN.{get_or}
use Rattle.syntax.specs.Tree.{Var, Cond}
use Rattle.sets.specs.Set.{member}
use Rattle.meaning.specs.Model.{no_guard}
use Rattle.states.specs.Rows.{TruthSets}
use Rattle.truths.specs.Carried.{Conditions, CarriedAll}
use Rattle.truths.proofs.Carrying.{all_next, carried_first, sixteen_more}
use Rattle.truths.proofs.fill_sets.Goals as goal
use Rattle.truths.proofs.fill_sets.Goals.{After-put_sets}
use Rattle.truths.proofs.fill_sets.Invariants.{Right}

pub returns-then-texts-eq0 : goal.returns-then-texts-eq0
unfolding TruthSets
returns-then-texts-eq0 c vs cs given long g s h low = absurd (omega (arith, given.counted))

pub returns-then-texts-gt-REGIONS : goal.returns-then-texts-gt-REGIONS
returns-then-texts-gt-REGIONS c vs cs given long = absurd (omega (arith, given.few_conditions))

pub returns-then-states-gt-STATE_END : goal.returns-then-states-gt-STATE_END
returns-then-states-gt-STATE_END c vs cs given long = absurd (omega (arith, given.bounded.states, given.bounded.few_states))

pub returns-then-row-lt-STATES : goal.returns-then-row-lt-STATES
returns-then-row-lt-STATES c vs cs given long = absurd (omega (arith, long (omega arith)))

pub loop-s-init : goal.loop-s-init
unfolding CarriedAll
loop-s-init c = (
  omega arith,
  omega arith,
  refl,
  refl,
  λ vs cs given. (
    λ n h. absurd (omega arith),
    c.first_lanes-lanes.ensures vs given.bounded,
    λ g h. carried_first (get_or cs g no_guard) _ _,
  ),
)

-- a turn writes the conditions that hold at sixteen states more
written : (c : After-put_sets) (vs : List Var) (cs : List Cond)
    → Conditions vs cs c.args.kinds.now c.args.values.now c.args.bounds c.args.texts.ats c.args.texts.named c.args.texts.count
    → (n : ℕ) → n < c.loop-s.s + 16 → Right vs cs n (get_or c.put_sets.new.row n 0)
written c vs cs given =
    let put = c.put_sets in
    let i = c.loop-s in
    let (rows, lanes, carried) = i.invariant.4 vs cs given in
    let known = c.truths_from.ensures vs cs _ i.s given lanes carried in
    sixteen_more (Right vs cs) i.row put.new.row i.s rows put.ensures.others
    (λ j h low g few. ap (λ x. member x g) (put.ensures.here j h) ∙ known.each j h low g few)

pub loop-s-preserved : goal.loop-s-preserved
loop-s-preserved c =
    let put = c.put_sets in
    let truths = c.truths_from in
    let i = c.loop-s in
    let more = c.next-more in (
      omega arith,
      omega arith,
      put.auto.row ∙ i.invariant.2,
      truths.auto.sets ∙ i.invariant.3,
      λ vs cs given.
          let (rows, lanes, carried) = i.invariant.4 vs cs given in
          let known = truths.ensures vs cs _ i.s given lanes carried in
          let later = more.ensures.sixteen vs i.s given.bounded lanes in (
            written (goal.at.loop-s-preserved c).After-put_sets vs cs given,
            later,
            all_next _ _ _ i.s lanes later more.ensures.unchanged cs _ _ given.covers known,
          ),
    )

pub returns-else-row-lt-STATES : goal.returns-else-row-lt-STATES
unfolding TruthSets
returns-else-row-lt-STATES c vs cs given long g s h low =
    (c.loop-s.invariant.4 vs cs given).0 s (omega (arith, given.bounded.states)) low g h

-- behind the last sixteen states
pub returns-else-row-lt-STATES-2 : goal.returns-else-row-lt-STATES-2
unfolding TruthSets
returns-else-row-lt-STATES-2 c vs cs given long g s h low =
    written (goal.at.returns-else-row-lt-STATES-2 c).After-put_sets vs cs given s (omega (arith, given.bounded.states)) low g h
