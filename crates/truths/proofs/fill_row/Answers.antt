-- `truths::fill_row` meets its contract. The loop's invariant: the truth at each state below s is held, the lanes have the
-- values of the sixteen states from s on, and what is known is carried over to these.
use Prim.Native.Nat.{ℕ, ◌+◌, ◌<◌}
use native.Mathlib.Omega.{arith}
use mathlib.Core.Path.{refl, ap, ◌∙◌}
use mathlib.Core.List.{List}
use lib.ListN.{get_or}
use Rattle.syntax.specs.Tree.{Var, Cond}
use Rattle.logic.specs.Tests.{bit}
use Rattle.states.specs.Rows.{TruthRow}
use Rattle.truths.proofs.Carrying.{carried_next, carried_first, sixteen_more}
use Rattle.truths.specs.Carried.{Condition}
use Rattle.truths.proofs.fill_row.Goals as goal
use Rattle.truths.proofs.fill_row.Goals.{After-put_bits}
use Rattle.truths.proofs.fill_row.Invariants.{Right}

pub returns-then-states-gt-STATE_END : goal.returns-then-states-gt-STATE_END
returns-then-states-gt-STATE_END c vs d given long = absurd (omega (arith, given.bounded.states, given.bounded.few_states))

pub returns-then-row-lt-STATES : goal.returns-then-row-lt-STATES
returns-then-row-lt-STATES c vs d given long = absurd (omega arith)

pub loop-s-init : goal.loop-s-init
loop-s-init c = (
  omega arith,
  omega arith,
  refl,
  λ vs d given. (
    λ n h. absurd (omega arith),
    c.first_lanes-lanes.ensures vs given.bounded,
    carried_first d _ _,
  ),
)

-- a turn writes the truths at sixteen states more
written : (c : After-put_bits) (vs : List Var) (d : Cond)
    → Condition vs d c.args.kinds.now c.args.values.now c.args.bounds c.args.at c.args.named
    → (n : ℕ) → n < c.loop-s.s + 16 → Right vs d n (get_or c.put_bits.new.row n 0)
written c vs d given =
    let put = c.put_bits in
    let i = c.loop-s in
    let (rows, lanes, carried) = i.invariant.3 vs d given in
    let known = c.truth_from-known.ensures vs d _ i.s given lanes carried in
    sixteen_more (Right vs d) i.row put.new.row i.s rows put.ensures.others
    (λ j h low. put.ensures.here j h ∙ ap bit (known.each j h low))

pub loop-s-preserved : goal.loop-s-preserved
loop-s-preserved c =
    let put = c.put_bits in
    let held = c.truth_from-known in
    let i = c.loop-s in
    let more = c.next-more in (
      omega arith,
      omega arith,
      put.auto.row ∙ i.invariant.2,
      λ vs d given.
          let (rows, lanes, carried) = i.invariant.3 vs d given in
          let known = held.ensures vs d _ i.s given lanes carried in
          let later = more.ensures.sixteen vs i.s given.bounded lanes in (
            written (goal.at.loop-s-preserved c).After-put_bits vs d given,
            later,
            carried_next _ _ _ i.s lanes later more.ensures.unchanged d _ given.covers known.each,
          ),
    )

pub returns-else-row-lt-STATES : goal.returns-else-row-lt-STATES
unfolding TruthRow
returns-else-row-lt-STATES c vs d given long n h =
    (c.loop-s.invariant.3 vs d given).0 n (omega (arith, given.bounded.states)) h

-- behind the last sixteen states
pub returns-else-row-lt-STATES-2 : goal.returns-else-row-lt-STATES-2
unfolding TruthRow
returns-else-row-lt-STATES-2 c vs d given long n h =
    written (goal.at.returns-else-row-lt-STATES-2 c).After-put_bits vs d given n (omega (arith, given.bounded.states)) h
