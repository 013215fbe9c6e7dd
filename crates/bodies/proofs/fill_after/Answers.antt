-- `bodies::fill_after` meets its contract. The loop's invariant: the lanes have the values of the states from s on, the
-- outcomes from the states below s stand, and from the second turn on the shifts of each region that names no variable
-- which changed serve these states.
use Rattle.std.specs.Prelude.{Some}
use Prim.Native.Nat.{◌+◌, ◌≤◌}
use native.Mathlib.Omega.{arith}
use mathlib.Core.Path.{◌≡◌, refl, sym, ◌∙◌}
use lib.ListN.{length}
use Rattle.syntax.specs.Tree.{Monitor}
use Rattle.meaning.specs.Model.{vars}
use Rattle.bodies.specs.Shifts.{Filling}
use Rattle.bodies.proofs.Filled.{Sofar, sofar_none, sofar_more, filled}
use Rattle.bodies.proofs.fill_after.Goals as goal
use Rattle.bodies.proofs.fill_after.Goals.{In-loop-s, After-shifts_from, After-next-next}

pub loop-s-init : goal.loop-s-init
loop-s-init c =
    (refl, omega arith, refl, refl, λ m f. sofar_none _ _ (c.first_lanes-lanes.ensures (vars m) f.bounded))

-- sixteen states from s on are among 4,096
near : (c : In-loop-s) → c.loop-s.s ≤ 4080
near c = omega arith

pub shifts_from-requires : goal.shifts_from-requires
shifts_from-requires c = let n = near (goal.at.shifts_from-requires c).In-loop-s in omega arith

whole : (c : After-shifts_from)
    → length c.shifts_from.new.shifts ≡ 256
whole c = c.shifts_from.auto.shifts ∙ c.loop-s.invariant.3

pub slice_bounds-put_rows-end : goal.slice_bounds-put_rows-end
slice_bounds-put_rows-end c = sym (whole (goal.at.slice_bounds-put_rows-end c).After-shifts_from)

pub put_rows-requires : goal.put_rows-requires
put_rows-requires c =
    let n = near (goal.at.put_rows-requires c).In-loop-s in
    let w = whole (goal.at.put_rows-requires c).After-shifts_from in
    omega (arith, c.loop-s.invariant.2, c.if-after-lt-AFTER.false, c.if-count-gt-REGIONS.false)

-- a turn writes the outcomes from sixteen states more
turned : (c : After-next-next) (m : Monitor)
    → Filling m c.args.kinds.now c.args.values.now c.args.bounds c.args.ats c.args.named c.args.count
    → Sofar m c.args.named c.next-next.result.values (Some c.next-next.result.changed) c.shifts_from.new.shifts
    c.put_rows.new.after (c.loop-s.s + 16)
turned c m f =
    let i = c.loop-s in
    let next = c.next-next in
    let sofar = i.invariant.4 m f in
    sofar_more f next.result.values next.result.changed sofar
    (c.shifts_from.ensures m f sofar.values sofar.served) c.put_rows.ensures
    (next.ensures.sixteen (vars m) i.s f.bounded sofar.values) next.ensures.unchanged

pub loop-s-preserved : goal.loop-s-preserved
loop-s-preserved c =
    let i = c.loop-s in
    let n = near (goal.at.loop-s-preserved c).In-loop-s in (
      omega arith,
      omega arith,
      c.put_rows.auto.after ∙ i.invariant.2,
      whole (goal.at.loop-s-preserved c).After-shifts_from,
      λ m f.
          turned (goal.at.loop-s-preserved c).After-next-next m f,
    )

pub returns-else-states-gt-STATE_END : goal.returns-else-states-gt-STATE_END
returns-else-states-gt-STATE_END c m ls codes bounded few counted small bodies covers room =
    filled
    (c.loop-s.invariant.4 m (record {
      ls = ls;
      codes = codes;
      bounded = bounded;
      few = few;
      counted = counted;
      bodies = bodies;
      covers = covers;
    }))
    (omega (arith, bounded.states))

-- behind the last sixteen states
pub returns-else-states-gt-STATE_END-2 : goal.returns-else-states-gt-STATE_END-2
returns-else-states-gt-STATE_END-2 c m ls codes bounded few counted small bodies covers room =
    filled
    (turned (goal.at.returns-else-states-gt-STATE_END-2 c).After-next-next m (record {
      ls = ls;
      codes = codes;
      bounded = bounded;
      few = few;
      counted = counted;
      bodies = bodies;
      covers = covers;
    }))
    (omega (arith, bounded.states))

pub returns-then-after-lt-AFTER : goal.returns-then-after-lt-AFTER
returns-then-after-lt-AFTER = λ c m ls _ _ _ _ _ _ _ room. absurd (omega arith)

pub returns-then-count-gt-REGIONS : goal.returns-then-count-gt-REGIONS
returns-then-count-gt-REGIONS = λ c m ls _ _ _ _ small _ _ room. absurd (omega arith)

pub returns-then-states-gt-STATE_END : goal.returns-then-states-gt-STATE_END
returns-then-states-gt-STATE_END = λ c m ls _ bounded _ _ _ _ _ room. absurd (omega (arith, bounded.states, bounded.few_states))
