-- `bodies::shifts_from` meets its contract. The loop's invariant: the shifts of the regions below r serve these states,
-- and those of the others are as they were.
use Prim.Native.Nat.{◌+◌, ◌*◌, ◌<◌}
use native.Mathlib.Omega.{arith}
use mathlib.Core.Path.{refl, ◌∙◌}
use lib.ListN.{get_or}
use Rattle.syntax.specs.Tree.{Monitor}
use Rattle.meaning.specs.Model.{vars, region}
use Rattle.meaning.specs.State.{count}
use Rattle.lanes.specs.Promises.{Sixteen, Values, SomeApart}
use Rattle.bodies.specs.Shifts.{Filling, AllServe, Stretch, Tells, Ran}
use Rattle.bodies.proofs.Shifting.{body_of, serves_more}
use Rattle.bodies.proofs.Stretches.{stretch_map}
use Rattle.bodies.proofs.shifts_from.Goals as goal
use Rattle.bodies.proofs.shifts_from.Goals.{then-anew, else-anew, Joined-anew}

pub loop-r-init : goal.loop-r-init
loop-r-init c = (omega arith, refl, λ n h. refl, λ m f v w i h. absurd (omega arith))

-- what is known behind a region's turn
abbrev At : Type 0
At = Joined-anew

abbrev Given : At → Monitor → Type 0
Given c m =
    let a = c.args in
    Filling m a.kinds.now a.values.now a.bounds a.ats a.named a.count
    × Sixteen (vars m) (Values (vars m) a.lanes) a.s
    × AllServe m (λ i. SomeApart (get_or a.named i 0) a.changed) a.shifts.now a.s

-- its sixteen shifts tell what its body does, as it was run or as they were
turn : (c : At) →
    let g = c in
    let s = g.args.s in
    Stretch (g.loop-r.r * 16)
    (λ j x. (m : Monitor) → Given c m → s + j < count (vars m) → Tells (vars m) (region m g.loop-r.r) (s + j) x)
    g.loop-r.shifts c.if-anew.shifts 16
unfolding AllServe
turn c =
    let a = c.args in
    let r = c.loop-r.r in
    elim c.if-anew.branch [
      | then-anew w ↦ rw w.shifts-is (stretch_map
          {Right = Ran a.kinds.now a.values.now a.bounds a.lanes w.from-at.result a.s}
          (λ j x l ran m given low.
          ran.tells (vars m) (region m r) (body_of given.0 r w.from-at.result (omega arith) w.from-at.ensures) low
          (given.1.each j l low)) w.run_from.ensures)
      | else-anew w ↦ rw w.shifts-is (record {
        long = refl;
        here = λ j l m given low.
            let still = c.anew.ensures w.if-anew.false in
            rw (c.loop-r.invariant.2 (r * 16 + j) (omega arith))
            ((given.2 r (omega (arith, given.0.counted)) still).each j l low);
        before = λ i h. refl;
        behind = λ i h. refl;
      })
    ]

pub loop-r-preserved : goal.loop-r-preserved
loop-r-preserved c =
    let i = c.loop-r in
    let t = turn (goal.at.loop-r-preserved c).Joined-anew in (
      omega arith,
      t.long ∙ i.invariant.1,
      λ n h. t.behind n (omega arith) ∙ i.invariant.2 n (omega arith),
      λ m f v w.
          serves_more (region m) (stretch_map (λ j x l told. told m (f, v, w)) t) (i.invariant.3 m f v w),
    )

pub returns : goal.returns
returns c m f v w r h = c.loop-r.invariant.3 m f v w r (omega (arith, f.counted))

pub shape_of-shifts : goal.shape_of-shifts
shape_of-shifts = λ c. c.loop-r.invariant.1
