-- `bodies::note` meets its contract: each turn stores the shift of its lane.
use Prim.Native.Nat.{◌+◌}
use native.Mathlib.Omega.{arith}
use mathlib.Core.Path.{subst}
use lib.ListN.{get_or}
use Rattle.bodies.specs.Shifts.{ShiftOf}
use Rattle.bodies.proofs.Shifting.{noted}
use Rattle.bodies.proofs.Stretches.{stretch_none, stretch_more, stretch_is, stretch_map}
use Rattle.bodies.proofs.note.Goals as goal

pub loop-j-init : goal.loop-j-init
loop-j-init c = (omega arith, stretch_none _)

pub loop-j-preserved : goal.loop-j-preserved
loop-j-preserved c =
    let to = c.numbers-to.result in
    let s = c.args.s + c.loop-j.j in
    let long = c.loop-j.invariant.1.long in (
      omega arith,
      stretch_more c.shift_of.result c.loop-j.invariant.1 (omega arith)
          (subst (λ b. ShiftOf b (get_or to c.loop-j.j 0) s c.shift_of.result) c.has.ensures
          c.shift_of.ensures),
    )

pub returns : goal.returns
returns c =
    let to = c.numbers-to in
    stretch_map (λ j x l h. noted (get_or to.result j 0) (to.ensures j l).is h)
    (stretch_is c.loop-j.invariant.1 (omega arith) (omega arith))

pub shape_of-shifts : goal.shape_of-shifts
shape_of-shifts = λ c. c.loop-j.invariant.1.long
