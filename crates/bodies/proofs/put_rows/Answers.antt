-- `bodies::put_rows` meets its contract: each turn writes a region's row.
use native.Mathlib.Omega.{arith}
use mathlib.Core.Path.{◌≡◌, refl, ◌∙◌}
use Rattle.bodies.proofs.Stretches.{rows_none, rows_more}
use Rattle.bodies.proofs.put_rows.Goals as goal

pub loop-r-init : goal.loop-r-init
loop-r-init c = (omega arith, refl, rows_none _ _ _)

pub loop-r-preserved : goal.loop-r-preserved
loop-r-preserved c =
    let row = c.put_row in
    (omega arith, row.auto.after ∙ c.loop-r.invariant.1, rows_more (omega arith) c.loop-r.invariant.2 row.ensures)

pub returns : goal.returns
returns c =
    let e : c.loop-r.r ≡ c.args.count = omega arith in
    rw e at c.loop-r.invariant.2

pub shape_of-after : goal.shape_of-after
shape_of-after = λ c. c.loop-r.invariant.1
