-- `table::count` meets its contract. The loop's invariant: nine times the count is the length of the lines passed.
use mathlib.Core.Path.{◌≡◌, refl}
use native.Mathlib.Omega.{arith}
use Rattle.meaning.specs.Decide.Table.{for_each}
use Rattle.table.specs.Slices.{table_at}
use Rattle.table.proofs.Lines.{count_more}
use Rattle.table.proofs.count.Goals as goal

pub loop-r-init : goal.loop-r-init
unfolding for_each
loop-r-init c = (refl, omega arith, omega arith)

pub loop-r-preserved : goal.loop-r-preserved
loop-r-preserved c =
    (count_more _ _ _ _ c.loop-r.invariant.0 c.count_region-n.ensures.0, omega arith, omega arith)

pub returns : goal.returns
unfolding table_at
returns c =
    let e : c.loop-r.r ≡ c.args.regions = omega arith in
    (rw e at c.loop-r.invariant.0, omega arith)
