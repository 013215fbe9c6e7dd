-- `table::write_region` meets its contract. The loop's invariant: the lines of the guards passed are written.
use mathlib.Core.Path.{◌≡◌}
use native.Mathlib.Omega.{arith}
use Rattle.meaning.specs.Decide.Table.{for_each}
use Rattle.table.specs.Slices.{line_at, lines_at}
use Rattle.digits.proofs.Writing.{written_none, turn_length, turn_room, turn}
use Rattle.table.proofs.write_region.Goals as goal

pub loop-g-init : goal.loop-g-init
unfolding for_each
loop-g-init c = (written_none _ _, omega arith)

pub write_entry-next-requires : goal.write_entry-next-requires
unfolding lines_at
write_entry-next-requires c =
    let a = c.args in (
      turn_room a.guards (line_at a.entries.now a.r) c.requires.0 c.loop-g.g c.loop-g.invariant.0
          c.loop-g-test.true,
      omega arith,
      omega arith,
    )

pub loop-g-preserved : goal.loop-g-preserved
unfolding lines_at
loop-g-preserved c =
    let a = c.args in (
      turn a.guards (line_at a.entries.now a.r) c.requires.0 c.loop-g.g c.loop-g.invariant.0
          c.loop-g-test.true c.write_entry-next.ensures,
      omega arith,
    )

pub shape_of-table : goal.shape_of-table
unfolding lines_at
shape_of-table c =
    let a = c.args in
    turn_length a.guards (line_at a.entries.now a.r) c.requires.0 c.loop-g.g c.loop-g.invariant.0
    c.loop-g.invariant.1

pub returns : goal.returns
unfolding lines_at
returns c =
    let e : c.loop-g.g ≡ c.args.guards = omega arith in
    rw e at c.loop-g.invariant.0
