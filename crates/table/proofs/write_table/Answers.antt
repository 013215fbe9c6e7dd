-- `table::write_table` meets its contract. The loop's invariant: the lines of the regions passed are written.
use Prim.Native.Nat.{ℕ, ◌+◌, ◌*◌, ◌≤◌}
use mathlib.Core.Path.{◌≡◌}
use native.Mathlib.Omega.{arith}
use Rattle.meaning.specs.Decide.Table.{for_each}
use Rattle.table.specs.Slices.{lines_at, table_at}
use Rattle.digits.proofs.Writing.{written_none, turn_length, turn_room, turn}
use Rattle.table.proofs.Lines.{writes_short, writes_long, put, not_put}
use Rattle.table.proofs.write_table.Goals as goal
use Rattle.table.proofs.write_table.Goals.{then-regions-gt-REGIONS-via-then-regions-gt-REGIONS, then-regions-gt-REGIONS-via-else-regions-gt-REGIONS+then-guards-gt-REGIONS}

-- the table fits
room : (n l k : ℕ) → n * 9 ≡ l → n * 9 ≤ k → 0 + l ≤ k
room n l k e h = omega arith

pub returns-then-regions-gt-REGIONS : goal.returns-then-regions-gt-REGIONS
returns-then-regions-gt-REGIONS c = not_put (λ hr hg. elim c.then-regions-gt-REGIONS.branch [
  | then-regions-gt-REGIONS-via-then-regions-gt-REGIONS w ↦ omega arith
  | then-regions-gt-REGIONS-via-else-regions-gt-REGIONS+then-guards-gt-REGIONS w ↦ omega arith
])

pub returns-then-table-size : goal.returns-then-table-size
returns-then-table-size c = put (omega arith) (omega arith) (writes_short _ _ (omega arith))

pub loop-r-init : goal.loop-r-init
unfolding for_each
loop-r-init c = (written_none _ _, omega arith)

pub write_region-at-requires : goal.write_region-at-requires
unfolding table_at
write_region-at-requires c =
    let a = c.args in (
      turn_room a.regions (lines_at a.entries.now a.guards) (room _ _ _ c.count-size.ensures.0 c.if-table-size.false) c.loop-r.r c.loop-r.invariant.0
          c.loop-r-test.true,
      omega arith,
      omega arith,
    )

pub loop-r-preserved : goal.loop-r-preserved
unfolding table_at
loop-r-preserved c =
    let a = c.args in (
      turn a.regions (lines_at a.entries.now a.guards) (room _ _ _ c.count-size.ensures.0 c.if-table-size.false) c.loop-r.r c.loop-r.invariant.0
          c.loop-r-test.true c.write_region-at.ensures,
      omega arith,
    )

pub shape_of-table : goal.shape_of-table
unfolding table_at
shape_of-table c =
    let a = c.args in
    turn_length a.regions (lines_at a.entries.now a.guards) (room _ _ _ c.count-size.ensures.0 c.if-table-size.false) c.loop-r.r c.loop-r.invariant.0
    c.loop-r.invariant.1

pub returns : goal.returns
unfolding table_at
returns c =
    let e : c.loop-r.r ≡ c.args.regions = omega arith in
    put (omega arith) (omega arith)
    (writes_long _ _ _ _ (omega arith) c.count-size.ensures.0
    (rw e at c.loop-r.invariant.0.bytes))
