-- `point::put_table` meets its contract: the byte and the notices behind it.
use native.Mathlib.Omega.{arith}
use Rattle.digits.proofs.Writing.{written_more, written_length}
use Rattle.point.specs.Held.{held_set, held_notices, held_table}
use Rattle.point.proofs.put_table.Goals as goal

pub put_notices-requires : goal.put_notices-requires
put_notices-requires c =
    let w = c.put_bytes-next.ensures.written (omega arith) in
    let l = written_length w (omega arith) in
    omega (arith, l, w.behind)

pub returns : goal.returns
unfolding held_set held_notices held_table
returns c = written_more (c.put_bytes-next.ensures.written (omega arith)) (omega arith) c.put_notices.ensures
