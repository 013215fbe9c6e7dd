-- `point::put_notices` meets its contract: two sets, one behind the other.
use native.Mathlib.Omega.{arith}
use Rattle.digits.proofs.Writing.{written_more, written_length}
use Rattle.point.specs.Held.{held_set, held_notices}
use Rattle.point.proofs.put_notices.Goals as goal

pub put_set-requires : goal.put_set-requires
unfolding held_set held_notices
put_set-requires c =
    let l = written_length c.put_set-next.ensures (omega arith) in
    omega (arith, l, c.put_set-next.ensures.behind)

pub returns : goal.returns
unfolding held_set held_notices
returns c =
    written_more c.put_set-next.ensures (omega arith) c.put_set.ensures
