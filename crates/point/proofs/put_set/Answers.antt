-- `point::put_set` meets its contract: the two bytes of a number of sixteen bits.
use native.Mathlib.Omega.{arith}
use mathlib.Core.Path.{◌≡◌}
use Prim.Native.Nat.{◌/◌, ◌%◌}
use Rattle.digits.proofs.Writing.{written_same}
use Rattle.point.specs.Held.{held_set}
use Rattle.point.proofs.put_set.Goals as goal

pub returns : goal.returns
unfolding held_set
returns c =
    let high : c.args.set / 256 % 256 ≡ c.args.set / 256 = omega arith in
    written_same (rw c.to_le_bytes.ensures (rw high)) (c.put_bytes.ensures.written (omega arith))
