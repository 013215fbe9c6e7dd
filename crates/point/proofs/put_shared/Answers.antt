-- `point::put_shared` meets its contract: the values, the places and the guards, one behind the other.
use native.Mathlib.Omega.{arith}
use Rattle.digits.proofs.Writing.{written_more, written_length}
use Rattle.point.specs.Held.{held_shared}
use Rattle.point.proofs.Lengths.{values_length, places_length}
use Rattle.point.proofs.put_shared.Goals as goal

pub put_each-two-requires : goal.put_each-two-requires
put_each-two-requires c =
    let v = values_length c.args.values in
    let l = written_length c.put_values-one.ensures (omega arith) in
    omega (arith, l, c.put_values-one.ensures.behind)

pub put_set-requires : goal.put_set-requires
put_set-requires c =
    let a = c.args in
    let v = values_length a.values in
    let p = places_length a.bytes in
    let l = written_length c.put_values-one.ensures (omega arith) in
    let b = c.put_values-one.ensures.behind in
    let k = written_length c.put_each-two.ensures (omega arith) in
    omega (arith, l, k, c.put_each-two.ensures.behind)

pub returns : goal.returns
unfolding held_shared
returns c =
    let a = c.args in
    let v = values_length a.values in
    let p = places_length a.bytes in
    let l = written_length c.put_values-one.ensures (omega arith) in
    let b = c.put_values-one.ensures.behind in
    written_more c.put_values-one.ensures (omega arith)
    (written_more c.put_each-two.ensures (omega arith) c.put_set.ensures)
