-- `point::put_point` meets its contract: where there is room the point's parts, one behind the other.
use native.Mathlib.Omega.{arith}
use lib.ListN.{length-append}
use Rattle.digits.proofs.Writing.{written_more, written_length}
use Rattle.lines.proofs.Writing.{put, not_put}
use Rattle.point.specs.Held.{held_set, held_notices, held_table, held_point}
use Rattle.point.proofs.Lengths.{shared_length}
use Rattle.point.proofs.put_point.Goals as goal

pub returns-then-not-has_room : goal.returns-then-not-has_room
returns-then-not-has_room c = let few = c.has_room.ensures.too_little c.if-not-has_room.true in not_put (λ room. omega (arith, few))

pub put_notices-two-requires : goal.put_notices-two-requires
put_notices-two-requires c =
    let a = c.args.point.now in
    let enough = c.has_room.ensures.room c.if-not-has_room.false in
    let s = shared_length a.values a.places a.guards in
    let l = written_length c.put_shared-one.ensures (omega arith) in
    omega (arith, l, c.put_shared-one.ensures.behind)

pub put_table-three-requires : goal.put_table-three-requires
unfolding held_notices held_set
put_table-three-requires c =
    let a = c.args.point.now in
    let enough = c.has_room.ensures.room c.if-not-has_room.false in
    let s = shared_length a.values a.places a.guards in
    let l = written_length c.put_shared-one.ensures (omega arith) in
    let b = c.put_shared-one.ensures.behind in
    let k = written_length c.put_notices-two.ensures (omega arith) in
    omega (arith, l, k, c.put_notices-two.ensures.behind)

pub put_each-requires : goal.put_each-requires
unfolding held_table held_notices held_set
put_each-requires c =
    let a = c.args.point.now in
    let enough = c.has_room.ensures.room c.if-not-has_room.false in
    let s = shared_length a.values a.places a.guards in
    let l = written_length c.put_shared-one.ensures (omega arith) in
    let b = c.put_shared-one.ensures.behind in
    let k = written_length c.put_notices-two.ensures (omega arith) in
    let d = c.put_notices-two.ensures.behind in
    let n = written_length c.put_table-three.ensures (omega arith) in
    omega (arith, l, k, n, c.put_table-three.ensures.behind)

pub returns : goal.returns
unfolding held_point held_table held_notices held_set
returns c =
    let a = c.args.point.now in
    let enough = c.has_room.ensures.room c.if-not-has_room.false in
    let s = shared_length a.values a.places a.guards in
    put (omega arith)
    (written_more (written_more c.put_shared-one.ensures (omega arith) c.put_notices-two.ensures)
    (rw length-append (omega arith)) (written_more c.put_table-three.ensures (omega arith) c.put_each.ensures))
