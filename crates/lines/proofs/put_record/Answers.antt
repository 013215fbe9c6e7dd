-- `lines::put_record` meets its contract: where there is room the line is four parts, one written behind the other.
use native.Mathlib.Omega.{arith}
use mathlib.Core.Path.{◌∙◌}
use lib.ListN.{length, take}
use lib.Seq.{length-take-le}
use Rattle.meaning.specs.Hex.{hex2}
use Rattle.lines.specs.Written.{held_line}
use Rattle.digits.proofs.Writing.{written_four, written_same, written_length}
use Rattle.lines.proofs.Writing.{each_length, each_take, values_length, places_length, values_each, places_each, put, not_put}
use Rattle.lines.proofs.put_record.Goals as goal

pub returns-then-vars-gt-VARIABLES : goal.returns-then-vars-gt-VARIABLES
returns-then-vars-gt-VARIABLES c = not_put (λ room. omega (arith, room.0, room.1))

pub returns-then-not-has_room : goal.returns-then-not-has_room
returns-then-not-has_room c =
    let few = c.has_room.ensures.too_little c.if-not-has_room.true in
    not_put (λ room. omega (arith, room.0, room.1))

pub put_each-two-requires : goal.put_each-two-requires
unfolding hex2
put_each-two-requires c =
    let enough = c.has_room.ensures.room c.if-not-has_room.false in
    let one = written_length c.put2-one.ensures (omega arith) in
    let n = length-take-le c.args.vars c.value_bytes-values.result (omega (arith, c.value_bytes-values.ensures.long)) in
    omega (arith, c.put2-one.ensures.behind)

pub put_each-three-requires : goal.put_each-three-requires
unfolding hex2
put_each-three-requires c =
    let enough = c.has_room.ensures.room c.if-not-has_room.false in
    let one = written_length c.put2-one.ensures (omega arith) in
    let n = length-take-le c.args.vars c.value_bytes-values.result (omega (arith, c.value_bytes-values.ensures.long)) in
    let l = each_length (take c.args.vars c.value_bytes-values.result) (length (take c.args.vars c.value_bytes-values.result)) in
    let two = written_length c.put_each-two.ensures (omega (arith, c.put2-one.ensures.behind)) in
    omega (arith, c.put2-one.ensures.behind, c.put_each-two.ensures.behind, c.place_bytes-places.ensures.long)

pub put_end-requires : goal.put_end-requires
unfolding hex2
put_end-requires c =
    let enough = c.has_room.ensures.room c.if-not-has_room.false in
    let one = written_length c.put2-one.ensures (omega arith) in
    let n = length-take-le c.args.vars c.value_bytes-values.result (omega (arith, c.value_bytes-values.ensures.long)) in
    let l = each_length (take c.args.vars c.value_bytes-values.result) (length (take c.args.vars c.value_bytes-values.result)) in
    let two = written_length c.put_each-two.ensures (omega (arith, c.put2-one.ensures.behind)) in
    let m = each_length c.place_bytes-places.result (length c.place_bytes-places.result) in
    let three = written_length c.put_each-three.ensures (omega (arith, c.put2-one.ensures.behind, c.put_each-two.ensures.behind, c.place_bytes-places.ensures.long)) in
    omega (arith, c.put2-one.ensures.behind, c.put_each-two.ensures.behind, c.put_each-three.ensures.behind, c.place_bytes-places.ensures.long)

pub returns : goal.returns
unfolding held_line hex2
returns c =
    let a = c.args in
    let enough = c.has_room.ensures.room c.if-not-has_room.false in
    let long = c.value_bytes-values.ensures.long in
    let values = written_same
    (each_take c.value_bytes-values.result a.vars (omega arith)
    ∙ values_each a.values c.value_bytes-values.result a.vars (λ k h. c.value_bytes-values.ensures.each k (omega arith)))
    c.put_each-two.ensures in
    let places = written_same
    (rw c.place_bytes-places.ensures.long (places_each a.threads c.place_bytes-places.result 16 c.place_bytes-places.ensures.each))
    c.put_each-three.ensures in
    let n = values_length a.values a.vars in
    let m = places_length a.threads 16 in
    put (omega arith, omega arith)
    (written_four c.put2-one.ensures values places c.put_end.ensures (omega (arith, n, m, enough)))
