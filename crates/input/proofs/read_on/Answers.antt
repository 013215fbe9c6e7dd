use Rattle.std.proofs.Common.{rules, take, take_at, length-take-le, arith}
use Rattle.input.proofs.Reading.{turn, read_in_place}
use Rattle.input.proofs.read_on.Goals as goal

pub loop-done-preserved : goal.loop-done-preserved
loop-done-preserved g c =
    let l = c.loop-done in
    let i = l.invariant in
    let e = c.in-Ok.ensures in
    let there = length-take-le l.done l.buf i.within in
    let taken = read_in_place _ _ c.in-Ok.more _ c.read.new.buf _ l.done there e.bound.0 e.bytes.0 in
    let t =
    turn _ _ _ i.kept (search rules) i.bytes
    (record { size = search rules; first = take_at (take l.done l.buf) _ l.done there; counted = omega arith })
    (search rules) taken in
    record {
      kept = t.0;
      within = search rules;
      bytes = t.1;
    }
