-- `point::put_values` meets its contract: the bytes are those of the values.
use native.Mathlib.Omega.{arith}
use mathlib.Core.Path.{sym}
use Rattle.digits.proofs.Writing.{written_same}
use Rattle.point.proofs.Lengths.{each_value}
use Rattle.point.proofs.put_values.Goals as goal

pub returns : goal.returns
returns c =
    let long = c.value_bytes.ensures.long in
    let e = each_value c.args.values c.value_bytes.result (λ k h. c.value_bytes.ensures.each k (omega arith)) in
    written_same (sym (rw long at e)) (c.put_bytes.ensures.written (omega (arith, long)))
