-- `point::put_each` meets its contract: the bytes one by one are the bytes.
use mathlib.Core.Path.{◌≡◌, sym}
use lib.ListN.{length}
use borrow.Author.Rules.{rules}
use native.Mathlib.Omega.{arith}
use Rattle.digits.proofs.Writing.{written_same}
use Rattle.point.proofs.Lengths.{each_byte}
use Rattle.point.proofs.put_each.Goals as goal

pub returns : goal.returns
returns c =
    let long : length c.args.bytes ≡ 16 = search rules in
    written_same (sym (rw long at (each_byte c.args.bytes))) (c.put_bytes.ensures.written (omega (arith, long)))
