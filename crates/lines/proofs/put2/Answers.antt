-- `lines::put2` meets its contract: its bytes are the two digits.
use native.Mathlib.Omega.{arith}
use Rattle.digits.proofs.Writing.{two_digits, written_same}
use Rattle.lines.proofs.put2.Goals as goal

pub returns : goal.returns
returns c =
    written_same (two_digits c.args.n _ _ (omega arith) c.hex_digit.ensures c.hex_digit-2.ensures) (c.put_bytes.ensures.written (omega arith))
