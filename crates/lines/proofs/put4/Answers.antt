-- `lines::put4` meets its contract: two digits are written behind two.
use native.Mathlib.Omega.{arith}
use Rattle.meaning.specs.Hex.{hex2}
use Rattle.meaning.specs.Lines.{hex4}
use Rattle.digits.proofs.Writing.{written_more}
use Rattle.lines.proofs.put4.Goals as goal

pub put2-requires : goal.put2-requires
unfolding hex2
put2-requires c = omega arith

pub returns : goal.returns
unfolding hex4 hex2
returns c =
    written_more c.put2-next.ensures (omega arith) c.put2.ensures
