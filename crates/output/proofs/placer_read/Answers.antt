-- `output::placer_read` meets its contract: the lines of what was read are those of what was handed in.
use native.Mathlib.Omega.{arith}
use Rattle.output.proofs.Stands.{counted, file_part}
use Rattle.output.proofs.placer_read.Goals as goal

pub returns : goal.returns
returns c =
    let p = c.placer_lines.ensures in
    record {
      prefix_len = counted p;
      prints = λ handed r. file_part r (omega arith) (rw c.front.ensures at p);
    }
