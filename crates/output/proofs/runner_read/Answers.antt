-- `output::runner_read` meets its contract: the lines of what was read are those of what was handed in.
use native.Mathlib.Omega.{arith}
use Rattle.output.proofs.Stands.{counted, both_parts, judged}
use Rattle.output.proofs.runner_read.Goals as goal

pub returns : goal.returns
returns c =
    let p = c.runner_lines.ensures.prints in
    record {
      prefix_len = counted p;
      prints = λ handed frames r q enough.
          both_parts r (omega arith) frames _ (judged q enough)
          (rw (c.front.ensures, c.front-2.ensures) at p);
      nothing = λ full few. absurd (omega arith);
    }
