-- `output::runner_lines` meets its contract: a trace is judged by its first 65,536 bytes.
use native.Mathlib.Omega.{arith}
use lib.ListN.{length-take}
use Rattle.demands.proofs.Cut.{runner_cut}
use Rattle.demands.proofs.Demand1.{never_eleven}
use Rattle.output.proofs.runner_lines.Goals as goal

pub put_runs-requires : goal.put_runs-requires
put_runs-requires c = (rw c.front.ensures (simp length-take (omega arith)), omega arith)

pub returns : goal.returns
returns c =
    record {
      prints = rw (← runner_cut) (rw c.front.ensures at c.put_runs.ensures);
      never_eleven = never_eleven _ _;
    }
