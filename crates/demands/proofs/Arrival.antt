-- Waiters by arrival, of files: from what `machine` shows of every run.
use Prim.Native.Nat.{ℕ}
use mathlib.Core.Path.{◌≡◌}
use mathlib.Core.Bool.{true}
use mathlib.Core.List.{List}
use Rattle.syntax.specs.Tree.{Monitor}
use Rattle.machine.specs.Monitor.{Frame, Config, all_idle}
use Rattle.machine.specs.Rules.{Rules}
use Rattle.machine.specs.Arrival.{Counts}
use Rattle.machine.specs.Agreement.{Checked}
use Rattle.machine.proofs.Reached.{start_reached, rules_reached}
use Rattle.machine.proofs.Turns.{lined_turns, lined_lines, rule_turns}
use Rattle.machine.proofs.Arrival.{in_order}
use Rattle.machine.proofs.Count.{listed, plain_run_counts, table_run_counts}
use Rattle.meaning.specs.Model.{kept, model}
use Rattle.meaning.specs.Calls.{Machine, plain_machine, table_machine, notices_of}
use Rattle.demands.specs.Arrival.{DemandArrival}
use Rattle.demands.proofs.Demand2.{checked}

run_counts : (m : Monitor) → Checked (model m) → (w : Machine) (s : ℕ) → kept m s ≡ true → (fs : List Frame) (c : Config)
    → Rules (model m) (notices_of m w) (all_idle s) fs c → Counts (model m) (notices_of m w) c
unfolding notices_of model
run_counts m ok plain_machine s k fs c r = plain_run_counts (model m) ok s k fs c r
run_counts m ok table_machine s k fs c r = table_run_counts (model m) ok s k fs c r

pub by_arrival : DemandArrival
unfolding model
by_arrival = record {
  arrival = λ file m e w s k fs c r.
      let ok = checked file m e in
      let lined = (rules_reached (model m) ok (notices_of m w) r (start_reached (model m) s k)).lined in
      record {
        lined = lined;
        turns = lined_turns (model m) lined;
        in_order = in_order (model m) ok (notices_of m w) s fs c r;
        lines = lined_lines (model m) lined;
        after = λ f d x. rule_turns (model m) (notices_of m w) x lined;
        listed = listed (model m) (notices_of m w) c;
        counts = run_counts m ok w s k fs c r;
      };
}
