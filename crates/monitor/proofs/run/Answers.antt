-- `monitor::run` meets its contract: of both machines' results that of the machine that is asked for.
use mathlib.Core.Path.{sym, subst}
use mathlib.Core.Bool.{Bool}
use Rattle.run.specs.Results.{Runs, machine_of}
use Rattle.meaning.specs.Decide.Calls.{running}
use Rattle.monitor.proofs.run.Goals as goal

pub returns-then-table : goal.returns-then-table
unfolding machine_of
returns-then-table c =
    let r = c in
    let a = r.args in
    subst (λ (w : Bool). Runs (running a.file.now a.bytes.now a.start (machine_of w)) r.run_both-both.result.table)
    (sym c.if-table.true) r.run_both-both.ensures.table_runs

pub returns-else-table : goal.returns-else-table
unfolding machine_of
returns-else-table c =
    let r = c in
    let a = r.args in
    subst (λ (w : Bool). Runs (running a.file.now a.bytes.now a.start (machine_of w)) r.run_both-both.result.plain)
    (sym c.if-table.false) r.run_both-both.ensures.plain_runs
