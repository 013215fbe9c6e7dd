-- `output::put_runs` meets its contract: the plain machine's line, which is the file's refusal or has the table's
-- behind it.
use native.Mathlib.Omega.{arith}
use Rattle.meaning.specs.Calls.{plain_machine, table_machine}
use Rattle.output.proofs.Printing.{end_fits, one_printed, next_room, two_printed}
use Rattle.output.proofs.put_runs.Goals as goal

pub returns-then-plain : goal.returns-then-plain
returns-then-plain c =
    let p = c in
    let s = p in
    let both = p.run_both_from_start.ensures in
    let short = s.requires.0 in
    one_printed _ _ short _ both.plain_runs
    (p.put_running-next.ensures _ both.plain_runs (end_fits _ _ short plain_machine) (omega (arith, s.requires.1)))
    c.if-plain.true

pub returns : goal.returns
returns c =
    let q = c in
    let p = q in
    let s = p in
    let both = p.run_both_from_start.ensures in
    let short = s.requires.0 in
    let one = p.put_running-next.ensures _ both.plain_runs (end_fits _ _ short plain_machine) (omega (arith, s.requires.1))
    in
    two_printed _ _ short _ both.plain_runs one q.if-plain.false s.requires.1
    (q.put_running.ensures _ both.table_runs (end_fits _ _ short table_machine)
    (next_room _ _ short _ both.plain_runs one s.requires.1))
