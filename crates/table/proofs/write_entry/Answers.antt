-- `table::write_entry` meets its contract: an entry held as 0 has no line, and another has the line that is written.
use native.Mathlib.Omega.{arith}
use Rattle.table.specs.Slices.{line_at}
use Rattle.table.proofs.Lines.{line_none, line_some}
use Rattle.digits.proofs.Writing.{over_none}
use Rattle.table.proofs.write_entry.Goals as goal

pub returns-then-code-eq0 : goal.returns-then-code-eq0
returns-then-code-eq0 c =
    let a = c.args in
    let e = line_none a.entries.now a.r a.g c.if-code-eq0.true in
    record { bytes = rw (e, over_none); behind = rw e (omega arith) }

pub write_line-requires : goal.write_line-requires
write_line-requires c =
    let a = c.args in
    let l = line_some a.entries.now a.r a.g c.if-code-eq0.false in
    omega arith

pub returns : goal.returns
returns c =
    let a = c.args in
    let l = line_some a.entries.now a.r a.g c.if-code-eq0.false in
    record { bytes = unfold line_at in c.write_line.ensures; behind = omega arith }
