-- `calls::place_loaded` meets its contract: a refused file is answered as it was loaded, an accepted one by what writing
-- its table says.
use mathlib.Core.Path.{◌∙◌}
use Rattle.calls.proofs.Loaded.{is_accepted}
use Rattle.calls.proofs.Places.{not_placed, too_short, placed}
use Rattle.calls.proofs.place_loaded.Goals as goal

pub returns-in-Err : goal.returns-in-Err
returns-in-Err c file loads =
    let n = c.not_placed.ensures in
    let (same, other) = c.in-Err.ensures in
    not_placed loads _ _ (n.0 ∙ same, n.1, n.2, n.3) other

pub returns-in-Err-write_table : goal.returns-in-Err-write_table
returns-in-Err-write_table c file loads =
    let w = c in
    let e = w in
    too_short loads (is_accepted _ _ c.verdict.ensures c.in_default.not-Err) _ (e.entries_of-entries.ensures _ loads)
    w.write_table.ensures _ c.from.ensures _ c.not_placed-in-Err-write_table.ensures c.in-Err-write_table.is

pub returns-in-Ok : goal.returns-in-Ok
returns-in-Ok c file loads =
    let w = c in
    let e = w in
    placed loads (is_accepted _ _ c.verdict.ensures c.in_default.not-Err) _ (e.entries_of-entries.ensures _ loads)
    w.write_table.ensures _ c.in-Ok.is
