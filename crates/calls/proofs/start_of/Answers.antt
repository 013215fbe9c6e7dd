-- `calls::start_of` meets its contract: a refused file has no start, an accepted one that of the variables that were
-- loaded.
use mathlib.Core.Path.{◌∙◌}
use Rattle.calls.proofs.Loaded.{no_start, start_at}
use Rattle.calls.proofs.start_of.Goals as goal

pub returns-in-Err : goal.returns-in-Err
returns-in-Err c file kept holds after loads = no_start loads c.in-Err.ensures.1

pub returns-in-Ok : goal.returns-in-Ok
returns-in-Ok c file kept holds after loads =
    c.from.ensures ∙ start_at loads c.in-Ok.ensures.1 _ c.number_of.ensures.is
