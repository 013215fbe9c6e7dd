-- `loader::load` meets its contract: what was loaded, or the refusal by which nothing more is known.
use Rattle.loader.proofs.Loads.{loaded_said, loads_early, leaves_early}
use Rattle.loader.proofs.load.Goals as goal

pub returns-in-Ok : goal.returns-in-Ok
returns-in-Ok c =
    record {
      loads = λ l₁ l₂ l₃. loaded_said _ _ _ _ _ (c.in-Ok.ensures.loads l₁ l₂ l₃);
      leaves = c.in-Ok.ensures.leaves;
    }

pub returns-in-Err : goal.returns-in-Err
returns-in-Err c =
    let same = c.not_loaded.ensures in
    record {
      loads = λ l₁ l₂ l₃. loads_early _ c.not_loaded.result _ _ _ c.in-Err.refusal same c.from.ensures (c.in-Err.ensures.loads l₁ l₂ l₃);
      leaves = leaves_early c.not_loaded.result c.in-Err.refusal same c.from.ensures c.in-Err.ensures.leaves;
    }
