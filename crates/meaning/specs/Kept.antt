-- The kept condition at some values. Whatever asks for it, 8, 9, 11, the table and the machines, cites this name.
use Rattle.std.specs.Prelude.{Bool, ◌&&◌, List, ℤ}
use Rattle.syntax.specs.Tree.{Monitor, all}
use Rattle.meaning.specs.Value.{truth}
use Rattle.meaning.specs.Decide.Choice.{all_hold, chosen_tries}

-- "keep and the chosen ones together" (R 5.1)
unfoldable pub kept_at : Monitor → List ℤ → Bool
kept_at m as' = truth m.keep (all m.vars) as' && all_hold m (chosen_tries m) as'
