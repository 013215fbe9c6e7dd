-- `Threads::begin_wait` meets its contract: the thread's place, its turn, and the queue with it behind all others.
use mathlib.Core.Path.{refl, ◌∙◌}
use native.Mathlib.Nat.{mod-eq_of_lt}
use Rattle.threads.specs.Held.{place_of}
use Rattle.threads.proofs.Replaced.{puts_known}
use Rattle.threads.proofs.Changed.{began_shows, began_turned}
use Rattle.threads.proofs.Threads.begin_wait.Goals as goal

pub returns : goal.returns
unfolding place_of
returns c h lined turned idle =
    let a = c.args in
    let puts = puts_known (c.from.ensures ∙ mod-eq_of_lt h) c.put.ensures in (
      began_shows a.self lined turned a.t h idle a.region _ puts c.joined.ensures refl,
      began_turned a.self lined turned a.t h idle a.region _ puts c.joined.ensures refl,
    )
