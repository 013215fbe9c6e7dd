use mathlib.Core.Path.{◌≡◌}
use Rattle.machine.specs.Monitor.{on_guard}
use Rattle.queue.specs.Packed.{queue_of, behind_of}
use Rattle.threads.specs.Held.{places_of}
use Rattle.waiters.specs.Slices.{guards_only}
use Rattle.waiters.proofs.Loops.{Gathered}
use Rattle.waiters.proofs.line_ahead.Given as goal

abbrev pub invariant-loop : goal.invariant-loop
invariant-loop l =
    (l.order ≡ behind_of l.initial.order l.counter)
    × Gathered l.set (queue_of l.initial.order l.counter) (λ v. on_guard (guards_only l.guard_of) l.guard (places_of l.threads.each v))
