use Prim.Native.Nat.{ℕ}
use mathlib.Core.Path.{◌≡◌}
use mathlib.Core.Bool.{true}
use mathlib.Core.List.{List}
use Rattle.sets.specs.Set.{member}
use Rattle.machine.specs.Monitor.{Threads, waits_on}
use Rattle.machine.specs.Queue.{those}
use Rattle.machine.specs.Arrival.{Once}
use Rattle.queue.specs.Packed.{queue_of, behind_of}
use Rattle.threads.specs.declared.Thread.{Thread}
use Rattle.threads.specs.Held.{places_of}
use Rattle.waiters.specs.Slices.{guards_only}
use Rattle.waiters.specs.Told.{on_one, new_first}
use Rattle.waiters.proofs.Loops.{Gathered}
use Rattle.waiters.proofs.Front.{some}
use Rattle.waiters.proofs.told.Given as goal

-- the threads that the loop goes through
abbrev known : List Thread → ℕ → ℕ → Threads
known each order waiting = record { place = places_of each; queue = queue_of order waiting }

abbrev pub invariant-loop : goal.invariant-loop
invariant-loop l =
    (l.rest ≡ behind_of l.initial.rest l.counter)
    × Gathered l.plain (queue_of l.initial.rest l.counter) (λ v. on_one l.guard_of (member l.newly) (places_of l.threads.each v))
    × (Once (queue_of l.initial.rest l.threads.waiting) → Gathered l.table (queue_of l.initial.rest l.counter)
    (λ v. new_first l.guard_of l.entries (member l.newly) (known l.threads.each l.initial.rest l.threads.waiting) l.region v (places_of l.threads.each v)))
    × ((g : ℕ) → member l.newly g ≡ true
    → member l.met g ≡ some (those (waits_on (guards_only l.guard_of) (known l.threads.each l.initial.rest l.threads.waiting) g) (queue_of l.initial.rest l.counter)))
