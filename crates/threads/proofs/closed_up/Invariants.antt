use Prim.Native.Nat.{ℕ, ◌≤◌, ◌<◌}
use mathlib.Core.Path.{◌≡◌}
use mathlib.Core.Logic.{◌⊎◌}
use lib.ListN.{length}
use Rattle.machine.specs.Queue.{place_in}
use Rattle.machine.specs.Arrival.{Once}
use Rattle.queue.specs.Packed.{queue_of, behind_of}
use Rattle.threads.specs.Held.{places_of, turns_of, between}
use Rattle.threads.proofs.closed_up.Given as goal

abbrev pub invariant-loop-k : goal.invariant-loop-k
invariant-loop-k l =
    ((u : ℕ) → u < 16 → places_of l.next u ≡ places_of l.initial.next u)
    × ((l.k ≡ l.from) ⊎ (l.k ≤ l.waiting))
    × (l.from < 16 → l.rest ≡ behind_of l.order l.k)
    × (l.from < 16 → Once (queue_of l.order l.waiting) → (u : ℕ) → u < 16
    → turns_of l.next u ≡ between l.from l.k (place_in (queue_of l.order l.waiting) u) (turns_of l.initial.next u))
    × (length l.next ≡ 16)
