-- `Threads::all_idle` meets its contract: sixteen idle threads, and nobody in the queue.
use Prim.Native.Nat.{ℕ, zero, suc}
use mathlib.Core.Path.{◌≡◌, refl, ap, sym, ◌∙◌}
use lib.ListN.{get_or, replicate}
use Rattle.machine.specs.Monitor.{turn, turn_at}
use Rattle.machine.specs.Queue.{place_in}
use Rattle.queue.specs.Packed.{queue_of}
use Rattle.threads.specs.declared.Thread.{Thread}
use Rattle.threads.specs.Held.{place_of, places_of, turns_of, idle_thread}
use Rattle.threads.proofs.Threads.all_idle.Goals as goal

idle_at : (n t : ℕ) → get_or (replicate n idle_thread) t idle_thread ≡ idle_thread
idle_at zero t = refl
idle_at (suc n) zero = refl
idle_at (suc n) (suc t) = idle_at n t

pub returns : goal.returns
unfolding places_of turns_of place_of idle_thread queue_of turn turn_at place_in
returns c = (
  record { same_place = λ u h. ap (λ (x : Thread). place_of x.place) (idle_at 16 u); same_queue = refl },
  record {
    turns = λ u h. ap (λ (x : Thread). x.turn) (idle_at 16 u)
        ∙ sym (ap (λ (x : Thread). turn_at (place_of x.place) 0) (idle_at 16 u));
  },
)
