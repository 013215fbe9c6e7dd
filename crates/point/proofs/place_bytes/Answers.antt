-- `point::place_bytes` meets its contract: each call gives the byte of its thread's place.
use Rattle.std.proofs.Common.{of_calls}
use Rattle.threads.specs.Held.{places_of, idle_thread}
use Rattle.sixteen.proofs.Arrays.{made_each}
use Rattle.point.proofs.place_bytes.Goals as goal

pub returns : goal.returns
unfolding places_of idle_thread
returns c = made_each _ (λ k y q called. search of_calls) 0 c.from_fn.ensures.items
