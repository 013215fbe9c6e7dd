-- `Offers::of` meets its contract: the look-up and the calls are the parts of what the thread has.
use native.Mathlib.Omega.{arith}
use mathlib.Core.Path.{◌∙◌}
use Rattle.threads.specs.Held.{places_of, idle_thread}
use Rattle.allowed.specs.Offered.{offered_at}
use Rattle.allowed.proofs.Offers.of.Goals as goal

pub returns : goal.returns
unfolding offered_at places_of idle_thread
returns c = record {
  offers = c.from-3.ensures ∙ c.offered.ensures ∙ rw (c.from.ensures, c.has.ensures, c.from-2.ensures);
  small = omega (arith, c.from-3.ensures);
}
