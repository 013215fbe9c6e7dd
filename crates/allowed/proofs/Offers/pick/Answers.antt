-- `Offers::pick` meets its contract: behind t turns the frames of the first t threads are passed over.
use Prim.Native.Nat.{◌-◌, ◌≤◌, ◌<◌}
use native.Mathlib.Omega.{arith}
use mathlib.Core.Path.{◌≡◌, refl}
use Rattle.threads.specs.Held.{places_of, idle_thread}
use Rattle.allowed.specs.Offered.{sum_each, offered_at}
use Rattle.allowed.proofs.Sums.{sum_next}
use Rattle.allowed.proofs.Offers.pick.Goals as goal

pub returns-then-left-here : goal.returns-then-left-here
unfolding offered_at places_of idle_thread
returns-then-left-here c = λ _.
    let loop = c.loop-t in
    let a = c.args in
    let f = offered_at a.self.now.each a.self.now.methods.count a.self.now.fronts in
    let here : c.of-here.result ≡ f loop.t = c.of-here.ensures.offers in
    let less : loop.left < c.of-here.result = c.if-left-here.true in
    let rest : loop.left ≡ a.index - sum_each loop.t f = omega arith in
    record {
      spot = record { thread = loop.t; region = c.region_at.result };
      found = refl;
      picked = record {
        below = c.loop-t-test.true;
        from = omega arith;
        to = omega arith;
        region = rw (← rest) (rw c.from.ensures at c.region_at.ensures);
      };
    }

pub loop-t-preserved : goal.loop-t-preserved
unfolding offered_at places_of idle_thread
loop-t-preserved c =
    let loop = c.loop-t in
    let a = c.args in
    let f = offered_at a.self.now.each a.self.now.methods.count a.self.now.fronts in
    let here : c.of-here.result ≡ f loop.t = c.of-here.ensures.offers in
    let more : c.of-here.result ≤ loop.left = c.if-left-here.false in
    (rw (sum_next loop.t f) (omega arith), omega arith)

pub returns : goal.returns
returns c = λ h.
    let a = c.args in
    let past : a.self.now.n ≤ c.loop-t.t = c.loop-t-test.false in
    let e : c.loop-t.t ≡ a.self.now.n = omega arith in
    let z : sum_each a.self.now.n (offered_at a.self.now.each a.self.now.methods.count a.self.now.fronts) ≤ a.index =
    rw (← e) (omega arith) in
    absurd (omega arith)

pub loop-t-init : goal.loop-t-init
unfolding sum_each
loop-t-init c = omega arith
