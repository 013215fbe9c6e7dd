-- `Offers::count` meets its contract: behind t turns the sum is that of the first t threads.
use Prim.Native.Nat.{◌≤◌}
use native.Mathlib.Omega.{arith}
use mathlib.Core.Path.{◌≡◌, refl}
use Rattle.threads.specs.Held.{places_of, idle_thread}
use Rattle.allowed.specs.Offered.{sum_each, offered_at}
use Rattle.allowed.proofs.Sums.{sum_next}
use Rattle.allowed.proofs.Offers.count.Goals as goal

pub loop-t-init : goal.loop-t-init
unfolding sum_each
loop-t-init c = (refl, omega arith, omega arith)

pub loop-t-preserved : goal.loop-t-preserved
unfolding offered_at places_of idle_thread
loop-t-preserved c =
    let loop = c.loop-t in
    let a = c.args in
    let f = offered_at a.self.now.each a.self.now.methods.count a.self.now.fronts in
    let here : c.of-sum.result ≡ f loop.t = c.of-sum.ensures.offers in
    (rw (sum_next loop.t f) (omega arith), omega arith, omega (arith, c.of-sum.ensures.small))

pub returns : goal.returns
returns c =
    let loop = c.loop-t in
    let z : c.args.self.now.n ≤ loop.t = c.loop-t-test.false in
    let e : loop.t ≡ c.args.self.now.n = omega arith in
    rw (← e) loop.invariant.0

pub overflow_add-sum : goal.overflow_add-sum
overflow_add-sum c = omega (arith, c.of-sum.ensures.small, c.loop-t.invariant.2)
