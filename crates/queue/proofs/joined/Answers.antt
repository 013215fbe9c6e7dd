-- `queue::joined` meets its contract: what stands below the place, and the thread there; in sixty-four bits nothing is lost.
use Prim.Native.Nat.{ℕ, ◌+◌, ◌-◌, ◌*◌, ◌/◌, ◌%◌, ◌^◌}
use mathlib.Core.Path.{ap₂, ◌∙◌}
use native.Mathlib.Nat.{mod-lt, mod-le, mod-eq_of_lt, div-mul-le_self, le_trans}
use native.Mathlib.Omega.{arith}
use lib.Dec.{lit<}
use Rattle.queue.proofs.Packing.{joined_is, back_fits, thread_fits, joined_fits}
use Rattle.queue.proofs.joined.Goals as goal

pub overflow_sub-result : goal.overflow_sub-result
overflow_sub-result c =
    let a = c.args in
    let p = 2 ^ (a.count % 16 * 4) in
    le_trans (mod-le (a.order / p * p) (2 ^ 64)) (div-mul-le_self a.order p)

pub overflow_add-result : goal.overflow_add-result
overflow_add-result c =
    let a = c.args in
    let k = a.count % 16 in
    let t = a.t % 16 in
    let p = 2 ^ (k * 4) in
    let e = back_fits a.order c.ranges.order.fits p in
    let d = thread_fits a.order k t (mod-lt a.count (lit< tt)) (mod-lt a.t (lit< tt)) in
    let f = joined_fits a.order k t (mod-lt a.count (lit< tt)) (mod-lt a.t (lit< tt)) in
    record { fits = omega arith }

pub returns : goal.returns
returns c h l =
    let a = c.args in
    let k = a.count % 16 in
    let t = a.t % 16 in
    let p = 2 ^ (k * 4) in
    ap₂ (λ (x y : ℕ). a.order - x + y) (back_fits a.order c.ranges.order.fits p)
    (thread_fits a.order k t (mod-lt a.count (lit< tt)) (mod-lt a.t (lit< tt)))
    ∙ ap₂ (λ (x y : ℕ). a.order - a.order / 2 ^ (x * 4) * 2 ^ (x * 4) + y * 2 ^ (x * 4)) (mod-eq_of_lt h)
    (mod-eq_of_lt l)
    ∙ joined_is a.order a.count a.t
