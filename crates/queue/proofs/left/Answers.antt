-- `queue::left` meets its contract: what stands below the place, and what stands above it, one place lower.
use Prim.Native.Nat.{ℕ, ◌+◌, ◌-◌, ◌*◌, ◌/◌, ◌%◌, ◌^◌}
use mathlib.Core.Path.{ap, ap₂, ◌∙◌}
use native.Mathlib.Nat.{mod-le, mod-eq_of_lt, div-mul-le_self, le_trans}
use native.Mathlib.Omega.{arith}
use Rattle.queue.proofs.Packing.{left_is, back_fits, closed_fits, left_fits}
use Rattle.queue.proofs.left.Goals as goal

pub overflow_sub-result : goal.overflow_sub-result
overflow_sub-result c =
    let a = c.args in
    let p = 2 ^ (a.turn % 16 * 4) in
    le_trans (mod-le (a.order / p * p) (2 ^ 64)) (div-mul-le_self a.order p)

pub overflow_add-result : goal.overflow_add-result
overflow_add-result c =
    let a = c.args in
    let p = 2 ^ (a.turn % 16 * 4) in
    let small = c.ranges.order.fits in
    let e = back_fits a.order small p in
    let d = closed_fits a.order small p in
    let f = left_fits a.order small p in
    record { fits = omega arith }

pub returns : goal.returns
returns c h =
    let a = c.args in
    let p = 2 ^ (a.turn % 16 * 4) in
    let small = c.ranges.order.fits in
    ap₂ (λ (x y : ℕ). a.order - x + y) (back_fits a.order small p) (closed_fits a.order small p)
    ∙ ap (λ (x : ℕ). a.order - a.order / 2 ^ (x * 4) * 2 ^ (x * 4) + a.order / 2 ^ (x * 4) / 16 * 2 ^ (x * 4))
    (mod-eq_of_lt h)
    ∙ left_is a.order a.turn
