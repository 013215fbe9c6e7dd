-- `allowed::methods_of` meets its contract: behind r turns the array holds those of the first r regions that begin a method.
use Prim.Native.Nat.{ℕ, ◌+◌}
use native.Mathlib.Omega.{arith}
use mathlib.Core.Path.{◌≡◌, ap, ◌∙◌}
use lib.ListN.{set, length-set}
use Rattle.machine.proofs.Offers.{begun}
use Rattle.allowed.proofs.Sums.{begun_by, begun_more, begun_same, begun_all, Holds, holds_none, holds_more}
use Rattle.allowed.proofs.methods_of.Goals as goal
use Rattle.allowed.proofs.methods_of.Goals.{then-at-regions, else-at-regions}

pub loop-r-init : goal.loop-r-init
loop-r-init c = (holds_none _ _ _, omega arith, omega arith, omega arith)

pub loop-r-preserved : goal.loop-r-preserved
loop-r-preserved c =
    let a = c.args in
    let loop = c.loop-r in
    elim c.if-at-regions.branch [
      | then-at-regions w ↦ let first : c.if-at-regions.first ≡ set loop.first loop.count loop.r = w.first-is ∙ ap (λ (i : ℕ). set loop.first i loop.r) w.from.ensures in
          let count : c.if-at-regions.count ≡ loop.count + 1 = w.count-is in
          rw (first, count, begun_more a.begins.now a.regions loop.r (rw c.from-at.ensures at w.if-at-regions.true)) (
            holds_more loop.first _ loop.count loop.r (omega arith) loop.invariant.0,
            omega arith,
            omega arith,
            length-set loop.first loop.count loop.r ∙ loop.invariant.3,
          )
      | else-at-regions w ↦ let first : c.if-at-regions.first ≡ loop.first = w.first-is in
          let count : c.if-at-regions.count ≡ loop.count = w.count-is in
          rw (first, count, begun_same a.begins.now a.regions loop.r (rw c.from-at.ensures at w.if-at-regions.false))
          (loop.invariant.0, omega arith, omega arith, loop.invariant.3)
    ]

pub returns : goal.returns
returns c = λ m goes_on e few held.
    let loop = c.loop-r in
    let end : loop.r ≡ 16 = omega arith in
    let all : begun_by c.args.begins.now c.args.regions loop.r ≡ begun m =
    rw (end, ← e) (begun_all m _ goes_on (omega arith) held) in
    let holds : Holds loop.first loop.count (begun m) = rw (← all) loop.invariant.0 in
    record { count = holds.long; few = omega (arith, holds.long); each = holds.each }
