-- `mentions::pairs_of` meets its contract. The loop's invariant: the members of the sets below q are counted.
use Prim.Native.Nat.{◌+◌, ◌≤◌}
use native.Mathlib.Omega.{arith}
use mathlib.Core.Path.{◌≡◌, refl, sym, ap₂, ◌∙◌}
use lib.ListN.{get_or}
use Rattle.meaning.specs.Decide.Touch.{sum_of}
use Rattle.mentions.proofs.Counted.{size_small, sum_next}
use Rattle.mentions.proofs.pairs_of.Goals as goal
use Rattle.mentions.proofs.pairs_of.Goals.{After-count}

pub loop-q-init : goal.loop-q-init
unfolding sum_of
loop-q-init c = (omega arith, refl)

counted : (c : After-count) → c.count.result ≤ 16
counted c = omega (arith, c.count.ensures, size_small (get_or c.args.touched c.loop-q.q 0) 16)

pub overflow_cast-pairs : goal.overflow_cast-pairs
overflow_cast-pairs = λ c. omega (arith, counted (goal.at.overflow_cast-pairs c).After-count)

pub overflow_add-pairs : goal.overflow_add-pairs
overflow_add-pairs = λ c. omega (arith, counted (goal.at.overflow_add-pairs c).After-count)

pub loop-q-preserved : goal.loop-q-preserved
loop-q-preserved c =
    let i = c.loop-q in (
      omega (arith, counted (goal.at.loop-q-preserved c).After-count),
      ap₂ ◌+◌ i.invariant.1 c.count.ensures ∙ sym (sum_next i.q _),
    )

pub returns : goal.returns
returns c few =
    let i = c.loop-q in
    let all : c.args.regions ≡ i.q = omega arith in
    rw all i.invariant.1
