-- `trace::numbers_at` meets its contract: past the last line that fits all is 0, else the bytes' values are the
-- definition's.
use native.Mathlib.Omega.{arith}
use Rattle.trace.proofs.Decoding.{numbers_none, numbers_there}
use Rattle.trace.proofs.numbers_at.Goals as goal

pub returns-then-saturating_sub-lt-FRAME : goal.returns-then-saturating_sub-lt-FRAME
returns-then-saturating_sub-lt-FRAME c = numbers_none _ _ (omega (arith, c.saturating_sub.ensures))

pub bounds-trace-at : goal.bounds-trace-at
bounds-trace-at c = omega arith

pub bounds-trace-at-2 : goal.bounds-trace-at-2
bounds-trace-at-2 c = omega arith

pub overflow_mul-result : goal.overflow_mul-result
overflow_mul-result c = omega (arith, c.digit-2.ensures.within)

pub bounds-trace-at-3 : goal.bounds-trace-at-3
bounds-trace-at-3 c = omega arith

pub overflow_add-result : goal.overflow_add-result
overflow_add-result c = omega (arith, c.digit-3.ensures.within, c.digit-2.ensures.within)

pub bounds-trace-at-4 : goal.bounds-trace-at-4
bounds-trace-at-4 c = omega arith

pub returns : goal.returns
returns c =
    rw (
      c.digit-3.ensures.value,
      c.digit-2.ensures.value,
      c.digit.ensures.value,
    )
    (numbers_there _ _ (omega arith))
