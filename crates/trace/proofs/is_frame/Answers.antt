-- `trace::is_frame` meets its contract: a line that is too short is no frame, else the tests are of a frame's bytes.
use native.Mathlib.Omega.{arith}
use Rattle.trace.proofs.FrameTest.{test_of, test_tells, short_tells}
use Rattle.trace.proofs.is_frame.Goals as goal

pub returns-then-saturating_sub-lt-FRAME : goal.returns-then-saturating_sub-lt-FRAME
returns-then-saturating_sub-lt-FRAME c = short_tells _ _ (omega (arith, c.saturating_sub.ensures))

pub returns : goal.returns
unfolding test_of
returns c =
    rw (c.is_digit.ensures, c.is_digit-2.ensures, c.is_digit-3.ensures)
    (test_tells _ _ (omega (arith, c.saturating_sub.ensures, c.if-saturating_sub-lt-FRAME.false)))
