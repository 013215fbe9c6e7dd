-- `trace::count` meets its contract. The loop's invariant: the frames passed, joined with what is counted from the byte
-- on, are what is counted of the whole.
use Prim.Native.Nat.{◌+◌, ◌*◌}
use native.Mathlib.Omega.{arith}
use mathlib.Core.Path.{◌≡◌, sym, ◌∙◌}
use lib.ListN.{length}
use Rattle.std.proofs.lemmas.Grind.{div_ceil_times}
use Rattle.trace.proofs.FirstLine.{line_end, left_all, left_frame, left_bad, left_end}
use Rattle.trace.proofs.count.Goals as goal

pub loop-number-init : goal.loop-number-init
loop-number-init c = sym (left_all _)

pub returns-then-not-is_frame : goal.returns-then-not-is_frame
returns-then-not-is_frame c =
    let e = div_ceil_times (length c.args.trace.now) 7 (omega arith) in
    let b = c.is_frame.ensures.none_there c.if-not-is_frame.true (omega (arith, c.div_ceil-lines.ensures, c.loop-number-test.true)) in
    sym (left_bad _ _ _ b) ∙ c.loop-number.invariant

pub loop-number-preserved : goal.loop-number-preserved
loop-number-preserved c =
    let e : (c.loop-number.number + 1) * 7 ≡ c.loop-number.number * 7 + 7 = omega arith in
    let l = left_frame _ _ _ (c.is_frame.ensures.frame c.if-not-is_frame.false).is in
    rw e (sym l.same ∙ c.loop-number.invariant)

pub returns : goal.returns
returns c =
    let e = div_ceil_times (length c.args.trace.now) 7 (omega arith) in
    let n : c.loop-number.number ≡ c.div_ceil-lines.result = omega arith in
    sym (left_end _ _ _ (line_end _ _ (omega arith))) ∙ rw n at c.loop-number.invariant
