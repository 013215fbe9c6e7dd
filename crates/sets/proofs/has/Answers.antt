-- `sets::has` meets its contract: a digit is the remainder by 2 of the number shifted, and a number below 2 ^ 16 has no
-- member from 16 on.
use Prim.Native.Nat.{ℕ, ◌/◌, ◌^◌}
use mathlib.Core.Path.{sym, ap}
use lib.Dec.{eqb}
use lib.Bits.{and_mask}
use Rattle.sets.specs.Set.{member}
use Rattle.sets.proofs.SetLaws.{member_past}
use Rattle.sets.proofs.has.Goals as goal

pub returns-then-t-lt16 : goal.returns-then-t-lt16
unfolding member
returns-then-t-lt16 c = ap (λ (n : ℕ). eqb n 1) (and_mask (c.args.set / 2 ^ c.args.t) 1)

pub returns-else-t-lt16 : goal.returns-else-t-lt16
returns-else-t-lt16 c =
    sym (member_past 16 c.args.set c.args.t c.ranges.set.fits c.if-t-lt16.false)
