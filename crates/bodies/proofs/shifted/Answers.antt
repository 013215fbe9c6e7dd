-- `bodies::shifted` meets its contract: by the two cases of a shift.
use mathlib.Core.Path.{sym}
use Rattle.bodies.proofs.Shifting.{unshift_in, unshift_out}
use Rattle.bodies.proofs.shifted.Goals as goal

pub returns-then-shift-lt-SHIFTS : goal.returns-then-shift-lt-SHIFTS
returns-then-shift-lt-SHIFTS c = sym (unshift_in _ _ c.if-shift-lt-SHIFTS.true)

pub returns-else-shift-lt-SHIFTS : goal.returns-else-shift-lt-SHIFTS
returns-else-shift-lt-SHIFTS c = sym (unshift_out _ _ c.if-shift-lt-SHIFTS.false)
