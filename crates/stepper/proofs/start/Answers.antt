-- `stepper::start` meets its contract: all idle, and the empty set.
use Prim.Native.Nat.{ℕ}
use mathlib.Core.Path.{refl, ap, ◌∙◌}
use Rattle.sets.specs.Set.{member}
use Rattle.sets.proofs.SetLaws.{member_none}
use Rattle.machine.specs.Monitor.{all_idle}
use Rattle.stepper.proofs.Machines.{alike_of}
use Rattle.stepper.proofs.start.Goals as goal

pub returns : goal.returns
unfolding all_idle
returns c w = record {
  state = refl;
  threads = c.all_idle.ensures.0;
  turns = c.all_idle.ensures.1;
  notices = λ t h. ap (λ (n : ℕ). member n t) (alike_of w 0) ∙ member_none t;
}
