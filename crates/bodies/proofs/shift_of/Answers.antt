-- `bodies::shift_of` meets its contract: the difference is taken modulo 4,096, and added it leads back.
use native.Mathlib.Omega.{arith}
use mathlib.Core.Path.{refl}
use Rattle.logic.proofs.Bools.{clash}
use Rattle.bodies.proofs.Shifting.{leads}
use Rattle.bodies.proofs.shift_of.Goals as goal

pub returns-then-not-ok : goal.returns-then-not-ok
returns-then-not-ok c = record { fault = λ e. refl; stays = λ e. clash e c.if-not-ok.true }

pub returns : goal.returns
returns c =
    record {
      fault = λ e. clash c.if-not-ok.false e;
      stays = λ e l. leads _ _ _ c.requires l (omega arith);
    }
