-- `variables::no_bounds` meets its contract: no variables are held in six slots of each kind.
use Rattle.std.proofs.Common.{refl, arith}
use Rattle.meaning.specs.Value.{int_of}
use Rattle.meaning.specs.State.{count}
use Rattle.variables.proofs.Slots.{slots_none}
use Rattle.variables.proofs.no_bounds.Goals as goal

pub returns : goal.returns
unfolding count
returns c =
    record {
      counted = refl;
      states = refl;
      lows = slots_none (λ v. int_of v.low) 1 (omega arith);
      highs = slots_none (λ v. int_of v.high) 0 (omega arith);
      starts = slots_none (λ v. int_of v.start) 128 (omega arith);
    }
