-- `trace::digit` meets its contract: it is the definition.
use native.Mathlib.Omega.{arith}
use mathlib.Core.Path.{refl}
use Rattle.trace.specs.Decoded.{value_of}
use Rattle.trace.proofs.digit.Goals as goal

pub returns : goal.returns
unfolding value_of
returns c =
    record {
      value = refl;
      within = omega arith;
    }
