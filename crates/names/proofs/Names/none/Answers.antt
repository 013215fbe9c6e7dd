-- `names::Names::none` holds no names.
use native.Mathlib.Omega.{arith}
use Rattle.names.proofs.Names.none.Goals as goal

pub returns : goal.returns
returns c file = record { counted = omega arith; room = omega arith; held = λ k l. absurd (omega arith) }
