-- `choice::undropped` meets its contract: sixteen zeros, three times.
use lib.ListN.{get_or-replicate}
use mathlib.Core.Path.{refl}
use Rattle.choice.specs.Slots.{slot_of}
use Rattle.choice.proofs.Binding.{same_slot}
use Rattle.choice.proofs.undropped.Goals as goal

pub returns : goal.returns
unfolding slot_of
returns c = (
  refl,
  λ u low.
      same_slot refl (get_or-replicate 16 u 0 0 low) (get_or-replicate 16 u 0 0 low) (get_or-replicate 16 u 0 0 low),
)
