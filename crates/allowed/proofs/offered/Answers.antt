-- `allowed::offered` meets its contract, by the place and whether the waiter is a first one.
use mathlib.Core.Path.{◌≡◌, refl, ◌∙◌}
use mathlib.Core.Bool.{Bool, true, false}
use Rattle.std.specs.Int.{from_bool}
use Rattle.threads.specs.Held.{place_of}
use Rattle.logic.specs.Tests.{bit}
use Rattle.allowed.specs.Offered.{offered_by}
use Rattle.allowed.proofs.offered.Goals as goal

pub returns-in-Idle : goal.returns-in-Idle
unfolding offered_by place_of
returns-in-Idle c = rw c.in-Idle.is

one : (front : Bool) → from_bool front ≡ bit front
unfolding bit
one true = refl
one false = refl

pub returns-in-Waiting : goal.returns-in-Waiting
unfolding offered_by place_of
returns-in-Waiting c = rw c.in-Waiting.is (c.from.ensures ∙ one c.args.front)

pub returns-in-Due : goal.returns-in-Due
unfolding offered_by place_of
returns-in-Due c = rw c.in-Due.is
