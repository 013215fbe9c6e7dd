-- `layout::flag` meets its contract: 1 where the kind is that of `waituntil`, else 0.
use mathlib.Core.Path.{◌≡◌, refl, ◌∙◌}
use mathlib.Core.Bool.{Bool, true, false}
use mir.Val.{bool_byte}
use Rattle.syntax.specs.Decide.Lexeme.{keyword_number}
use Rattle.syntax.specs.Held.Kind.{kind_of}
use Rattle.logic.specs.Tests.{bit}
use Rattle.layout.specs.Promises.{flag_at}
use Rattle.layout.proofs.flag.Goals as goal

as_bit : (b : Bool) → bool_byte b ≡ bit b
unfolding bit
as_bit true = refl
as_bit false = refl

pub returns : goal.returns
unfolding flag_at kind_of keyword_number
returns c = c.from.ensures ∙ rw c.kind_at.ensures (as_bit _)
