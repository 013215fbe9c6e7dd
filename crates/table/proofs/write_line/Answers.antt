-- `table::write_line` meets its contract: the part that is written is the line's nine bytes.
use Prim.Native.Nat.{◌+◌, ◌-◌}
use mathlib.Core.Path.{◌≡◌, refl, ap, ◌∙◌}
use native.Mathlib.Omega.{arith}
use Rattle.digits.specs.Written.{over}
use Rattle.digits.proofs.Writing.{part_over}
use Rattle.table.proofs.Lines.{line_bytes}
use Rattle.table.proofs.write_line.Goals as goal

pub returns : goal.returns
returns c =
    let a = c.args in
    let nine : a.at + 9 - a.at ≡ 9 = omega arith in
    let line = line_bytes a.r a.g a.code _ _ (omega arith) (omega arith) (omega arith) c.hex_digit.ensures c.hex_digit-2.ensures in
    rw (nine, c.copy_from_slice.ensures.after) (part_over _ _ 9 _ refl ∙ ap (over _ _) line)
