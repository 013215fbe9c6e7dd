-- `variables::digit_of` meets its contract: a quotient by 0 is 0, and a remainder by 0 is the number itself.
use Rattle.std.proofs.Common.{◌≡◌, sym, refl, add-zero, mod-eq_of_lt, arith}
use native.Mathlib.Nat.{div-zero, mod-zero}
use Rattle.meaning.specs.SixteenBits.{wrapped}
use Rattle.variables.proofs.digit_of.Goals as goal

pub returns-then-weight-eq0 : goal.returns-then-weight-eq0
unfolding wrapped
returns-then-weight-eq0 c =
    let none : c.args.weight ≡ 0 = c.if-weight-eq0.true in
    let low = c.args.low in
    let rest = c.args.rest in
    record {
      value = rw (none, div-zero rest, add-zero low) (sym (mod-eq_of_lt (omega arith)));
      left = rw (none, mod-zero rest);
    }

pub returns : goal.returns
returns c = record { value = c.plus.ensures; left = refl }
