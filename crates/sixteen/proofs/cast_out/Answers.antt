-- `sixteen::cast_out` meets its contract: the product's quotient is that of the division.
use native.Mathlib.Omega.{arith}
use native.Mathlib.Nat.{div-mul-le_self, mod-eq-sub-div-mul}
use mathlib.Core.Path.{sym}
use Rattle.sixteen.proofs.Division.{product_fits, product_exact}
use Rattle.sixteen.proofs.cast_out.Goals as goal

pub overflow_mul-result : goal.overflow_mul-result
overflow_mul-result c = omega (arith, product_fits _ _ _ c.requires)

pub overflow_mul-result-2 : goal.overflow_mul-result-2
overflow_mul-result-2 c = rw (product_exact _ _ _ c.requires) (omega (arith, div-mul-le_self c.args.x c.args.by))

pub overflow_sub-result : goal.overflow_sub-result
overflow_sub-result c = rw (product_exact _ _ _ c.requires) (div-mul-le_self c.args.x c.args.by)

pub returns : goal.returns
returns c = rw (product_exact _ _ _ c.requires) (sym (mod-eq-sub-div-mul c.args.x c.args.by))
