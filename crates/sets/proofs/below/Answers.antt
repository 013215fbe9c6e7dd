-- `sets::below` meets its contract: a meet with the lowest bits; from 16 on nothing changes.
use Prim.Native.Nat.{ℕ, ◌-◌, ◌^◌}
use native.Mathlib.Omega.{arith}
use mathlib.Core.Path.{sym, ap, ◌∙◌}
use mathlib.Core.Bool.{Bool, ◌&&◌, and-true}
use lib.Bits.{bit_and}
use lib.Pow.{pow_pos}
use borrow.Author.Tests.{lt-ltb}
use Rattle.sets.specs.Set.{member}
use Rattle.sets.proofs.SetLaws.{bit_of, member_and, member_lowest}
use Rattle.sets.proofs.below.Goals as goal

pub returns-then-n-lt16 : goal.returns-then-n-lt16
returns-then-n-lt16 c u h =
    let a = c.args in
    ap (λ (n : ℕ). member (bit_and a.set (n - 1)) u) (bit_of a.n c.if-n-lt16.true)
    ∙ member_and a.set (2 ^ a.n - 1) u ∙ ap (λ (b : Bool). member a.set u && b) (member_lowest a.n u)

pub returns-else-n-lt16 : goal.returns-else-n-lt16
returns-else-n-lt16 c u h =
    let a = c.args in
    sym (ap (λ (b : Bool). member a.set u && b) (lt-ltb u a.n (omega arith)) ∙ and-true (member a.set u))

pub overflow_sub-result : goal.overflow_sub-result
overflow_sub-result = λ c. let p = pow_pos c.args.n in let e = bit_of c.args.n c.if-n-lt16.true in omega arith
