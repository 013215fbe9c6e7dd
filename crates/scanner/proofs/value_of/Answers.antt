-- `scanner::value_of` meets its contract. The loop's invariant: the value so far goes on to the whole's, what is left
-- are digits, and i digits are below 10 ^ i.
use Prim.Native.Nat.{ℕ, ◌+◌, ◌≤◌, ◌<◌}
use mathlib.Core.List.{List}
use native.Mathlib.Numerals.{add-one}
use mathlib.Core.Path.{◌≡◌, refl, sym, ◌∙◌}
use native.Mathlib.Omega.{arith}
use borrow.Author.Rules.{rules}
use lib.ListN.{length, drop, get_or}
use Rattle.syntax.specs.Bytes.{digit}
use Rattle.syntax.specs.Decide.Leading.{leading}
use Rattle.scanner.proofs.FirstElement.{leading_more_at, passes_at, digit_bounds, decimal_at, decimal_end}
use Rattle.scanner.proofs.FirstElement.{power_at_most}
use Rattle.scanner.proofs.value_of.Goals as goal

-- the byte that is read is a digit
digit_at : (part : List ℕ) (i : ℕ) → i < length part → i + leading digit (drop i part) ≡ length part
    → (48 ≤ get_or part i 0) × (get_or part i 0 ≤ 57)
digit_at part i h e = digit_bounds _ (passes_at digit part i h e)

pub loop-digit-init : goal.loop-digit-init
loop-digit-init c = (refl, omega arith, omega arith)

pub overflow_mul-n : goal.overflow_mul-n
overflow_mul-n c = omega (arith, power_at_most c.loop-digit.digit-index (search rules))

pub overflow_sub-digit : goal.overflow_sub-digit
overflow_sub-digit c = (digit_at c.args.part.now c.loop-digit.digit-index (search rules) c.loop-digit.invariant.1).0

pub overflow_add-n : goal.overflow_add-n
overflow_add-n c = omega (arith, digit_at c.args.part.now c.loop-digit.digit-index (search rules) c.loop-digit.invariant.1, power_at_most c.loop-digit.digit-index (omega arith))

pub loop-digit-preserved : goal.loop-digit-preserved
loop-digit-preserved c =
    let part = c.args.part.now in
    let i = c.loop-digit.digit-index in
    let h : i < length part = search rules in
    let inv = c.loop-digit.invariant in
    rw c.from.ensures (
      sym (decimal_at c.loop-digit.n part i h) ∙ inv.0,
      omega (arith, leading_more_at digit part i h (passes_at digit part i h inv.1)),
      rw add-one (omega (arith, digit_at part i h inv.1)),
    )

pub returns : goal.returns
returns c =
    sym (decimal_end c.loop-digit.n c.args.part.now c.loop-digit.digit-index (search rules))
    ∙ c.loop-digit.invariant.0
