-- `scanner::number_at` meets its contract: the digits that lead are a part of the file, of which `value_of` gives the
-- value.
use Prim.Native.Nat.{ℕ, ◌-◌}
use mathlib.Core.Path.{◌≡◌, sym, ap, ◌∙◌}
use native.Mathlib.Omega.{arith}
use lib.ListN.{take, drop, length-take, length-drop}
use Rattle.syntax.specs.Decide.Leading.{leading}
use Rattle.syntax.specs.Bytes.{digit, decimal}
use Rattle.syntax.specs.Token.{number}
use Rattle.scanner.specs.Step.{step_of, step_to, token_of}
use Rattle.scanner.specs.declared.Token.TheVariants as token
use Rattle.scanner.proofs.FirstElement.{leading_le}
use Rattle.scanner.proofs.Scanning.{over, within, part_leads}
use Rattle.scanner.proofs.number_at.Goals as goal

pub slice_bounds-value_of-end : goal.slice_bounds-value_of-end
slice_bounds-value_of-end c =
    let a = c.args in
    let bs = drop a.start a.file.now in
    omega (arith, c.run_end-end.ensures.leads digit (λ b r e. e), leading_le digit bs, length-drop a.start a.file.now)

pub value_of-requires : goal.value_of-requires
value_of-requires c =
    let a = c.args in
    let bs = drop a.start a.file.now in
    let n = leading digit bs in
    let e : c.run_end-end.result - a.start ≡ n = omega (arith, c.run_end-end.ensures.leads digit (λ b r e. e)) in
    rw e (omega (arith, length-take n bs), part_leads digit bs)

pub returns-then-end-start-gt-NUMBER_DIGITS : goal.returns-then-end-start-gt-NUMBER_DIGITS
returns-then-end-start-gt-NUMBER_DIGITS c =
    let a = c.args in
    c.none_at.ensures ∙ ap (step_of a.start) (sym (over 3 _ _ (omega (arith, c.run_end-end.ensures.leads digit (λ b r e. e)))))

pub returns-else-end-start-gt-NUMBER_DIGITS : goal.returns-else-end-start-gt-NUMBER_DIGITS
unfolding step_of token_of
returns-else-end-start-gt-NUMBER_DIGITS c =
    let a = c.args in
    let bs = drop a.start a.file.now in
    let n = leading digit bs in
    let end = c.run_end-end in
    let e : end.result - a.start ≡ n = omega (arith, end.ensures.leads digit (λ b r e. e)) in
    c.found.ensures
    ∙ ap (λ (v : ℕ). step_to (token.Number v) a.start end.result) (c.value_of.ensures ∙ rw e)
    ∙ ap (λ (e : ℕ). step_to (token.Number (decimal 0 (take n bs))) a.start e) (end.ensures.leads digit (λ b r e. e))
    ∙ ap (step_of a.start) (sym (within 3 n (number (decimal 0 (take n bs))) (omega arith)))
