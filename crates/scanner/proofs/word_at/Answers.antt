-- `scanner::word_at` meets its contract: the word bytes that lead are a word, unless they are more than 16.
use Prim.Native.Nat.{ℕ}
use mathlib.Core.Path.{sym, ap, ◌∙◌}
use native.Mathlib.Omega.{arith}
use lib.ListN.{take, drop}
use Rattle.syntax.specs.Decide.Leading.{leading}
use Rattle.syntax.specs.Bytes.{word_byte}
use Rattle.syntax.specs.Token.{keywords}
use Rattle.scanner.specs.Step.{step_of, step_to}
use Rattle.scanner.specs.declared.Token.TheVariants as token
use Rattle.scanner.proofs.Scanning.{over, within, word_or, word_step}
use Rattle.scanner.proofs.word_at.Goals as goal

pub returns-then-end-start-gt-WORD_BYTES : goal.returns-then-end-start-gt-WORD_BYTES
returns-then-end-start-gt-WORD_BYTES c =
    let a = c.args in
    c.none_at.ensures
    ∙ ap (step_of a.start) (sym (over 16 _ _ (omega (arith, c.run_end-end.ensures.leads word_byte (λ b r e. e)))))

pub returns-else-end-start-gt-WORD_BYTES : goal.returns-else-end-start-gt-WORD_BYTES
returns-else-end-start-gt-WORD_BYTES c =
    let a = c.args in
    let bs = drop a.start a.file.now in
    let n = leading word_byte bs in
    let e = c.run_end-end.ensures.leads word_byte (λ b r e. e) in
    c.found.ensures
    ∙ ap (λ (e : ℕ). step_to (token.Word a.start e) a.start e) e
    ∙ sym (ap (step_of a.start) (within 16 n _ (omega (arith, e)))
    ∙ word_step a.start n (word_or keywords (take n bs)))
