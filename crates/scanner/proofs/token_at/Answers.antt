-- `scanner::token_at` meets its contract: the class of the first byte picks the case of `scan`.
use borrow.Author.Rules.{rules}
use mathlib.Core.Path.{◌≡◌, sym, ap, ◌∙◌}
use Rattle.scanner.specs.Step.{step_of}
use Rattle.scanner.proofs.FirstElement.{letters}
use Rattle.scanner.proofs.Scanning.{scan_end, scan_word, scan_number, scan_mark}
use Rattle.syntax.specs.Bytes.{letter, digit}
use Rattle.logic.proofs.Lists.{get_d_below}
use lib.ListN.{length, get_or}
use mathlib.Core.List.{List}
use Prim.Native.Nat.{ℕ, ◌<◌}
use Rattle.scanner.proofs.token_at.Goals as goal

pub returns-in_default : goal.returns-in_default
returns-in_default c =
    let a = c.args in
    c.none_at.ensures ∙ ap (step_of a.start) (sym (scan_end a.file.now a.start (search rules)))

-- the byte that stands at a place
at_place : (file : List ℕ) (i : ℕ) {b : ℕ} → i < length file → b ≡ get_or file i b → b ≡ get_or file i 0
at_place file i {b = b} h e = e ∙ sym (get_d_below file i 0 b h)

pub returns-then-is_ascii_alphabetic : goal.returns-then-is_ascii_alphabetic
returns-then-is_ascii_alphabetic c =
    let a = c.args in
    let byte = at_place a.file.now a.start c.in-Some.ensures.lookup.3.0 c.in-Some.ensures.lookup.1 in
    c.word_at.ensures
    ∙ ap (step_of a.start)
    (sym (scan_word a.file.now a.start c.in-Some.ensures.lookup.3.0 (ap letter (sym byte) ∙ letters _ ∙ sym c.is_ascii_alphabetic.ensures.value
    ∙ c.if-is_ascii_alphabetic.true)))

pub returns-then-is_digit : goal.returns-then-is_digit
returns-then-is_digit c =
    let a = c.args in
    let byte = at_place a.file.now a.start c.in-Some.ensures.lookup.3.0 c.in-Some.ensures.lookup.1 in
    c.number_at.ensures
    ∙ ap (step_of a.start)
    (sym (scan_number a.file.now a.start c.in-Some.ensures.lookup.3.0
    (ap letter (sym byte) ∙ letters _ ∙ sym c.is_ascii_alphabetic.ensures.value ∙ c.if-is_ascii_alphabetic.false)
    (ap digit (sym byte) ∙ sym c.is_digit.ensures ∙ c.if-is_digit.true)))

pub returns-else-is_digit : goal.returns-else-is_digit
returns-else-is_digit c =
    let a = c.args in
    let byte = at_place a.file.now a.start c.in-Some.ensures.lookup.3.0 c.in-Some.ensures.lookup.1 in
    c.mark_at.ensures
    ∙ ap (step_of a.start)
    (sym (scan_mark a.file.now a.start c.in-Some.ensures.lookup.3.0
    (ap letter (sym byte) ∙ letters _ ∙ sym c.is_ascii_alphabetic.ensures.value ∙ c.if-is_ascii_alphabetic.false)
    (ap digit (sym byte) ∙ sym c.is_digit.ensures ∙ c.if-is_digit.false)))
