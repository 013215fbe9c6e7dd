-- How a lexeme is held, and what is found at a place of a file: its length, that it lies in the file, and how it is
-- held.
use Prim.Native.Nat.{ℕ, ◌+◌, ◌≤◌, ◌<◌}
use mathlib.Core.Path.{◌≡◌, refl, sym}
use mathlib.Core.Bool.{true}
use mathlib.Core.List.{List}
use native.Mathlib.Nat.{add-sub_cancel_left}
use native.Mathlib.Omega.{arith}
use lib.ListN.{length, take, drop, get_or, length-drop}
use lib.Dec.{leb}
use borrow.Author.Tests.{leb-true, leb-false}
use Rattle.syntax.specs.Bytes.{letter, digit, word_byte, decimal}
use Rattle.syntax.specs.Decide.Leading.{leading}
use Rattle.syntax.specs.Token.{Lexeme, number, mark, keywords}
use Rattle.syntax.specs.Decide.Scan.{Scan, nothing, found, scan, word_of}
use Rattle.std.specs.Prelude.{Some, None}
use Rattle.std.proofs.lemmas.Option.{none-some, same_Some}
use Rattle.tokens.specs.Coded.{key_of}
use Rattle.scanner.specs.Step.{token_of, word_at, number_at}
use Rattle.tokens.specs.Coded.{lexeme_code, code_of, Within}
use Rattle.syntax.specs.Held.Kind.{kind_of, value_of, name_kind, first_keyword, keyword_count}
use Rattle.syntax.proofs.ByKind.{keyword_few}
use Rattle.scanner.specs.declared.Token.TheVariants.{Word}
use Rattle.scanner.proofs.FirstElement.{by_cases, leading_le, leading_more_at}
use Rattle.scanner.proofs.Marks.{MarkOr, none, one, marks_or}
use Rattle.scanner.proofs.Scanning.{WordOr, a_name, a_key, word_or, over, within, scan_end, scan_word}
use Rattle.scanner.proofs.Scanning.{scan_number, scan_mark}

pub key_few : {w : List ℕ} {l : Lexeme} {n : ℕ} → WordOr w l → key_of l ≡ Some n → n < keyword_count
unfolding key_of
key_few a_name e = absurd (none-some _ e)
key_few (a_key k) e = omega (arith, keyword_few k, same_Some _ _ e)

pub name_held : {w : List ℕ} {l : Lexeme} → WordOr w l → key_of l ≡ None
    → lexeme_code l ≡ record { kind = name_kind; value = length w }
unfolding key_of kind_of value_of
name_held a_name e = refl
name_held (a_key k) e = absurd (none-some _ (sym e))

pub key_held : {w : List ℕ} {l : Lexeme} {n : ℕ} → WordOr w l → key_of l ≡ Some n
    → lexeme_code l ≡ record { kind = first_keyword + n; value = 0 }
unfolding key_of kind_of value_of
key_held a_name e = absurd (none-some _ e)
key_held (a_key k) e = rw (sym (same_Some _ _ e))

-- what is found at a place s: nothing, or a lexeme of n bytes, all in the file, whose token is held as the lexeme is
pub data Found (file : List ℕ) (s : ℕ) : Scan → Type 0 where
  missing : Found file s nothing
  there : (l : Lexeme) (n : ℕ) → 1 ≤ n → s + n ≤ length file → Within file (token_of s n l)
      → code_of file (token_of s n l) ≡ lexeme_code l → Found file s (found l n)

word_token : (s n : ℕ) {w : List ℕ} {l : Lexeme} → WordOr w l → token_of s n l ≡ Word s (s + n)
unfolding token_of
word_token s n a_name = refl
word_token s n (a_key k) = refl

letter_word : (b : ℕ) → letter b ≡ true → word_byte b ≡ true
unfolding word_byte
letter_word b e = rw (word_byte, e)

module _ (file : List ℕ) (s : ℕ) (h : s < length file) where
  -- a word at s, of the bytes that lead there
  word_there : letter (get_or file s 0) ≡ true → Found file s (word_at (drop s file))
  unfolding Within code_of
  word_there e =
      let bs = drop s file in
      let n = leading word_byte bs in
      let w = take n bs in
      let in_file : s + n ≤ length file = omega (arith, leading_le word_byte bs, length-drop s file) in
      by_cases (leb n 16)
      (λ t. rw (within 16 n (word_of keywords w) (leb-true n 16 t))
      (there (word_of keywords w) n (omega (arith, leading_more_at word_byte file s h (letter_word _ e))) in_file
      (rw (word_token s n (word_or keywords w)) (omega (arith, leb-true n 16 t)))
      (rw (word_token s n (word_or keywords w), add-sub_cancel_left s n))))
      (λ f. rw (over 16 n (word_of keywords w) (leb-false n 16 f)) missing)

  number_there : digit (get_or file s 0) ≡ true → Found file s (number_at (drop s file))
  unfolding Within code_of token_of
  number_there e =
      let bs = drop s file in
      let n = leading digit bs in
      let l = number (decimal 0 (take n bs)) in
      by_cases (leb n 3)
      (λ t. rw (within 3 n l (leb-true n 3 t))
      (there l n (omega (arith, leading_more_at digit file s h e))
      (omega (arith, leading_le digit bs, length-drop s file)) tt refl))
      (λ f. rw (over 3 n l (leb-false n 3 f)) missing)

  mark_there : {c : Scan} → MarkOr (drop s file) c → Found file s c
  unfolding Within code_of token_of kind_of value_of
  mark_there none = missing
  mark_there (one m n l k i) = there (mark m) n l (omega (arith, length-drop s file)) tt refl

pub found_at : (file : List ℕ) (s : ℕ) → Found file s (scan (drop s file))
found_at file s =
    by_cases (leb (length file) s)
    (λ e. rw (scan_end file s (leb-true _ _ e)) missing)
    (λ i.
    let h = leb-false (length file) s i in
    let b = get_or file s 0 in
    by_cases (letter b)
    (λ t. rw (scan_word file s h t) (word_there file s h t))
    (λ f.
    by_cases (digit b)
    (λ t. rw (scan_number file s h f t) (number_there file s h t))
    (λ g. rw (scan_mark file s h f g) (mark_there file s h (marks_or (drop s file))))))
