-- What the cursor's method finds, by the definitions of `syntax`.
use Rattle.std.specs.Prelude.{ℕ, ◌+◌, Option, Some, None, List, take, drop}
use Rattle.syntax.specs.Bytes.{blank, digit, word_byte, decimal}
use Rattle.syntax.specs.Decide.Leading.{leading}
use Rattle.syntax.specs.Limits.{most_word_bytes, most_digits}
use Rattle.syntax.specs.Token.{Lexeme, name, key, number, mark, keywords}
use Rattle.syntax.specs.Held.Kind.{kind_of}
use Rattle.syntax.specs.Decide.Scan.{nothing, found, scan, at_most, word_of}
use Rattle.syntax.specs.Decide.Scan as syntax
use Rattle.scanner.specs.declared.Token.{Token}
use Rattle.scanner.specs.declared.Token.TheVariants.{Word, Number, Mark}
use Rattle.scanner.specs.declared.Token.TheVariants as variant
use Rattle.scanner.specs.declared.Step.{Step}

abbrev pub Scan : Type 0
Scan = syntax.Scan

-- the kind and the length of a mark, if one is found
unfoldable pub marked : Scan → Option (ℕ × ℕ)
marked nothing = None
marked (found (name x) n) = None
marked (found (key k) n) = None
marked (found (number v) n) = None
marked (found (mark m) n) = Some (kind_of (mark m), n)

unfoldable pub token_of : ℕ → ℕ → Lexeme → Token
token_of s n (name x) = Word s (s + n)
token_of s n (key k) = Word s (s + n)
token_of s n (number v) = Number v
token_of s n (mark m) = Mark (kind_of (mark m))

abbrev pub step_to : Token → ℕ → ℕ → Step
step_to t s e = record { token = t; start = s; next = record { at = e } }

unfoldable pub step_of : ℕ → Scan → Step
step_of s nothing = step_to variant.None s s
step_of s (found l n) = step_to (token_of s n l) s (s + n)

-- the word, and the number, at the front of some bytes, as `scan` has them
abbrev pub word_at : List ℕ → Scan
word_at bs = at_most most_word_bytes (leading word_byte bs) (word_of keywords (take (leading word_byte bs) bs))

abbrev pub number_at : List ℕ → Scan
number_at bs = at_most most_digits (leading digit bs) (number (decimal 0 (take (leading digit bs) bs)))

-- the token behind the blanks at a place of a file
unfoldable pub step_at : List ℕ → ℕ → Step
step_at file at =
    let s = at + leading blank (drop at file) in
    step_of s (scan (drop s file))
