-- How a file is cut into tokens (2), computed. `proofs/Scanning` shows that this is what `Spelling` says in words.
use Rattle.std.specs.Prelude.{ℕ, zero, suc, ◌+◌, ◌-◌, true, false, List, [], ◌∷◌, length, take, leb}
use Prim.Native.String.{String}
use Rattle.syntax.specs.Bytes.{bytes, blank, letter, digit, word_byte, decimal, same_bytes}
use Rattle.syntax.specs.Decide.Leading.{leading, starts_with}
use Rattle.syntax.specs.Limits.{most_word_bytes, most_digits}
use Rattle.syntax.specs.Token.{Keyword, Lexeme, Mark, Token, key, keywords, mark, marks, name, number}

-- a word: a keyword of the list, or a name
unfoldable pub word_of : List (String × Keyword) → List ℕ → Lexeme
word_of [] w = name w
word_of (k ∷ ks) w = elim (same_bytes (bytes k.0) w) [ true ↦ key k.1 | false ↦ word_of ks w ]

-- what stands at the front of some bytes: no token, or a lexeme and its length
pub data Scan : Type 0 where
  nothing : Scan
  found : Lexeme → ℕ → Scan

-- a word or number of n bytes, unless that is too long
unfoldable pub at_most : ℕ → ℕ → Lexeme → Scan
at_most limit n l = elim (leb n limit) [ true ↦ found l n | false ↦ nothing ]

unfoldable pub mark_of : List (String × Mark) → List ℕ → Scan
mark_of [] bs = nothing
mark_of (m ∷ ms) bs =
    elim (starts_with (bytes m.0) bs) [ true ↦ found (mark m.1) (length (bytes m.0)) | false ↦ mark_of ms bs ]

unfoldable pub scan : List ℕ → Scan
scan [] = nothing
scan (b ∷ bs) =
    elim (letter b) [
      | true ↦ at_most most_word_bytes (leading word_byte (b ∷ bs))
          (word_of keywords (take (leading word_byte (b ∷ bs)) (b ∷ bs)))
      | false ↦ elim (digit b) [
        | true ↦ at_most most_digits (leading digit (b ∷ bs))
            (number (decimal 0 (take (leading digit (b ∷ bs)) (b ∷ bs))))
        | false ↦ mark_of marks (b ∷ bs)
      ]
    ]

-- the tokens of a file, or the place of the first byte that begins none (2)
pub data Tokens : Type 0 where
  tokens : List Token → Tokens
  none_at : ℕ → Tokens

unfoldable pub prepend : ℕ → Lexeme → Tokens → Tokens
prepend at l (tokens ts) = tokens (record { at = at; lexeme = l } ∷ ts)
prepend at l (none_at k) = none_at k

-- the tokens of the bytes from a place on, of which the first few are passed over
unfoldable pub tokens_from : ℕ → ℕ → List ℕ → Tokens
tokens_from at passed [] = tokens []
tokens_from at (suc n) (b ∷ bs) = tokens_from (at + 1) n bs
tokens_from at zero (b ∷ bs) =
    elim (blank b) [
      | true ↦ tokens_from (at + 1) 0 bs
      | false ↦ elim (scan (b ∷ bs))
          [ nothing ↦ none_at at | found l n ↦ prepend at l (tokens_from (at + 1) (n - 1) bs) ]
    ]

unfoldable pub tokenize : List ℕ → Tokens
tokenize file = tokens_from 0 0 file
