-- What bytes spell a token, in the words of document 01: the shapes of tokens, the lexeme that a shape spells, the
-- longest token at a place, and a file that is made up of tokens and blanks.
use Rattle.std.specs.Prelude.{ℕ, ◌+◌, ◌≤◌, ◌<◌, Bool, true, false, ◌≡◌, length, take, drop}
use Prim.Native.String.{String}
use mathlib.Core.List.{List, [], ◌∷◌, Memᴰ}
use Rattle.syntax.specs.Bytes.{bytes, blank, letter, digit, word_byte, decimal}
use Rattle.syntax.specs.Limits.{most_word_bytes, most_digits}
use Rattle.syntax.specs.Token.{Mark, Keyword, Lexeme, name, key, number, mark, Token, keywords, marks}

-- each byte passes a test
abbrev pub Every : (ℕ → Bool) → List ℕ → Type 0
Every p [] = Unit {0}
Every p (b ∷ bs) = (p b ≡ true) × Every p bs

-- a byte that passes one test, then bytes that pass another
abbrev pub Run : (ℕ → Bool) → (ℕ → Bool) → List ℕ → Type 0
Run f p [] = ⊥
Run f p (b ∷ bs) = (f b ≡ true) × Every p bs

-- "a letter (A-Z, a-z), then letters, digits or _", of any length (R 1.7, 1.14)
abbrev pub Word : List ℕ → Type 0
Word w = Run letter word_byte w

-- "decimal digits", one or more (R 1.11, 1.14)
abbrev pub Digits : List ℕ → Type 0
Digits w = Run digit digit w

-- the bytes of a text that stands for something in a list
abbrev pub Listed : {A : Type 0} → List (String × A) → List ℕ → A → Type 0
Listed l w a = (s : String) × Memᴰ (s, a) l × (bytes s ≡ w)

-- "Tokens are words, numbers and marks", here of any length (R 1.6, 1.14)
pub data TokenShape (w : List ℕ) : Type 0 where
  a_word : Word w → TokenShape w
  a_number : Digits w → TokenShape w
  a_mark : {m : Mark} → Listed marks w m → TokenShape w

-- the lexeme of a word of "at most 16 bytes", of a number of "1 to 3 decimal digits", or of a mark
-- (R 1.7, 1.9, 1.10, 1.11, 1.12)
pub data Spells (w : List ℕ) : Lexeme → Type 0 where
  reserved : {k : Keyword} → Word w → length w ≤ most_word_bytes → Listed keywords w k → Spells w (key k)
  named : Word w → length w ≤ most_word_bytes → ((k : Keyword) → Listed keywords w k → ⊥) → Spells w (name w)
  valued : Digits w → length w ≤ most_digits → Spells w (number (decimal 0 w))
  marked : {m : Mark} → Listed marks w m → Spells w (mark m)

-- some bytes spell the lexeme: so a name is not reserved and not too long, a number not too large (R 1.20)
unfoldable pub Spellable : Lexeme → Type 0
Spellable l = (w : List ℕ) × Spells w l

-- each of some lexemes is spelled by some bytes (R 1.20)
abbrev pub AllSpellable : List Lexeme → Type 0
AllSpellable [] = Unit {0}
AllSpellable (l ∷ ls) = Spellable l × AllSpellable ls

-- "The longest token is taken": the first n bytes have a token's shape, and no more bytes have one (R 1.14, 1.15)
pub record Longest (bs : List ℕ) (n : ℕ) : Type 0 where
  pub within : n ≤ length bs
  pub shape : TokenShape (take n bs)
  pub longest : (k : ℕ) → n < k → k ≤ length bs → TokenShape (take k bs) → ⊥

-- "begins no token, or begins a word or number that is too long" (R 6.5)
pub data BeginsNone (bs : List ℕ) : Type 0 where
  no_token : ((k : ℕ) → k ≤ length bs → TokenShape (take k bs) → ⊥) → BeginsNone bs
  long_word : {n : ℕ} → Longest bs n → Word (take n bs) → most_word_bytes < n → BeginsNone bs
  long_number : {n : ℕ} → Longest bs n → Digits (take n bs) → most_digits < n → BeginsNone bs

-- the bytes from a place on are blanks and these tokens (R 1.4, 1.16, 1.18)
pub data Cover : ℕ → List ℕ → List Token → Type 0 where
  done : {at : ℕ} → Cover at [] []
  skip : {at b : ℕ} {bs : List ℕ} {ts : List Token} → blank b ≡ true → Cover (at + 1) bs ts → Cover at (b ∷ bs) ts
  token : {at n : ℕ} {l : Lexeme} {bs : List ℕ} {ts : List Token} → Longest bs n → Spells (take n bs) l
      → Cover (at + n) (drop n bs) ts → Cover at bs (record { at = at; lexeme = l } ∷ ts)

-- the bytes from a place on are blanks and tokens up to the place k, and what stands there begins no token
-- (R 6.5, 6.6)
pub data NoTokenAt (k : ℕ) : ℕ → List ℕ → Type 0 where
  here : {b : ℕ} {bs : List ℕ} → blank b ≡ false → BeginsNone (b ∷ bs) → NoTokenAt k k (b ∷ bs)
  skip : {at b : ℕ} {bs : List ℕ} → blank b ≡ true → NoTokenAt k (at + 1) bs → NoTokenAt k at (b ∷ bs)
  token : {at n : ℕ} {l : Lexeme} {bs : List ℕ} → Longest bs n → Spells (take n bs) l → NoTokenAt k (at + n) (drop n bs)
      → NoTokenAt k at bs
