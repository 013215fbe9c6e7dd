-- Bytes: the classes that document 01 names, texts as bytes, and equal bytes.
use Rattle.std.specs.Prelude.{ℕ, ◌+◌, ◌*◌, ◌-◌, Bool, true, false, ◌&&◌, ◌||◌, List, [], ◌∷◌, leb, eqb}
use Prim.Native.Char.{Char, code}
use Prim.Native.String.{String}
use Prim.Native.String as text

-- the bytes of a quoted text
unfoldable pub bytes : String → List ℕ
bytes text.[] = []
bytes (text.◌∷◌ c s) = code c ∷ bytes s

unfoldable pub between : Char → Char → ℕ → Bool
between a z b = leb (code a) b && leb b (code z)

-- the bytes that stand free between tokens: 09, 0A, 0D, 20 (R 1.3)
unfoldable pub blank : ℕ → Bool
blank b = eqb b 9 || eqb b 10 || eqb b 13 || eqb b 32

-- "a letter (A-Z, a-z)" (R 1.5)
unfoldable pub letter : ℕ → Bool
letter b = between "A" "Z" b || between "a" "z" b

-- a digit, 0-9 (R 1.5)
unfoldable pub digit : ℕ → Bool
digit b = between "0" "9" b

-- "letters, digits or _" (R 1.5)
unfoldable pub word_byte : ℕ → Bool
word_byte b = letter b || digit b || eqb b (code "_")

-- the value of decimal digits, with what stands before them (R 1.11)
unfoldable pub decimal : ℕ → List ℕ → ℕ
decimal n [] = n
decimal n (b ∷ bs) = decimal (n * 10 + (b - code "0")) bs

-- "compared byte for byte" (R 3.6)
unfoldable pub same_bytes : List ℕ → List ℕ → Bool
same_bytes [] [] = true
same_bytes [] (b ∷ bs) = false
same_bytes (a ∷ as') [] = false
same_bytes (a ∷ as') (b ∷ bs) = eqb a b && same_bytes as' bs
