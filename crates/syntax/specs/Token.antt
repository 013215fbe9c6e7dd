-- Tokens: what they are, and the texts of the reserved words and marks ("Tokens are words, numbers and marks").
use Rattle.std.specs.Prelude.{ℕ, List, [], ◌∷◌}
use Prim.Native.String.{String}

-- the nineteen marks (R 1.12)
pub data Mark : Type 0 where
  lbrace rbrace lparen rparen semicolon equals dots becomes : Mark
  same differs below at_most_mark above at_least_mark plus minus bang and_and or_or : Mark

-- the reserved words (R 1.8)
pub data Keyword : Type 0 where
  k_monitor k_var k_in k_keep k_method k_waituntil k_if k_else k_true k_false k_try k_mod : Keyword

-- a token without its place: a name is its bytes, a number its value (R 1.6)
pub data Lexeme : Type 0 where
  name : List ℕ → Lexeme
  key : Keyword → Lexeme
  number : ℕ → Lexeme
  mark : Mark → Lexeme

-- a token with the byte at which it begins (R 1.19)
pub record Token : Type 0 where
  pub at : ℕ
  pub lexeme : Lexeme

-- the texts of the reserved words (R 1.8)
unfoldable pub keywords : List (String × Keyword)
keywords =
    ("monitor", k_monitor) ∷ ("var", k_var) ∷ ("in", k_in) ∷ ("keep", k_keep) ∷ ("method", k_method)
    ∷ ("waituntil", k_waituntil) ∷ ("if", k_if) ∷ ("else", k_else) ∷ ("true", k_true) ∷ ("false", k_false)
    ∷ ("try", k_try) ∷ ("mod", k_mod) ∷ []

-- the marks, those of two bytes first: "The longest token is taken" (R 1.12, 1.14)
unfoldable pub marks : List (String × Mark)
marks =
    ("..", dots) ∷ (":=", becomes) ∷ ("==", same) ∷ ("!=", differs) ∷ ("<=", at_most_mark) ∷ (">=", at_least_mark)
    ∷ ("&&", and_and) ∷ ("||", or_or) ∷ ("{", lbrace) ∷ ("}", rbrace) ∷ ("(", lparen) ∷ (")", rparen)
    ∷ (";", semicolon) ∷ ("=", equals) ∷ ("<", below) ∷ (">", above) ∷ ("+", plus) ∷ ("-", minus) ∷ ("!", bang) ∷ []

-- the lexemes of some tokens
unfoldable pub lexemes : List Token → List Lexeme
lexemes [] = []
lexemes (t ∷ ts) = t.lexeme ∷ lexemes ts
