-- How tokens are held as numbers, for the code: of each its kind, a value and its place.
use Rattle.std.specs.Prelude.{ℕ, ◌+◌, ◌≤◌, ◌≡◌, List, map, length}
use Rattle.syntax.specs.Limits.{most_bytes}
use Rattle.syntax.specs.Token.{Lexeme, name, key, number, mark, Token}
use Rattle.syntax.specs.Decide.Lexeme.{mark_number, keyword_number}
use Rattle.syntax.specs.Decide.Scan.{tokens, tokenize}

-- The kinds by number, with room for more marks and keywords: one more shifts none of the others.

abbrev pub name_kind : ℕ
name_kind = 0

abbrev pub number_kind : ℕ
number_kind = 1

-- marks from here on, in the order of their numbers
abbrev pub first_mark : ℕ
first_mark = 2

-- keywords from here on, in the order of theirs
abbrev pub first_keyword : ℕ
first_keyword = 32

-- how many keywords there are
abbrev pub keyword_count : ℕ
keyword_count = 12

-- past all kinds
abbrev pub kinds_end : ℕ
kinds_end = 64

-- what stands for a kind where a file has no token
abbrev pub no_kind : ℕ
no_kind = 255

unfoldable pub kind_of : Lexeme → ℕ
kind_of (name x) = name_kind
kind_of (key k) = first_keyword + keyword_number k
kind_of (number n) = number_kind
kind_of (mark m) = first_mark + mark_number m

-- a number's value, a name's length, and 0 of any other
unfoldable pub value_of : Lexeme → ℕ
value_of (name x) = length x
value_of (key k) = 0
value_of (number n) = n
value_of (mark m) = 0

-- the kinds of some lexemes
unfoldable pub Kinds : List Lexeme → List ℕ → Type 0
Kinds ls kinds = map kind_of ls ≡ kinds

-- the tokens of a file that is not too long
pub record Words (file : List ℕ) (ts : List Token) (kinds values places : List ℕ) : Type 0 where
  pub short : length file ≤ most_bytes
  pub cut : tokenize file ≡ tokens ts
  pub by_kind : kinds ≡ map (λ t. kind_of t.lexeme) ts
  pub by_value : values ≡ map (λ t. value_of t.lexeme) ts
  pub by_place : places ≡ map (λ t. t.at) ts
