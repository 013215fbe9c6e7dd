-- Lexemes told apart by tests. `proofs/Lexemes` shows that each decides what its name says.
use Rattle.std.specs.Prelude.{ℕ, Bool, true, false, eqb}
use Rattle.syntax.specs.Token.{Keyword, Lexeme, Mark, above, and_and, at_least_mark, at_most_mark, bang, becomes, below}
use Rattle.syntax.specs.Token.{differs, dots, equals, k_else, k_false, k_if, k_in, k_keep, k_method, k_mod}
use Rattle.syntax.specs.Token.{k_monitor, k_true, k_try, k_var, k_waituntil, key, lbrace, lparen, mark, minus, name, number}
use Rattle.syntax.specs.Token.{or_or, plus, rbrace, rparen, same, semicolon}

-- marks and keywords by number, to compare them
unfoldable pub mark_number : Mark → ℕ
mark_number lbrace = 0
mark_number rbrace = 1
mark_number lparen = 2
mark_number rparen = 3
mark_number semicolon = 4
mark_number equals = 5
mark_number dots = 6
mark_number becomes = 7
mark_number same = 8
mark_number differs = 9
mark_number below = 10
mark_number at_most_mark = 11
mark_number above = 12
mark_number at_least_mark = 13
mark_number plus = 14
mark_number minus = 15
mark_number bang = 16
mark_number and_and = 17
mark_number or_or = 18

unfoldable pub keyword_number : Keyword → ℕ
keyword_number k_monitor = 0
keyword_number k_var = 1
keyword_number k_in = 2
keyword_number k_keep = 3
keyword_number k_method = 4
keyword_number k_waituntil = 5
keyword_number k_if = 6
keyword_number k_else = 7
keyword_number k_true = 8
keyword_number k_false = 9
keyword_number k_try = 10
keyword_number k_mod = 11

unfoldable pub is_mark : Mark → Lexeme → Bool
is_mark m (name x) = false
is_mark m (key k) = false
is_mark m (number n) = false
is_mark m (mark o) = eqb (mark_number m) (mark_number o)

unfoldable pub is_key : Keyword → Lexeme → Bool
is_key k (name x) = false
is_key k (key j) = eqb (keyword_number k) (keyword_number j)
is_key k (number n) = false
is_key k (mark o) = false

unfoldable pub is_name : Lexeme → Bool
is_name (name x) = true
is_name (key k) = false
is_name (number n) = false
is_name (mark m) = false
