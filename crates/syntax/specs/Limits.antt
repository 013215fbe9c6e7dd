-- The limits of document 01 on a file, by name. Those on the machine of a file are in `machine/specs/Limits`.
use Rattle.std.specs.Prelude.{ℕ}

-- the bytes of a file (1; R 6.4)
abbrev pub most_bytes : ℕ
most_bytes = 8192

-- the bytes of a word (2; R 1.7)
abbrev pub most_word_bytes : ℕ
most_word_bytes = 16

-- the digits of a number (2; R 1.11)
abbrev pub most_digits : ℕ
most_digits = 3

-- the tokens of a file (3; R 6.8)
abbrev pub most_tokens : ℕ
most_tokens = 1024

-- brackets and braces that are open at once (3; R 6.9)
abbrev pub most_open : ℕ
most_open = 12

-- the variables of a file (5; R 6.18)
abbrev pub most_vars : ℕ
most_vars = 6

-- the methods of a file (5; R 6.18)
abbrev pub most_methods : ℕ
most_methods = 8

-- the tries of a file (5; R 6.18)
abbrev pub most_tries : ℕ
most_tries = 16
