-- Where the parts of a file's variables stand, by how many tokens are before them; as the code's constants.
use Rattle.std.specs.Prelude.{ℕ}

-- a file's variables, behind `monitor NAME {`
abbrev pub first_var : ℕ
first_var = 3

-- a variable's start value, behind `var NAME =`
abbrev pub to_start : ℕ
to_start = 3

-- the tokens of an integer, without a minus and with one
abbrev pub plain_long : ℕ
plain_long = 1

abbrev pub negated_long : ℕ
negated_long = 2
