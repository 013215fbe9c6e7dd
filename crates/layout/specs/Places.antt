-- How many tokens on a part of a file begins; as the code's constants.
use Rattle.std.specs.Prelude.{ℕ, ◌+◌, List, drop}
use Rattle.syntax.specs.Token.{mark, semicolon}
use Rattle.syntax.specs.Held.Kind.{kind_of, no_kind}
use Rattle.layout.specs.Closing.{close_from}

-- the condition, from `keep` or `try`
abbrev pub to_condition : ℕ
to_condition = 1

-- a method's regions, from `method`, behind `method NAME {`
abbrev pub to_regions : ℕ
to_regions = 3

-- a guard, from `waituntil`, behind `waituntil (`
abbrev pub to_guard : ℕ
to_guard = 2

-- a body, from the bracket that closes the guard, behind `) {`
abbrev pub to_body : ℕ
to_body = 2

-- what stands behind a token that closes
abbrev pub past : ℕ
past = 1

-- how far behind the end the search for a part may lead, where the tokens are no file of the grammar
abbrev pub overrun : ℕ
overrun = 4

-- the token behind the condition of a `keep` or a `try` and its semicolon, by the kinds
unfoldable pub behind_at : List ℕ → ℕ → ℕ
behind_at kinds at =
    at + to_condition + close_from no_kind (kind_of (mark semicolon)) 0 (drop (at + to_condition) kinds) + past
