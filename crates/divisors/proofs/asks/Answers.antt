-- `divisors::asks` is the definition's test, by kinds.
use Rattle.syntax.specs.Token.{semicolon, lbrace, k_keep, k_try, k_waituntil}
use Rattle.syntax.specs.Decide.Lexeme.{mark_number, keyword_number}
use Rattle.syntax.specs.Held.Kind.{kind_of}
use Rattle.syntax.proofs.ByKind.{kind_mark, kind_key}
use Rattle.meaning.specs.Decide.Check as check
use Rattle.divisors.proofs.asks.Goals as goal

pub returns : goal.returns
unfolding check.asks kind_of mark_number keyword_number
returns c l e =
    rw (kind_key k_keep l, kind_key k_try l, kind_key k_waituntil l, kind_mark semicolon l, kind_mark lbrace l, ← e)
