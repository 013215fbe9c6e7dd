-- `divisors::Held::offends` is the definition's test: what is asked, the word, and the divisor.
use borrow.Author.Tests.{ne_eqb, eq-eqb}
use Rattle.syntax.specs.Token.{key, k_mod}
use Rattle.syntax.specs.Decide.Lexeme.{keyword_number}
use Rattle.syntax.specs.Held.Kind.{kind_of}
use Rattle.syntax.proofs.ByKind.{kind_key}
use Rattle.divisors.proofs.Held.offends.Goals as goal

pub returns-then-not-on : goal.returns-then-not-on
returns-then-not-on c vs ls l coded e = rw (c.if-not-on.true)

pub returns-then-kind-ne-KEY_MOD : goal.returns-then-kind-ne-KEY_MOD
unfolding kind_of keyword_number
returns-then-kind-ne-KEY_MOD c vs ls l coded e =
    rw (c.if-not-on.false, kind_key k_mod l, ← e, ne_eqb c.args.kind (kind_of (key k_mod)) c.if-kind-ne-KEY_MOD.true)

pub returns : goal.returns
unfolding kind_of keyword_number
returns c vs ls l coded e =
    rw (c.if-not-on.false, kind_key k_mod l, ← e, eq-eqb c.args.kind (kind_of (key k_mod)) c.if-kind-ne-KEY_MOD.false)
    (c.low_divisor.ensures vs ls coded)
