-- `passes::crowds` is the test of `crowded` at a token.
use borrow.Author.Tests.{le-leb, lt-leb}
use Rattle.syntax.specs.Decide.Lexeme.{mark_number}
use Rattle.syntax.specs.Limits.{most_tokens}
use Rattle.syntax.specs.Held.Kind.{kind_of}
use Rattle.passes.proofs.ByIndex.{kind_opens}
use Rattle.passes.proofs.crowds.Goals as goal

pub returns-then-passed-ge-TOKENS : goal.returns-then-passed-ge-TOKENS
returns-then-passed-ge-TOKENS c l e = rw (le-leb most_tokens _ c.if-passed-ge-TOKENS.true)

pub returns-then-either : goal.returns-then-either
unfolding kind_of mark_number
returns-then-either c l e = rw (
  lt-leb most_tokens _ c.if-passed-ge-TOKENS.false,
  kind_opens l,
  ← e,
  ← c.either.ensures,
  c.if-either.true,
)

pub returns-else-either : goal.returns-else-either
unfolding kind_of mark_number
returns-else-either c l e = rw (
  lt-leb most_tokens _ c.if-passed-ge-TOKENS.false,
  kind_opens l,
  ← e,
  ← c.either.ensures,
  c.if-either.false,
)
