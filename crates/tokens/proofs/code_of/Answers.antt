-- `tokens::code_of` meets its contract: each arm is given the token's constructor, at which `code_of` computes.
use mathlib.Core.Path.{sym, ap, ◌∙◌}
use Rattle.tokens.specs.Coded.{code_of, Within}
use Rattle.syntax.specs.Held.Kind.{kind_of, value_of}
use Rattle.tokens.proofs.code_of.Goals as goal

pub word_code-requires : goal.word_code-requires
unfolding Within
word_code-requires c = rw c.in-Word.is at c.requires

pub returns-in-Word : goal.returns-in-Word
unfolding code_of
returns-in-Word c =
    c.word_code.ensures
    ∙ sym (ap (code_of c.args.file.now)
    c.in-Word.is)

pub returns-in-Number : goal.returns-in-Number
unfolding code_of kind_of value_of
returns-in-Number c = sym (ap (code_of c.args.file.now) c.in-Number.is)

pub returns-in-Mark : goal.returns-in-Mark
unfolding code_of
returns-in-Mark c = sym (ap (code_of c.args.file.now) c.in-Mark.is)

pub returns-in-None : goal.returns-in-None
unfolding code_of
returns-in-None c = sym (ap (code_of c.args.file.now) c.in-None.is)
