-- `scanner::is_word_byte` meets its contract: letters and digits are those of the kit.
use mathlib.Core.Path.{sym, ◌∙◌}
use Rattle.scanner.proofs.FirstElement.{alphanumeric}
use Rattle.scanner.proofs.is_word_byte.Goals as goal

pub returns-then-is_ascii_alphanumeric : goal.returns-then-is_ascii_alphanumeric
returns-then-is_ascii_alphanumeric c =
    sym (alphanumeric c.args.b ∙ rw (← c.is_ascii_alphanumeric.ensures.value, c.if-is_ascii_alphanumeric.true))

pub returns-else-is_ascii_alphanumeric : goal.returns-else-is_ascii_alphanumeric
returns-else-is_ascii_alphanumeric c =
    sym (alphanumeric c.args.b ∙ rw (← c.is_ascii_alphanumeric.ensures.value, c.if-is_ascii_alphanumeric.false))
