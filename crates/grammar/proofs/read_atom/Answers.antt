-- `grammar::read_atom` meets its contract.
use Rattle.grammar.proofs.Readers.{ends, yes, no}
use Rattle.grammar.proofs.KindTests.{by_name, took_name}
use Rattle.syntax.specs.Decide.Reading.{read_atom}
use Rattle.grammar.proofs.read_atom.Goals as goal

pub returns-then-sees : goal.returns-then-sees
unfolding read_atom
returns-then-sees c =
    yes _ by_name (rw c.if-sees.true at c.sees.ensures) (ends _ (took_name c.expect.ensures))

pub returns-else-sees : goal.returns-else-sees
unfolding read_atom
returns-else-sees c =
    no _ by_name (rw c.if-sees.false at c.sees.ensures) (ends _ c.read_int.ensures)
