-- `grammar::read` meets its contract: what is left is four times one more than the tokens, as `Reading` says.
use mathlib.Core.Path.{ap}
use lib.ListN.{length, length-map}
use Rattle.syntax.specs.Held.Kind.{kind_of}
use Rattle.grammar.proofs.Readers.{whole}
use native.Mathlib.Omega.{arith}
use Rattle.grammar.proofs.read.Goals as goal

pub returns-then-kinds-gt-FILE_BYTES : goal.returns-then-kinds-gt-FILE_BYTES
returns-then-kinds-gt-FILE_BYTES c =
    λ ls i h. absurd (omega (arith, ap length i, length-map ls kind_of, c.if-kinds-gt-FILE_BYTES.true))

pub returns : goal.returns
returns c = λ ls i h. whole _ c.read_monitor.ensures ls i
