use Rattle.digits.specs.Written.{Writes}
use Rattle.lines.specs.Written.{each_at}
use Rattle.lines.proofs.put_each.Given as goal

abbrev pub invariant-loop-b : goal.invariant-loop-b
invariant-loop-b l = Writes (each_at l.bytes l.b-index) l.initial.out l.at l.to l.out
