-- `evaluator::eval_atom` meets its contract: the operand's two parts are added and taken away, or the other way round.
use native.Mathlib.Omega.{arith}
use Rattle.evaluator.proofs.Readings.{term_alone, near_more}
use Rattle.evaluator.proofs.eval_atom.Goals as goal

pub joined-requires : goal.joined-requires
joined-requires c =
    let parts = c.read_atom-atom.ensures.parts in
    record {
      near = near_more c.requires.near (omega (arith, c.requires.placed));
      small = c.operands-plus.ensures.small parts.plus_small;
      minus_bound = parts.minus_small;
    }

pub returns : goal.returns
returns c = λ no_mod.
    term_alone 0 c.read_atom-atom.ensures c.requires.near (omega (arith, c.requires.placed)) no_mod
    c.operands-plus.ensures c.joined.ensures
