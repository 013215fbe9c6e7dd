-- `evaluator::eval_term` meets its contract: with `mod` behind the first atom it is a remainder, and else the atom
-- alone.
use native.Mathlib.Omega.{arith}
use mathlib.Core.Path.{sym, ◌∙◌}
use Rattle.syntax.specs.Held.Kind.{kind_of}
use Rattle.syntax.specs.Decide.Lexeme.{mark_number, keyword_number}
use Rattle.evaluator.proofs.Readings.{term_alone, term_mod, near_more}
use Rattle.evaluator.proofs.eval_term.Goals as goal

pub joined-requires : goal.joined-requires
joined-requires c =
    record {
      near = near_more c.requires.near (omega (arith, c.requires.placed));
      small = c.divide-rests.ensures.small;
      minus_bound = omega arith;
    }

pub returns-then-kind_at-eq-KEY_MOD : goal.returns-then-kind_at-eq-KEY_MOD
unfolding kind_of mark_number keyword_number
returns-then-kind_at-eq-KEY_MOD c =
    term_mod c.args.lacks c.read_atom-left.ensures c.requires.near (omega (arith, c.requires.placed))
    (sym c.kind_at.ensures ∙ c.if-kind_at-eq-KEY_MOD.true) c.after.ensures c.read_atom-right.ensures
    c.divide-rests.ensures c.union.ensures c.joined.ensures

pub joined-requires-2 : goal.joined-requires-2
joined-requires-2 c =
    let parts = c.read_atom-left.ensures.parts in
    record {
      near = near_more c.requires.near (omega (arith, c.requires.placed));
      small = c.operands-plus.ensures.small parts.plus_small;
      minus_bound = parts.minus_small;
    }

pub returns : goal.returns
unfolding kind_of mark_number keyword_number
returns c =
    term_alone c.args.lacks c.read_atom-left.ensures c.requires.near (omega (arith, c.requires.placed))
    (λ e. c.if-kind_at-eq-KEY_MOD.false (c.kind_at.ensures ∙ e)) c.operands-plus.ensures c.joined-2.ensures
