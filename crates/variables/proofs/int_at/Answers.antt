-- `variables::int_at` meets its contract. By the token at the place an integer with or without - is spelled there; the
-- laws of `Spelled` say where its number stands.
use Rattle.std.proofs.Common.{sym, ◌∙◌, arith}
use Rattle.syntax.specs.Decide.Lexeme.{mark_number}
use Rattle.syntax.specs.Held.Kind.{kind_of}
use Rattle.variables.proofs.Spelled.{minus_int, plain_int}
use Rattle.variables.proofs.int_at.Goals as goal

pub returns-then-kind_at-eq-MINUS : goal.returns-then-kind_at-eq-MINUS
unfolding kind_of mark_number
returns-then-kind_at-eq-MINUS c =
    let a = c.args in
    record {
      further = omega arith;
      near = omega arith;
      spelled = λ ls rest n held e.
          rw (c.from.ensures, c.value_at.ensures)
          (minus_int held rest a.at n e (sym c.kind_at.ensures ∙ c.if-kind_at-eq-MINUS.true));
    }

pub returns-else-kind_at-eq-MINUS : goal.returns-else-kind_at-eq-MINUS
unfolding kind_of mark_number
returns-else-kind_at-eq-MINUS c =
    let a = c.args in
    record {
      further = omega arith;
      near = omega arith;
      spelled = λ ls rest n held e.
          rw (c.from-else-kind_at-eq-MINUS.ensures, c.value_at-else-kind_at-eq-MINUS.ensures)
          (plain_int held rest a.at n e (λ q. c.if-kind_at-eq-MINUS.false (c.kind_at.ensures ∙ q)));
    }
