-- `scanner::run_end` meets its contract. The loop's invariant: the place and what leads there are the first place and
-- what leads there.
use mathlib.Core.Path.{sym, ◌∙◌}
use native.Mathlib.Omega.{arith}
use borrow.Author.Rules.{rules}
use borrow.Author.Tests.{leb-true, leb-false}
use lib.ListN.{length}
use lib.Dec.{leb}
use Rattle.scanner.proofs.FirstElement.{by_cases, leading_stop_at, leading_more_at, leading_end}
use Rattle.scanner.proofs.run_end.Goals as goal

pub returns-then-not-passes-clause-leads : goal.returns-then-not-passes-clause-leads
returns-then-not-passes-clause-leads g c p says =
    omega (
      arith,
      c.loop-i.invariant p says,
      leading_stop_at p c.args.file.now c.loop-i.i (search rules) (sym (says _ _ c.passes.ensures) ∙ c.if-not-passes.true),
    )

pub loop-i-preserved : goal.loop-i-preserved
loop-i-preserved g c p says =
    omega (
      arith,
      c.loop-i.invariant p says,
      leading_more_at p c.args.file.now c.loop-i.i (search rules) (sym (says _ _ c.passes.ensures) ∙ c.if-not-passes.false),
    )

pub returns-clause-leads : goal.returns-clause-leads
returns-clause-leads g c p says =
    let a = c.args in
    by_cases (leb a.at (length a.file.now))
    (λ t. omega (arith, c.loop-i.invariant p says, leading_end p a.file.now c.loop-i.i (search rules), leb-true _ _ t))
    (λ f. omega (arith, leading_end p a.file.now a.at (omega (arith, leb-false _ _ f)), leb-false _ _ f))
