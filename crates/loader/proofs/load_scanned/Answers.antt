-- `loader::load_scanned` meets its contract: 1 and 2 are the scanner's; else the arrays hold the file's tokens as far as
-- they were filled, 3 to 7 are `judge`'s, a file that passed them has few tokens, and `load_judged` goes on.
use mathlib.Core.Path.{sym, ap, ◌∙◌}
use native.Mathlib.Omega.{arith}
use lib.Seq.{length-take-le}
use Rattle.std.specs.Prelude.{Err}
use Rattle.tokens.specs.declared.ScanError.TheVariants.{NoToken}
use Rattle.loader.proofs.Scanned.{scanned_long, scanned_bad, scanned_tokens, scanned_counted}
use Rattle.filling.proofs.Fills.{left_all}
use Rattle.loader.proofs.Loads.{too_long, no_token, judged_early, same_refusal, judged_tree, few}
use Rattle.loader.proofs.load_scanned.Goals as goal

pub returns-in-Err-TooLong : goal.returns-in-Err-TooLong
returns-in-Err-TooLong c =
    record {
      loads = λ l₁ l₂ l₃.
          too_long _ _ _ _ (scanned_long c.scan.ensures (c.in-Err-TooLong.is ∙ ap Err c.in-Err-TooLong.field-0-is));
      leaves = left_all _ _ _ _;
    }

pub returns-in-Err-NoToken : goal.returns-in-Err-NoToken
returns-in-Err-NoToken c =
    record {
      loads = λ l₁ l₂ l₃.
          no_token _ _ _ _ _ (scanned_bad c.scan.ensures _
          (c.in-Err-NoToken.is ∙ ap Err (c.in-Err-NoToken.field-0-is ∙ ap NoToken (sym c.in-Err-NoToken.byte-is))));
      leaves = left_all _ _ _ _;
    }

pub slice_bounds-kinds-end : goal.slice_bounds-kinds-end
slice_bounds-kinds-end c = (scanned_counted c.scan.ensures c.in-Ok.n c.in-Ok.is).in_kinds.room

pub slice_bounds-kinds-end-2 : goal.slice_bounds-kinds-end-2
slice_bounds-kinds-end-2 c = (scanned_counted c.scan.ensures c.in-Ok.n c.in-Ok.is).in_kinds.long

pub slice_bounds-values-end : goal.slice_bounds-values-end
slice_bounds-values-end c = (scanned_counted c.scan.ensures c.in-Ok.n c.in-Ok.is).in_values.room

pub slice_bounds-values-end-2 : goal.slice_bounds-values-end-2
slice_bounds-values-end-2 c = (scanned_counted c.scan.ensures c.in-Ok.n c.in-Ok.is).in_values.long

pub slice_bounds-places-end : goal.slice_bounds-places-end
slice_bounds-places-end c = (scanned_counted c.scan.ensures c.in-Ok.n c.in-Ok.is).in_places.room

pub slice_bounds-places-end-2 : goal.slice_bounds-places-end-2
slice_bounds-places-end-2 c = (scanned_counted c.scan.ensures c.in-Ok.n c.in-Ok.is).in_places.long

pub returns-in_err-judged-clause-loads : goal.returns-in_err-judged-clause-loads
returns-in_err-judged-clause-loads c l₁ l₂ l₃ =
    let t = scanned_tokens c.scan.ensures c.in-Ok.n c.in-Ok.is in
    same_refusal _ c.from_residual.result c.in_err-judged.field-0.0 _ _ _ c.from_residual.ensures.1
    (judged_early _ t.0 _ _ _ _ (c.in_err-judged.ensures t.0 t.3))

pub slice_bounds-operands-end : goal.slice_bounds-operands-end
slice_bounds-operands-end c =
    let t = scanned_tokens c.scan.ensures c.in-Ok.n c.in-Ok.is in
    let (m, p) = judged_tree _ t.0 c.in_ok-judged.judged (c.in_ok-judged.ensures t.0 t.3) in
    omega (arith, t.1, few t.3 m _ p)

pub slice_bounds-load_judged-end : goal.slice_bounds-load_judged-end
slice_bounds-load_judged-end c =
    let t = scanned_tokens c.scan.ensures c.in-Ok.n c.in-Ok.is in
    let (m, p) = judged_tree _ t.0 c.in_ok-judged.judged (c.in_ok-judged.ensures t.0 t.3) in
    sym (length-take-le _ _ (omega (arith, t.1, few t.3 m _ p)))

pub returns-clause-loads : goal.returns-clause-loads
returns-clause-loads c l₁ l₂ l₃ =
    let t = scanned_tokens c.scan.ensures c.in-Ok.n c.in-Ok.is in
    let (m, p) = judged_tree _ t.0 c.in_ok-judged.judged (c.in_ok-judged.ensures t.0 t.3) in
    c.load_judged.ensures.loads t.0 m t.3 p
    (length-take-le _ _ (omega (arith, t.1, few t.3 m _ p)) ∙ t.1) l₁ l₂ l₃
