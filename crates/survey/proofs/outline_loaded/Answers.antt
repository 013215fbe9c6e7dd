-- `survey::outline_loaded` meets its contract: a file that passes 1 to 7 and 15 has tokens, and the arrays hold them.
use Prim.Native.Nat.{ℕ}
use mathlib.Core.Path.{◌≡◌, refl, sym, ap, ◌∙◌}
use Rattle.std.specs.Prelude.{Err}
use Rattle.loader.proofs.Scanned.{scanned_long, scanned_bad, scanned_tokens, scanned_counted}
use Rattle.tokens.specs.declared.ScanError.{ScanError}
use Rattle.tokens.specs.declared.ScanError.TheVariants.{TooLong, NoToken}
use Rattle.survey.specs.Told.{past15}
use Rattle.survey.proofs.Passed.{outline_untold, refused_as, outline_told}
use Rattle.survey.proofs.outline_loaded.Goals as goal

pub returns-then-not-past_15 : goal.returns-then-not-past_15
returns-then-not-past_15 c kept holds after loads =
    outline_untold loads _ c.no_outline.ensures.0
    (sym c.past_15.ensures ∙ c.if-not-past_15.true) c.no_outline.ensures.1

pub returns : goal.returns
returns c kept holds after loads =
    let t = scanned_tokens c.scan.ensures c.in-Ok.n c.in-Ok.is in
    outline_told loads _ c.outline_of.ensures.verdict (sym c.past_15.ensures ∙ c.if-not-past_15.false) t.3
    c.outline_of.ensures.outlines

-- why a file has no tokens
by_error : {P : Type 0} (e : ScanError) → (e ≡ TooLong → P) → ((k : ℕ) → e ≡ NoToken k → P) → P
by_error TooLong long bad = long refl
by_error (NoToken k) long bad = bad k refl

pub returns-in_default : goal.returns-in_default
unfolding past15
returns-in_default c kept holds after loads =
    let is = c.in_default.is in
    outline_untold loads _ c.no_outline-in_default.ensures.0
    (by_error c.in_default.field-0
    (λ e. refused_as loads (scanned_long c.scan.ensures (is ∙ ap Err e)) refl)
    (λ k e. refused_as loads (scanned_bad c.scan.ensures k (is ∙ ap Err e)) refl)) c.no_outline-in_default.ensures.1

pub slice_bounds-kinds-end : goal.slice_bounds-kinds-end
slice_bounds-kinds-end = λ c. (scanned_counted c.scan.ensures c.in-Ok.n c.in-Ok.is).in_kinds.room

pub slice_bounds-outline_of-end : goal.slice_bounds-outline_of-end
slice_bounds-outline_of-end = λ c. (scanned_counted c.scan.ensures c.in-Ok.n c.in-Ok.is).in_kinds.long

pub slice_bounds-values-end : goal.slice_bounds-values-end
slice_bounds-values-end = λ c. (scanned_counted c.scan.ensures c.in-Ok.n c.in-Ok.is).in_values.room

pub slice_bounds-outline_of-end-2 : goal.slice_bounds-outline_of-end-2
slice_bounds-outline_of-end-2 = λ c. (scanned_counted c.scan.ensures c.in-Ok.n c.in-Ok.is).in_values.long

pub slice_bounds-places-end : goal.slice_bounds-places-end
slice_bounds-places-end = λ c. (scanned_counted c.scan.ensures c.in-Ok.n c.in-Ok.is).in_places.room

pub slice_bounds-outline_of-end-3 : goal.slice_bounds-outline_of-end-3
slice_bounds-outline_of-end-3 = λ c. (scanned_counted c.scan.ensures c.in-Ok.n c.in-Ok.is).in_places.long
