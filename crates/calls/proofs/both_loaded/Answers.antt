-- `calls::both_loaded` meets its contract: a number that is not 0 is a refusal, else the file's monitor runs over the
-- slices that hold it; and demand 3 of the two results.
use mathlib.Core.Path.{◌≡◌, refl, sym, ap, subst, ◌∙◌}
use mathlib.Core.Bool.{Bool, true, false}
use Rattle.stepper.specs.Shown.{of_machine}
use Rattle.run.specs.Results.{Runs, machine_of}
use Rattle.meaning.specs.Decide.Calls.{running}
use Rattle.demands.proofs.Demand2.{checked}
use Rattle.meaning.specs.Decide.Check.{check}
use Rattle.answers.specs.Says.{Is}
use Rattle.answers.specs.declared.Answer as code
use Rattle.calls.specs.Results.{EntriesOf}
use Rattle.calls.proofs.Loaded.{is_accepted, not_loaded, ran_loaded}
use Rattle.calls.proofs.Same.{both_agree}
use Rattle.calls.proofs.both_loaded.Goals as goal

pub returns-in-Err : goal.returns-in-Err
returns-in-Err c file loads =
    let (same, other) = c.in-Err.ensures in
    let is : Is c.in-Err.answer (check file) = subst (λ (a : code.Answer). Is a (check file)) (sym same) loads.verdict in
    let not_0 = λ (zero : c.in-Err.answer.number ≡ 0). other (ap (λ (a : code.Answer). a.number) (sym same) ∙ zero) in
    rw (c.alike.ensures.0, c.alike.ensures.1) (both_agree file _ _ _ _
    (not_loaded file _ _ _ _ is not_0 c.no_record.ensures refl)
    (not_loaded file _ _ _ _ is not_0 c.no_record.ensures refl))

pub returns : goal.returns
unfolding EntriesOf machine_of of_machine
returns c file loads =
    let e = c in
    let entries = e.entries_of-entries.ensures file loads in
    let a = e.args in
    let ran : (w : Bool) → Runs (running file a.bytes.now a.start (machine_of w))
    (of_machine w c.run_from.result.plain c.run_from.result.table) =
    λ w. ran_loaded file _ _ _ _ _ loads.verdict (is_accepted _ _ c.verdict.ensures c.in_default.not-Err)
    (λ m h.
    let x = loads.monitored m h in
    let laid = c.slices_of-slices.ensures.laid in
    let swept = c.slices_of-slices.ensures.swept in
    c.run_from.ensures m x.bounded (laid.3 ∙ x.region_count) (rw (swept.0, swept.1, laid.0) x.held)
    (rw (laid.1, laid.2) x.held_places) (rw swept.2 (entries m h)) (checked file m h) w) in
    both_agree file _ _ _ _ (ran false) (ran true)
