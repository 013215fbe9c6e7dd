-- From what the library's calls promise to what the programs print.
use Prim.Native.Nat.{ℕ, ◌+◌, ◌*◌, ◌%◌, ◌<◌, ◌≤◌}
use native.Mathlib.Omega.{arith}
use native.Mathlib.Nat.{zero-add, mod-eq_of_lt}
use mathlib.Core.Path.{◌≡◌, refl, sym, ap, ◌∙◌, subst}
use mathlib.Core.Bool.{true, false}
use mathlib.Core.List.{List, ◌++◌}
use lib.ListN.{length, drop, length-append}
use lib.Seq.{length-take-le, take_all}
use Rattle.syntax.specs.Limits.{most_vars}
use Rattle.meaning.specs.Answer.{Answer, answer, Verdict, accepted, refused}
use Rattle.meaning.specs.Decide.Check.{check}
use Rattle.logic.proofs.Bools.{clash}
use Rattle.meaning.proofs.Verdicts.{accepted_iff, refused_iff}
use Rattle.meaning.specs.Calls.{Machine, plain_machine, table_machine, ran, refused_file, not_run}
use Rattle.meaning.specs.Decide.Calls.{place, running}
use Rattle.meaning.specs.Calls as calls
use Rattle.demands.specs.Demand1.{PlacesAs, file_refused, too_short, placed}
use Rattle.demands.specs.Demand1.{RunsAs, no_monitor, no_start, bad_line, frame_refused, all_allowed}
use Rattle.meaning.specs.Refusal.{Refusal}
use Rattle.demands.proofs.Demand1.{place_iff, accepted_writes_table, running_iff}
use Rattle.meaning.specs.Lines.{trace_bytes, refusal_line, run_line, machine_line, placer, runner}
use Rattle.demands.specs.Widths.{AnswerFits, RunFits}
use Rattle.demands.proofs.Widths.{refusal_fits, running_fits, line_short, table_short}
use Rattle.answers.specs.Says.{Says}
use Rattle.answers.specs.declared.Answer as code
use Rattle.run.specs.Results.{Runs}
use Rattle.run.specs.declared.Running.{Running}
use Rattle.calls.specs.Results.{Places, start_of}
use Rattle.calls.specs.declared.Placing.{Placing}
use Rattle.digits.specs.Written.{over, Writes}
use Rattle.lines.specs.Written.{Fits, held_line, PutsLine}
use Rattle.lines.proofs.Writing.{held_line_lem}
use Rattle.digits.proofs.Writing.{written_length, written_more}
use Rattle.output.specs.Printed.{Prints, output_bytes}

-- ---- lines at byte 0

pub prints : {lines before after : List ℕ} {n : ℕ} → after ≡ lines ++ drop (length lines) before → n ≡ length lines
    → Prints lines before n after
prints {lines} {before} {after} {n} e c =
    let whole = ap length e ∙ length-append lines (drop (length lines) before) in
    let within : n ≤ length after = omega arith in
    record { bytes = e; count = c; within = within; part = sym (length-take-le n after within) }

pub written_prints : {lines before after : List ℕ} {n : ℕ} → Writes lines before 0 n after → Prints lines before n after
unfolding over
written_prints {lines} w = prints (rw zero-add at w.bytes) (w.behind ∙ zero-add (length lines))

-- ---- an answer

answer_is : {r : code.Answer} {a : Answer} → Says r a → answer r.number r.first r.second ≡ a
answer_is s = λ i. record { number = s.number i; first = s.first i; second = s.second i }

-- what putting an answer's line says, and what it writes of a refusal whose places fit
abbrev PutsAnswer : code.Answer → (before : List ℕ) (at n : ℕ) (after : List ℕ) → Type 0
PutsAnswer r before at n after =
    PutsLine (refusal_line (answer r.number (r.first % 65536) (r.second % 65536))) (at + 11 ≤ length before) before
    at n after

module _ (r : code.Answer) {before after : List ℕ} {at n : ℕ} (put : PutsAnswer r before at n after) where
  answer_written : {a : Answer} → Says r a → AnswerFits a → at + 11 ≤ length before
      → Writes (refusal_line a) before at n after
  answer_written s f room =
      let low : r.first < 65536 = omega (arith, s.first, f.first) in
      let low' : r.second < 65536 = omega (arith, s.second, f.second) in
      subst (λ x. Writes (refusal_line x) before at n after) (answer_is s)
      (rw (mod-eq_of_lt low, mod-eq_of_lt low') at (put.written room))

-- ---- the table

module _ (file buffer : List ℕ) {r : Placing} {after : List ℕ} (p : Places (place file buffer) r after) where
  pub table_printed : r.answer.number ≡ 0 → Prints (placer file) buffer r.length after
  unfolding placer
  table_printed z =
      let x = accepted_writes_table file buffer (sym p.answer.number ∙ z) in
      rw ((accepted_iff file x.0).1 x.1, placer) (prints (p.bytes ∙ x.3) (p.length ∙ x.2))

  -- a number other than 0 is a refusal of the file, since the table fits
  pub refusal_printed : {n : ℕ} {last : List ℕ} → output_bytes ≤ length buffer → (r.answer.number ≡ 0 → ⊥)
      → PutsAnswer r.answer after 0 n last → Prints (placer file) buffer n last
  unfolding placer
  refusal_printed {n} {last} room other put = go ((place_iff file buffer _).0 refl) p
    where
      go : {q : calls.Placing} → PlacesAs file buffer q → Places q r after → Prints (placer file) buffer n last
      go (file_refused {a} f) q =
          let w = answer_written r.answer put q.answer (refusal_fits f) (rw q.bytes (omega arith)) in
          rw ((refused_iff file a).1 f, placer) (written_prints (rw q.bytes at w))
      go (too_short {m} a h) q =
          let short = table_short a in
          absurd (omega arith)
      go (placed a h) q = absurd (other q.answer.number)

-- ---- a machine's line

module _ (r : Running) {before after : List ℕ} {at n : ℕ} (room : at + 47 ≤ length before) where
  pub refusal_written : (r.answer.number ≡ 0 → ⊥) → PutsAnswer r.answer before at n after
      → (x : calls.Running) → Runs x r → RunFits x → Writes (run_line x) before at n after
  unfolding Runs RunFits run_line
  refusal_written other put (ran rec) s f = absurd (other s.0.number)
  refusal_written other put (refused_file a) s f = answer_written r.answer put s.0 f (omega arith)
  refusal_written other put (not_run a) s f = answer_written r.answer put s.0 f (omega arith)

  pub record_written : r.answer.number ≡ 0
      → PutsLine (held_line r.record.vars r.record.values r.record.threads)
      ((r.record.vars ≤ most_vars) × (at + 35 + 2 * r.record.vars ≤ length before)) before at n after
      → (x : calls.Running) → Runs x r → RunFits x → Writes (run_line x) before at n after
  unfolding Runs RunFits run_line
  record_written z put (ran rec) s f =
      let held = s.1 in
      let fits : Fits rec r.record.vars r.record.values r.record.threads =
      record { counted = held.vars; held = held.values; places = held.places; digits = f } in
      rw (held_line_lem fits) at (put.written (omega (arith, held.vars, f.few), omega (arith, held.vars, f.few)))
  record_written z put (refused_file a) s f = absurd (omega (arith, s.0.number, f.refuses))
  record_written z put (not_run a) s f = absurd (omega (arith, s.0.number, f.refuses))

-- ---- the runs

-- whose refusal it is
of_file_refused : {file bytes : List ℕ} {s : ℕ} {w : Machine} {x : calls.Running} → RunsAs file bytes s w x
    → (r : Running) → Runs x r → r.of_file ≡ true → (a : Answer) × Refusal file a
unfolding Runs
of_file_refused (no_monitor {a} q) r s h = (a, q)
of_file_refused (no_start a n) r s h = clash h s.2
of_file_refused (bad_line a k t) r s h = clash h s.2
of_file_refused (frame_refused a k q e t) r s h = clash h s.2
of_file_refused (all_allowed a k q e t) r s h = clash h s.2

module _ (file trace : List ℕ) (short : length trace ≤ trace_bytes) where
  abbrev pub end : Machine → calls.Running
  end w = running file trace (start_of (check file)) w

  pub end_fits : (w : Machine) → RunFits (end w)
  end_fits w = running_fits ((running_iff file trace (start_of (check file)) w (end w)).0 refl) short

  module _ (r : Running) (runs : Runs (end plain_machine) r) where
    -- the file's refusal: one line
    one_line : r.of_file ≡ true → run_line (end plain_machine) ≡ runner file trace
    unfolding running run_line runner
    one_line h =
        let x = (running_iff file trace (start_of (check file)) plain_machine (end plain_machine)).0 refl in
        let (a, q) = of_file_refused x r runs h in
        rw ((refused_iff file a).1 q, running, runner)

    -- any other end: a line for each machine
    two_lines : r.of_file ≡ false → run_line (end plain_machine) ++ run_line (end table_machine) ≡ runner file trace
    unfolding running run_line machine_line runner start_of Runs
    two_lines h = go (check file) refl
      where
        go : (v : Verdict) → check file ≡ v → run_line (end plain_machine) ++ run_line (end table_machine)
            ≡ runner file trace
        go (accepted m) e = rw (e, running, runner, take_all 65536 trace short, e)
        go (refused a) e = clash (rw (e, running) at runs).2 h

    module _ {before mid : List ℕ} {next : ℕ} (one : Writes (run_line (end plain_machine)) before 0 next mid) where
      pub one_printed : r.of_file ≡ true → Prints (runner file trace) before next mid
      one_printed h = rw (← one_line h) (written_prints one)

      pub next_room : output_bytes ≤ length before → next + 47 ≤ length mid
      next_room room =
          let line = line_short (end plain_machine) (end_fits plain_machine) in
          let same = written_length one (omega arith) in
          omega (arith, one.behind)

      pub two_printed : {after : List ℕ} {n : ℕ} → r.of_file ≡ false → 4096 ≤ length before
          → Writes (run_line (end table_machine)) mid next n after → Prints (runner file trace) before n after
      two_printed h room two =
          let line = line_short (end plain_machine) (end_fits plain_machine) in
          rw (← two_lines h) (written_prints (written_more one (omega arith) two))
