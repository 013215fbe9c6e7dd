-- Demand 3 of the results of a call: from what each says of its run, and demand 3 of the runs.
use Prim.Native.Nat.{ℕ, ◌<◌}
use mathlib.Core.Path.{◌≡◌, sym, ap, ◌∙◌}
use mathlib.Core.Logic.{inl, inr, ⊎_elim}
use mathlib.Core.List.{List}
use lib.ListN.{length, get_or}
use lib.Dec.{ltb}
use lib.IntN.{ℤ, pos, nat_abs, ◌+ℤ◌, -ℤ-+ℤ_cancel}
use borrow.Author.Tests.{ltb-true, ltb-false}
use Rattle.logic.proofs.Bools.{split}
use Rattle.syntax.specs.Limits.{most_vars}
use Rattle.meaning.specs.Held.{Offset}
use Rattle.meaning.specs.Answer.{Answer}
use Rattle.meaning.specs.Decide.Check.{check}
use Rattle.meaning.specs.Calls.{plain_machine, table_machine, Running, ran, refused_file, not_run}
use Rattle.meaning.specs.Calls as calls
use Rattle.meaning.specs.Decide.Calls.{running}
use Rattle.meaning.proofs.ModelLaws.{startable_iff}
use Rattle.demands.specs.Demand3.{run_answer}
use Rattle.demands.proofs.Demand1.{start_counts}
use Rattle.demands.proofs.Demand3.{demand_3, same_running, zero_iff_ran}
use Rattle.answers.specs.Says.{Says}
use Rattle.answers.specs.declared.Answer as code
use Rattle.run.specs.Results.{Runs, Records}
use Rattle.run.specs.declared.Running as result
use Rattle.run.specs.declared.Record as held
use Rattle.calls.specs.Results.{SameResults, Agrees, Starts, start_of}

-- two answers that say one thing are one
says_one : {r s : code.Answer} {a : Answer} → Says r a → Says s a → r ≡ s
says_one x y = λ i. record {
  number = (x.number ∙ sym y.number) i;
  first = (x.first ∙ sym y.first) i;
  second = (x.second ∙ sym y.second) i;
}

-- what a result says is its run's answer
says_run : (x : Running) (r : result.Running) → Runs x r → Says r.answer (run_answer x)
unfolding Runs run_answer
says_run (ran rec) r s = s.0
says_run (refused_file a) r s = s.0
says_run (not_run a) r s = s.0

-- a value with 128 added is held by one number
offset_one : (a : ℤ) (m n : ℕ) → Offset a m → Offset a n → m ≡ n
unfolding Offset
offset_one a m n x y =
    ap nat_abs (sym (-ℤ-+ℤ_cancel (pos m) (pos 128)) ∙ ap (λ (z : ℤ). z +ℤ pos 128) (sym x ∙ y)
    ∙ -ℤ-+ℤ_cancel (pos n) (pos 128))

-- records of equal values hold them alike
values_alike : {x y : calls.Record} {r s : held.Record} → Records x r → Records y s → x.values ≡ y.values
    → (k : ℕ) → k < most_vars → get_or r.values k 0 ≡ get_or s.values k 0
values_alike {x} {y} {r} {s} a b e k h =
    split (ltb k (length x.values))
    (λ l.
    let low = ltb-true k (length x.values) l in
    let other : k < length y.values = rw (← e) low in
    offset_one (get_or x.values k (pos 0)) (get_or r.values k 0) (get_or s.values k 0) (a.values k low)
    (rw (← e) at (b.values k other)))
    (λ l.
    let high = ltb-false k (length x.values) l in
    a.unused k h high ∙ sym (b.unused k h (rw (← e) high)))

module _ (file bytes : List ℕ) (start : ℕ) (plain table : result.Running)
    (p : Runs (running file bytes start plain_machine) plain) (t : Runs (running file bytes start table_machine) table)
  where
    -- where the table's number is 0, both runs have records, which are alike
    alike : table.answer.number ≡ 0
        → (x y : calls.Record) × Records x plain.record × Records y table.record × (x.values ≡ y.values)
        × (x.places ≡ y.places) × (x.turns ≡ y.turns)
    unfolding Runs
    alike z =
        let says = says_run _ table t in
        let (b, e) = (zero_iff_ran file bytes start table_machine).0 (sym says.number ∙ z) in
        let (a, f, values, places, turns) = (same_running file bytes start).same_record b e in
        (a, b, (rw f at p).1, (rw e at t).1, values, places, turns)

    same_results : SameResults bytes plain table
    unfolding run_answer
    same_results = record {
      same_answer = ⊎_elim
          (λ e. inl (says_one (says_run _ plain p) (rw (← e) at (says_run _ table t))))
          (λ (fs, k, f, b, e, r). inr (fs, k, f, b, rw e at (says_run _ table t), r))
          (same_running file bytes start).same_answer;
      same_vars = λ z.
          let (x, y, a, b, values, places, turns) = alike z in
          a.vars ∙ ap length values ∙ sym b.vars;
      same_values = λ z. let (x, y, a, b, values, places, turns) = alike z in values_alike a b values;
      same_places = λ z.
          let (x, y, a, b, values, places, turns) = alike z in
          a.places ∙ places ∙ sym b.places;
      same_turns = λ z.
          let (x, y, a, b, values, places, turns) = alike z in
          a.turns ∙ turns ∙ sym b.turns;
    }

    pub both_agree : Agrees file bytes start plain table
    both_agree = record {
      plain_runs = p;
      table_runs = t;
      same = same_results;
      points = λ m e s fs _. demand_3.agree file m e start ((startable_iff m start).1 s) fs;
    }

pub starts : (file : List ℕ) {r : ℕ} → r ≡ start_of (check file) → Starts file r
unfolding start_of
starts file {r} n = record {
  number = n;
  counts = λ m e. rw n (rw e (start_counts file m e));
}
