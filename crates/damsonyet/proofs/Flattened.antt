-- From a run's result of the code to the same with bytes for places and turns: what the one says of the meanings, the other does too.
use Prim.Native.Nat.{ℕ, ◌<◌}
use native.Mathlib.Omega.{arith}
use mathlib.Core.Path.{◌≡◌, refl, sym, ap, subst, ◌∙◌}
use mathlib.Core.Logic.{inl, inr, ⊎_elim}
use mathlib.Core.List.{List, map}
use lib.ListN.{get_or, get_or-replicate, get_or-map}
use lib.IntN.{pos}
use Rattle.machine.specs.Monitor.{Place, idle, due}
use Rattle.meaning.specs.Held.{Offset}
use Rattle.meaning.specs.Answer.{Answer}
use Rattle.meaning.specs.Calls.{Record, Running, Machine, ran, refused_file, not_run, plain_machine, table_machine}
use Rattle.meaning.specs.Decide.Calls.{running}
use Rattle.demands.proofs.Demand1.{running_iff}
use Rattle.demands.proofs.Widths.{ran_fits}
use Rattle.threads.specs.Held.{place_of, places_of, turns_of, idle_thread}
use Rattle.threads.specs.declared.Thread.{Thread}
use Rattle.point.specs.Held.{held_byte}
use Rattle.points.proofs.Shown.{byte_is}
use Rattle.run.specs.Results as results
use Rattle.run.specs.declared.Running as code
use Rattle.answers.specs.Says.{Says}
use Rattle.answers.specs.declared.Answer as code_answer
use Rattle.calls.specs.Results.{Agrees}
use Rattle.damsonyet.specs.Flat.{Records, NoRecord, RanAs, BothAgree, Flattens}
use Rattle.damsonyet.specs.declared.Ran.{Ran}

module _ (y : code.Running) (r : Ran) (f : Flattens y r) where
  says : {a : Answer} → Says y.answer a → Says r.answer a
  says {a} s = subst (λ (x : code_answer.Answer). Says x a) (sym f.answer) s

  -- a thread's byte, from the list of places
  byte_at : (ps : List Place) → map (λ (t : Thread). place_of t.place) y.record.threads ≡ ps → (t : ℕ) → t < 16
      → get_or r.places t 0 ≡ held_byte (get_or ps t idle)
  unfolding places_of place_of idle_thread
  byte_at ps e t l =
      f.places t l
      ∙ ap held_byte (sym (get_or-map (λ (u : Thread). place_of u.place) y.record.threads t idle_thread)
      ∙ ap (λ (xs : List Place). get_or xs t idle) e)

  -- and its turn, from the list of turns
  turn_at : (ns : List ℕ) → map (λ (t : Thread). t.turn) y.record.threads ≡ ns → (t : ℕ) → t < 16
      → get_or r.turns t 0 ≡ get_or ns t 0
  unfolding turns_of idle_thread
  turn_at ns e t l =
      f.turns t l
      ∙ sym (get_or-map (λ (u : Thread). u.turn) y.record.threads t idle_thread)
      ∙ ap (λ (xs : List ℕ). get_or xs t 0) e

  no_record : results.NoRecord y.record → NoRecord r
  no_record n =
      record {
        vars = f.vars ∙ n.vars;
        values = λ k h. ap (λ (xs : List ℕ). get_or xs k 0) f.values ∙ n.values k h;
        places = λ t l.
            byte_at _ n.places t l
            ∙ ap held_byte (get_or-replicate 16 t idle idle l) ∙ byte_is idle (λ q e. absurd (no_due e));
        turns = λ t l. turn_at _ n.turns t l ∙ get_or-replicate 16 t 0 0 l;
        notified = f.notified ∙ n.notified;
        how_many_is = f.how_many_is ∙ n.how_many_is;
      }
    where
      no_due : {q : ℕ} → ◌≡◌ {A = Place} idle (due q) → ⊥
      no_due e = let z : ◌≡◌ {A = ℕ} 0 1 = cc in omega arith

  record_of : (rec : Record) → ((t w : ℕ) → get_or rec.places t idle ≡ due w → w < 16) → results.Records rec y.record
      → Records rec r
  record_of rec low h =
      record {
        vars = f.vars ∙ h.vars;
        values = λ k l. subst (λ (xs : List ℕ). Offset (get_or rec.values k (pos 0)) (get_or xs k 0)) (sym f.values) (h.values k l);
        unused = λ k l m. ap (λ (xs : List ℕ). get_or xs k 0) f.values ∙ h.unused k l m;
        places = λ t l. byte_at _ h.places t l ∙ byte_is (get_or rec.places t idle) (low t);
        turns = λ t l. turn_at _ h.turns t l;
        notified = f.notified ∙ h.notified;
        how_many_is = f.how_many_is ∙ h.how_many_is;
      }

  -- a run
  pub ran_as : (file bytes : List ℕ) (s : ℕ) (w : Machine) → results.Runs (running file bytes s w) y
      → RanAs (running file bytes s w) r
  unfolding results.Runs RanAs
  ran_as file bytes s w = go (running file bytes s w) refl
    where
      go : (x : Running) → running file bytes s w ≡ x → results.Runs x y → RanAs x r
      go (ran rec) e (a, h, o) = (
        says a,
        record_of rec (ran_fits ((running_iff file bytes s w (ran rec)).0 e)).dues h,
        f.of_file ∙ o,
      )
      go (refused_file b) e (a, n, o) = (says a, no_record n, f.of_file ∙ o)
      go (not_run b) e (a, n, o) = (says a, no_record n, f.of_file ∙ o)

-- both, and demand 3 of them
module _ (x y : code.Running) (p t : Ran) (f : Flattens x p) (g : Flattens y t) where
  pub both_agree : (file bytes : List ℕ) (s : ℕ) → Agrees file bytes s x y
      → BothAgree file bytes s (record { plain = p; table = t })
  unfolding places_of place_of idle_thread
  both_agree file bytes s a =
      record {
        plain_ran = ran_as x p f file bytes s plain_machine a.plain_runs;
        table_ran = ran_as y t g file bytes s table_machine a.table_runs;
        same = record {
          same_answer =
              ⊎_elim (λ e. inl (f.answer ∙ e ∙ sym g.answer))
              (λ (fs, k, fr, whole, said, re). inr (fs, k, fr, whole, says y t g said, re)) a.same.same_answer;
          same_vars = λ z. f.vars ∙ a.same.same_vars (zero z) ∙ sym g.vars;
          same_values = λ z k h.
              ap (λ (xs : List ℕ). get_or xs k 0) f.values ∙ a.same.same_values (zero z) k h
              ∙ sym (ap (λ (xs : List ℕ). get_or xs k 0) g.values);
          same_places = λ z u l.
              byte_at x p f _ (a.same.same_places (zero z)) u l ∙ sym (byte_at y t g _ refl u l);
          same_turns = λ z u l. turn_at x p f _ (a.same.same_turns (zero z)) u l ∙ sym (turn_at y t g _ refl u l);
        };
        points = a.points;
      }
    where
      zero : t.answer.number ≡ 0 → y.answer.number ≡ 0
      zero z = sym (ap (λ (q : code_answer.Answer). q.number) g.answer) ∙ z
