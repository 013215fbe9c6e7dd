-- What was loaded of a file, by its verdict: a number other than 0 is its refusal, and with 0 there is its monitor.
-- Runs over it, and its start state.
use Prim.Native.Nat.{ℕ}
use native.Mathlib.Omega.{arith}
use mathlib.Core.Path.{◌≡◌, refl}
use mathlib.Core.Bool.{true}
use mathlib.Core.List.{List}
use lib.IntN.{ℤ}
use Rattle.syntax.specs.Tree.{Var, Monitor}
use Rattle.meaning.specs.Answer.{Answer, Verdict, accepted, refused}
use Rattle.meaning.specs.Decide.Check.{check}
use Rattle.meaning.proofs.Verdicts.{refusal_number, refused_iff}
use Rattle.meaning.specs.Model.{vars}
use Rattle.meaning.specs.State.{starts, number_of}
use Rattle.meaning.specs.Held.{Biased}
use Rattle.meaning.specs.Runs.{State}
use Rattle.meaning.proofs.StateLaws.{starts_state}
use Rattle.meaning.specs.Calls.{Machine}
use Rattle.meaning.specs.Decide.Calls.{run_from, running}
use Rattle.variables.specs.Bounded.{Bounded}
use Rattle.answers.specs.Says.{Is, answer_of}
use Rattle.answers.specs.declared.Answer as code
use Rattle.run.specs.Results.{NoRecord, Runs}
use Rattle.run.specs.declared.Running.{Running}
use Rattle.std.specs.Prelude.{⊤, Result, Ok, Err}
use Rattle.loader.specs.Loading.{Loads, OrRefusal}
use Rattle.loader.specs.declared.Loaded.{Loaded}
use Rattle.calls.specs.Results.{start_of}

-- a verdict that is no refusal
pub is_accepted : (a : code.Answer) (r : Result ⊤ code.Answer) → OrRefusal a tt r → ((b : code.Answer) → r ≡ Err b → ⊥)
    → a.number ≡ 0
is_accepted a (Ok u) s none = s.1
is_accepted a (Err b) s none = absurd (none b refl)

module _ (file : List ℕ) (r : code.Answer) (is : Is r (check file)) where
  pub monitor_of : r.number ≡ 0 → (m : Monitor) × (check file ≡ accepted m)
  unfolding Is answer_of
  monitor_of z = go (check file) refl is
    where
      go : (v : Verdict) → check file ≡ v → Is r v → (m : Monitor) × (check file ≡ accepted m)
      go (accepted m) e s = (m, e)
      go (refused a) e s = let n = refusal_number ((refused_iff file a).0 e) in absurd (omega (arith, s.number))

  pub refusal_of : (r.number ≡ 0 → ⊥) → (a : Answer) × (check file ≡ refused a)
  unfolding Is answer_of
  refusal_of other = go (check file) refl is
    where
      go : (v : Verdict) → check file ≡ v → Is r v → (a : Answer) × (check file ≡ refused a)
      go (accepted m) e s = absurd (other s.number)
      go (refused a) e s = (a, e)

-- a run: the refusal with no record, or the run of the monitor
module _ (file bytes : List ℕ) (start : ℕ) (w : Machine) where
  pub not_loaded : (r : Running) → Is r.answer (check file) → (r.answer.number ≡ 0 → ⊥) → NoRecord r.record
      → r.of_file ≡ true → Runs (running file bytes start w) r
  unfolding Is answer_of running Runs
  not_loaded r is other none whose =
      let (a, e) = refusal_of file r.answer is other in rw (e, running) (rw e at is, none, whose)

  pub ran_loaded : (r : Running) (a : code.Answer) → Is a (check file) → a.number ≡ 0
      → ((m : Monitor) → check file ≡ accepted m → Runs (run_from m w start bytes) r)
      → Runs (running file bytes start w) r
  unfolding running
  ran_loaded r a is z by = let (m, e) = monitor_of file a is z in rw (e, running) (by m e)

-- the start state: 0 of a refused file, and of an accepted one the number of the state at its start values
module _ {file : List ℕ} {l : Loaded} {kept holds after : List ℕ} (loads : Loads file l kept holds after) where
  pub no_start : (l.answer.number ≡ 0 → ⊥) → 0 ≡ start_of (check file)
  unfolding start_of
  no_start other = let (a, e) = refusal_of file l.answer loads.verdict other in rw e refl

  pub start_at : l.answer.number ≡ 0 → (r : ℕ)
      → ((vs : List Var) (as' : List ℤ) → Bounded vs l.bounds → Biased vs as' l.bounds.starts → State vs as'
      → r ≡ number_of vs as')
      → r ≡ start_of (check file)
  unfolding start_of
  start_at z r number =
      let (m, e) = monitor_of file l.answer loads.verdict z in
      let b = (loads.monitored m e).bounded in
      rw e (number (vars m) (starts (vars m)) b b.start_values (starts_state b.good))
