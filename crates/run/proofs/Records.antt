-- From the code's record of a run to the meaning's, and from the tests at its start and the end of the code's run to
-- what it gives.
use Prim.Native.Nat.{ℕ, zero, suc, ◌+◌, ◌/◌, ◌%◌, ◌^◌, ◌<◌, ◌≤◌}
use native.Mathlib.Omega.{arith}
use native.Mathlib.Nat.{pow-suc}
use mathlib.Core.Path.{◌≡◌, refl, sym, ap, ◌∙◌, subst}
use mathlib.Core.Bool.{Bool, true, false}
use mathlib.Core.List.{List, ◌∷◌, map}
use lib.ListN.{length, get_or, length-map, get_or-map}
use lib.Seq.{ext_get_or}
use lib.Arith.{lt-one}
use lib.Dec.{eqb}
use lib.Count as count
use borrow.Author.Tests.{eqb-true, eqb-false}
use Rattle.sets.specs.Set.{member, size}
use Rattle.sets.proofs.SetLaws.{member_zero, member_suc, size_ones}
use Rattle.syntax.specs.Tree.{Monitor}
use Rattle.machine.specs.Monitor.{SameThreads, Config, Run, accepted, stopped, all_idle, threads, turn}
use Rattle.machine.proofs.Order.{same_turn}
use Rattle.machine.specs.Decide.Step.{Told, run}
use Rattle.machine.specs.Monitor as machine
use Rattle.machine.specs.Agreement.{Checked}
use Rattle.machine.specs.Held.{Held}
use Rattle.logic.specs.Tests.{bit}
use Rattle.logic.proofs.Bools.{split, clash}
use Rattle.meaning.specs.Answer.{answer}
use Rattle.answers.specs.Numbered.{numbered}
use Rattle.answers.specs.declared.Refusal.{Refusal}
use Rattle.answers.specs.declared.Refusal.TheVariants.{NoStart, NoFrame}
use Rattle.std.specs.Prelude.{⊤, Result, Ok, Err}
use Rattle.std.specs.Result.{is_err}
use Rattle.meaning.specs.Held.{Biased}
use Rattle.meaning.specs.State.{state_at}
use Rattle.meaning.specs.State as state
use Rattle.meaning.specs.Decide.Frames.{frames_of, frames, none_at}
use Rattle.meaning.specs.Model.{vars, kept, model}
use Rattle.meaning.proofs.ModelLaws.{kept_below}
use Rattle.meaning.specs.Calls.{Machine, not_run, record_of}
use Rattle.meaning.specs.Bits.{each_from, bits, ones}
use Rattle.meaning.specs.Decide.Calls.{told_by, running_of, run_list, run_frames, run_from}
use Rattle.threads.specs.declared.Thread.{Thread}
use Rattle.threads.specs.declared.Threads.{Threads}
use Rattle.stepper.specs.declared.Run as code
use Rattle.threads.specs.Held.{place_of, places_of, turns_of, threads_of, idle_thread, Turned}
use Rattle.stepper.specs.Shown.{notices_in, Shows, told_on}
use Rattle.demands.proofs.Demand2.{run_reached, run_stops}
use Rattle.meaning.proofs.Each.{each_length, each_first}
use Rattle.run.specs.Way.{run_of}
use Rattle.run.specs.Ended.{Admits, not_kept, no_frame, all_frames, EndsAs, StopsAs, stop_in}
use Rattle.run.specs.declared.frames.Ended.{Ended}
use Rattle.run.specs.Results.{Runs, Records, machine_of}
use Rattle.run.specs.declared.Running.{Running}

-- ---- the record of a point

-- of sixteen threads, what each shows is the list of it
each_shown : {A : Type 0} (f : Thread → A) (g : ℕ → A) (ts : List Thread) → length ts ≡ 16
    → ((u : ℕ) → u < 16 → f (get_or ts u idle_thread) ≡ g u) → map f ts ≡ each_from 16 0 g
each_shown f g ts l h =
    let n = length-map ts f in
    ext_get_or (f idle_thread) (map f ts) (each_from 16 0 g) (n ∙ l ∙ sym (each_length 16 0 g))
    (λ i b.
    let low : i < 16 = omega arith in
    get_or-map f ts i idle_thread ∙ h i low ∙ sym (each_first 16 g i (f idle_thread) low))

-- their places, and their turns
pub places_shown : (ts : Threads) (c : Config) → length ts.each ≡ 16 → SameThreads (threads_of ts) c.threads
    → map (λ (t : Thread). place_of t.place) ts.each ≡ each_from threads 0 c.threads.place
unfolding threads places_of
places_shown ts c l h = each_shown (λ t. place_of t.place) c.threads.place ts.each l h.same_place

pub turns_shown : (ts : Threads) (c : Config) → length ts.each ≡ 16 → SameThreads (threads_of ts) c.threads
    → Turned ts → map (λ (t : Thread). t.turn) ts.each ≡ each_from threads 0 (turn c.threads)
unfolding threads turns_of
turns_shown ts c l h t =
    each_shown (λ t. t.turn) (turn c.threads) ts.each l (λ u k. t.turns u k ∙ same_turn h u k)

-- a number below 2 ^ n whose members are given thread by thread is the bits of the list, and has as many ones
pub set_shown : (n t s : ℕ) (f : ℕ → Bool) → s < 2 ^ n → ((u : ℕ) → u < n → member s u ≡ f (t + u))
    → (s ≡ bits (each_from n t f)) × (count.ones s ≡ ones (each_from n t f))
unfolding each_from bits ones count.ones
set_shown zero t s f h e = let z : s ≡ 0 = lt-one h in (z, ap count.ones z)
set_shown (suc n) t s f h e =
    let p = pow-suc 2 n in
    let rest = set_shown n (t + 1) (s / 2) f (omega arith)
    (λ u l. sym (member_suc s u) ∙ e (suc u) (omega arith) ∙ ap f (omega arith)) in
    go (f t) (sym (member_zero s) ∙ e 0 (omega arith) ∙ ap f (omega arith)) rest.0 rest.1
  where
    go : (b : Bool) → eqb (s % 2) 1 ≡ b → s / 2 ≡ bits (each_from n (t + 1) f) → count.ones (s / 2)
        ≡ ones (each_from n (t + 1) f)
        → (s ≡ bits (b ∷ each_from n (t + 1) f)) × (count.ones s ≡ ones (b ∷ each_from n (t + 1) f))
    go true d x y =
        let o = eqb-true (s % 2) 1 d in
        let q = count.ones_step s in
        (omega arith, omega arith)
    go false d x y =
        let o = eqb-false (s % 2) 1 d in
        let q = count.ones_step s in
        (omega arith, omega arith)

-- the record of a run that shows a point, with the values of its state
pub recorded : (m : Monitor) (w : Bool) (c : Config) (end : code.Run) (vs : List ℕ) (vars_held set many : ℕ)
    → set ≡ notices_in w end → Shows w end c → length end.threads.each ≡ 16 → set < 2 ^ 16 → vars_held ≡ length (vars m)
    → Biased (vars m) (state_at (vars m) end.state) vs → many ≡ size set 16
    → Records (record_of m c) (record {
      vars = vars_held;
      values = vs;
      threads = end.threads.each;
      notified = set;
      how_many = many;
    })
unfolding record_of threads
recorded m w c end vs vars_held set many own s l small counted values sized =
    let v = subst (λ (n : ℕ). Biased (vars m) (state_at (vars m) n) vs) s.state values in
    let n = v.each_value in
    let same =
    set_shown 16 0 set c.notified small
    (λ u h. ap (λ (n : ℕ). member n u) own ∙ s.notices u h ∙ ap c.notified (omega arith)) in
    record {
      vars = counted ∙ sym n;
      values = λ k h. v.held k (omega arith);
      unused = λ k h b. v.unused k h (omega arith);
      places = places_shown end.threads c l s.threads;
      turns = turns_shown end.threads c l s.threads s.turns;
      notified = same.0;
      how_many_is = sized ∙ size_ones 16 set small ∙ same.1;
    }

-- ---- the start of a run

told_same : (m : machine.Monitor) (w : Bool) → told_by m (machine_of w) ≡ told_on m w
unfolding told_by machine_of told_on
told_same m true = refl
told_same m false = refl

pub past_states : (m : Monitor) (s : ℕ) → state.count (vars m) ≤ s → kept m s ≡ false
past_states m s h = split (kept m s) (λ t. let b = kept_below m s t in absurd (omega arith)) (λ f. f)

-- what the slice of kept states says at a state of the file
pub kept_by : (m : Monitor) (ks holds after guard_of : List ℕ) → Held (model m) ks holds after guard_of
    → (s : ℕ) → s < state.count (vars m) → get_or ks s 0 ≡ bit (kept m s)
unfolding model
kept_by m ks holds after guard_of h s l = h.by_kept s l

pub kept_one : (b : Bool) (n : ℕ) → n ≡ bit b → n ≡ 1 → b ≡ true
unfolding bit
kept_one true n e o = refl
kept_one false n e o = absurd (omega arith)

pub kept_other : (b : Bool) (n : ℕ) → n ≡ bit b → (n ≡ 1 → ⊥) → b ≡ false
unfolding bit
kept_other true n e o = absurd (o e)
kept_other false n e o = refl

from_other : (m : Monitor) (w : Machine) (s : ℕ) (bytes : List ℕ) → kept m s ≡ false → run_from m w s bytes
    ≡ not_run (answer 11 0 0)
unfolding run_from
from_other m w s bytes k = rw (run_from, k)

from_kept : (m : Monitor) (w : Machine) (s : ℕ) (bytes : List ℕ) → kept m s ≡ true
    → run_from m w s bytes ≡ run_frames m w s (frames_of bytes)
unfolding run_from
from_kept m w s bytes k = rw (run_from, k)

-- a run of a list, as the meaning has it and as the code's promises do
pub list_run : (m : Monitor) (w : Bool) (s : ℕ) (fs : List machine.Frame)
    → run_list m (machine_of w) s fs ≡ run_of (model m) w s fs
unfolding run_list
list_run m w s fs = ap (λ (t : Told). run (model m) t 0 (all_idle s) fs) (told_same (model m) w)

module _ (m : Monitor) (w : Bool) (s : ℕ) (bytes : List ℕ) (r : Running) where
  abbrev pub Ran : Type 0
  Ran = Runs (run_from m (machine_of w) s bytes) r

  pub not_started : kept m s ≡ false → Runs (not_run (answer 11 0 0)) r → Ran
  not_started k h = subst (λ x. Runs x r) (sym (from_other m (machine_of w) s bytes k)) h

  pub not_framed : (j : ℕ) → kept m s ≡ true → frames_of bytes ≡ none_at j → Runs (not_run (answer 12 j 0)) r → Ran
  unfolding run_frames
  not_framed j k e h =
      subst (λ x. Runs x r) (sym (from_kept m (machine_of w) s bytes k ∙ ap (run_frames m (machine_of w) s) e)) h

  pub by_end : (fs : List machine.Frame) → kept m s ≡ true → frames_of bytes ≡ frames fs
      → Runs (running_of m (run_of (model m) w s fs)) r → Ran
  unfolding run_frames
  by_end fs k read h =
      subst (λ x. Runs x r)
      (sym (from_kept m (machine_of w) s bytes k ∙ ap (run_frames m (machine_of w) s) read
      ∙ ap (running_of m) (list_run m w s fs))) h

-- ---- before the first frame

-- the refusal of a result, by another of it
refusal_in : Refusal → Result ⊤ Refusal → Refusal
refusal_in x (Ok u) = x
refusal_in x (Err y) = y

pub same_refusal : {r : Result ⊤ Refusal} (x y : Refusal) → r ≡ Err x → r ≡ Err y → x ≡ y
unfolding refusal_in
same_refusal x y e f = ap (refusal_in x) (sym e ∙ f)

-- a refusal is no acceptance
pub not_ok : {C : Type 0} {r : Result ⊤ Refusal} (x : Refusal) → r ≡ Err x → r ≡ Ok tt → C
not_ok x e o = clash (ap is_err e) (ap is_err o)

pub ok_of : (r : Result ⊤ Refusal) → ((x : Refusal) → r ≡ Err x → ⊥) → r ≡ Ok tt
ok_of (Ok u) h = refl
ok_of (Err x) h = absurd (h x refl)

module _ {m : Monitor} {s : ℕ} {bytes : List ℕ} {r : Result ⊤ Refusal} where
  -- a refusal is the answer of either machine
  pub refused_early : Admits m s bytes r → (x : Refusal) → r ≡ Err x → (q : Running)
      → Runs (not_run (numbered x)) q → (w : Bool) → Runs (run_from m (machine_of w) s bytes) q
  refused_early (not_kept k e) x is q h w =
      not_started m w s bytes q k (subst (λ y. Runs (not_run (numbered y)) q) (same_refusal _ _ is e) h)
  refused_early (no_frame j k f e) x is q h w =
      not_framed m w s bytes q j k f (subst (λ y. Runs (not_run (numbered y)) q) (same_refusal _ _ is e) h)
  refused_early (all_frames fs k f e) x is q h w = not_ok x is e

  -- else there are the frames
  pub admitted : Admits m s bytes r → r ≡ Ok tt
      → (fs : List machine.Frame) × (kept m s ≡ true) × (frames_of bytes ≡ frames fs)
  admitted (not_kept k e) o = not_ok NoStart e o
  admitted (no_frame j k f e) o = not_ok (NoFrame j) e o
  admitted (all_frames fs k f e) o = (fs, k, f)

-- the end of the code's run by its parts: the state is one of the file's, and a refusal has a number
pub stops_as : (m : Monitor) → Checked (model m) → (w : Bool) (s : ℕ) → kept m s ≡ true → (fs : List machine.Frame) (e : Ended)
    → EndsAs w (run_of (model m) w s) fs e (run_of (model m) w s fs)
    → StopsAs w (state.count (vars m)) (stop_in w e) e.run (run_of (model m) w s fs)
unfolding EndsAs StopsAs model
stops_as m ok w s k fs e ends = go (run_of (model m) w s fs) refl ends
  where
    go : (x : Run) → run_of (model m) w s fs ≡ x → EndsAs w (run_of (model m) w s) fs e x
        → StopsAs w (state.count (vars m)) (stop_in w e) e.run x
    go (accepted c) q p = (
      p.number,
      p.shows,
      kept_below m c.state (run_reached m ok s k fs (machine_of w) c (list_run m w s fs ∙ q)).is_kept,
    )
    go (stopped a j) q p = (
      p.number,
      p.frame,
      λ z. let x = run_stops m (machine_of w) s fs a j (list_run m w s fs ∙ q) in omega arith,
    )
