-- A load by what the code has found: 16, the file's refusal or 10 with nothing written, or the frames that are made.
use Prim.Native.Nat.{ℕ, ◌*◌, ◌/◌, ◌<◌, ◌≤◌}
use native.Mathlib.Omega.{arith}
use mathlib.Core.Path.{◌≡◌, refl, sym, ap, subst}
use mathlib.Core.Bool.{true, false}
use mathlib.Core.List.{List}
use lib.ListN.{length}
use lib.Dec.{ltb}
use borrow.Author.Tests.{lt-ltb}
use Rattle.syntax.specs.Tree.{Monitor}
use Rattle.meaning.specs.Answer.{Answer, answer, accepted}
use Rattle.meaning.specs.Decide.Check.{check}
use Rattle.meaning.specs.Model.{vars, model}
use Rattle.meaning.specs.State.{start_number}
use Rattle.meaning.specs.Load.{not_made, made_of}
use Rattle.meaning.specs.Decide.Load.{load_frames, made_in, bad_count, load_of}
use Rattle.meaning.proofs.ModelLaws.{startable_iff}
use Rattle.demands.specs.Load.{CountFits}
use Rattle.demands.proofs.Demand1.{start_counts}
use Rattle.demands.proofs.Load.{count_fits, load_says, demand_load}
use Rattle.generator.specs.Making.{MakesFrames}
use Rattle.answers.specs.Says.{Says, Is, answer_of}
use Rattle.answers.specs.declared.Answer as code
use Rattle.calls.specs.Results.{Makes, LoadSays, start_of}
use Rattle.calls.specs.declared.Made as result
use Rattle.calls.proofs.Loaded.{refusal_of}

-- a refusal, and nothing written
nothing : {a : Answer} (b : code.Answer) (r : result.Made) (buffer : List ℕ) → r.answer ≡ b → r.count ≡ 0 → Says b a
    → Makes (not_made a buffer) r buffer
nothing {a} b r buffer p n s =
    record { answer = subst (λ x. Says x a) (sym p) s; count = n; bytes = refl }

module _ (file : List ℕ) (seed count wanted : ℕ) (buffer : List ℕ) (r : result.Made) where
  pub no_count : bad_count count ≡ true → Says r.answer (answer 16 0 0) → r.count ≡ 0
      → Makes (load_of file seed count wanted buffer) r buffer
  unfolding load_of
  no_count bad s n = rw (bad, load_of) (nothing r.answer r buffer refl n s)

  module _ (fits : CountFits count) where
    good : bad_count count ≡ false
    good = (count_fits count).1 fits

    pub no_monitor : (b : code.Answer) → Is b (check file) → (b.number ≡ 0 → ⊥) → r.answer ≡ b → r.count ≡ 0
        → Makes (load_of file seed count wanted buffer) r buffer
    unfolding Is answer_of load_of
    no_monitor b is other p n =
        let (a, e) = refusal_of file b is other in
        rw (good, e, load_of) (nothing b r buffer p n (rw e at is))

    module _ (m : Monitor) (e : check file ≡ accepted m) where
      pub too_short : length buffer / 7 < wanted → (b : code.Answer) → Says b (answer 10 0 0) → r.answer ≡ b
          → r.count ≡ 0 → Makes (load_of file seed count wanted buffer) r buffer
      unfolding load_of made_in
      too_short l b s p n =
          let short : ltb (length buffer) (7 * wanted) ≡ true = lt-ltb (length buffer) (7 * wanted) (omega arith) in
          let refused : load_of file seed count wanted buffer ≡ not_made (answer 10 0 0) buffer = cc (good, e, short) in
          rw refused (nothing b r buffer p n s)

      pub made : wanted ≤ length buffer / 7 → Says r.answer (answer 0 0 0) → (out : List ℕ) (state : ℕ)
          → state ≡ start_number (vars m) → MakesFrames (model m) seed count wanted state r.count buffer out
          → Makes (load_of file seed count wanted buffer) r out
      unfolding load_frames made_of
      made l s out state q x =
          rw (load_says file m e seed count wanted buffer fits (omega arith), sym q)
          (record { answer = s; count = x.count; bytes = x.bytes })

-- of an accepted file the answer is 0, and the start values are a state that is kept
module _ (file : List ℕ) where
  pub zero_said : (b : code.Answer) (m : Monitor) → check file ≡ accepted m → Is b (check file) → Says b (answer 0 0 0)
  unfolding Is answer_of
  zero_said b m e is = rw e at is

  pub start_of_accepted : (m : Monitor) → check file ≡ accepted m → start_of (check file) ≡ start_number (vars m)
  unfolding start_of
  start_of_accepted m e = ap start_of e

  pub start_kept : (m : Monitor) → check file ≡ accepted m → (model m).kept (start_number (vars m)) ≡ true
  unfolding model
  start_kept m e = (startable_iff m (start_number (vars m))).1 (start_counts file m e)

-- and what its frames are
pub load_words : (file : List ℕ) (seed count wanted : ℕ) (buffer : List ℕ) → LoadSays file seed count wanted buffer
unfolding LoadSays
load_words file seed count wanted buffer m e fits room = (
  load_frames m seed count wanted,
  load_says file m e seed count wanted buffer fits room,
  demand_load.load file m e seed count wanted fits,
)
