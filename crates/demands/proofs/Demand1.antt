-- Demand 1 holds: each call's result, computed, is the one that the words give, and no other. By the verdict's theorems
-- and those of the rules.
use Rattle.machine.specs.Monitor as machine
use Prim.Native.Nat.{ℕ}
use native.Mathlib.Omega.{arith}
use mathlib.Core.Path.{◌≡◌, refl, sym, subst, ◌∙◌}
use mathlib.Core.Logic.{◌↔◌}
use mathlib.Core.List.{List, ◌++◌}
use lib.ListN.{length, drop}
use lib.Dec.{ltb}
use borrow.Author.Tests.{ltb-true, ltb-false}
use Rattle.syntax.specs.Tree.{Monitor}
use Rattle.machine.specs.Monitor.{Frame, Run, stopped}
use Rattle.logic.proofs.Bools.{split, clash, is_false}
use Rattle.meaning.specs.Answer.{Verdict, accepted, refused}
use Rattle.meaning.specs.Decide.Check.{check}
use Rattle.meaning.specs.Model.{vars, kept, model}
use Rattle.meaning.specs.State.{start_number}
use Rattle.meaning.specs.Decide.Table.{table_of}
use Rattle.meaning.specs.Decide.Frames.{Frames, frames, none_at, frames_of}
use Rattle.meaning.specs.Calls.{Placing, Machine, Running, Startable, not_run}
use Rattle.meaning.specs.Decide.Calls.{place, running_of, run_list, run_frames, run_from, running}
use Rattle.meaning.specs.Accepted.{Accepted}
use Rattle.meaning.specs.Trace.{FrameRecords, lines_of}
use Rattle.meaning.proofs.Frames.{frames_read, frames_stop}
use Rattle.meaning.proofs.Verdicts.{refusal_number, accepted_iff, refused_iff, check_iff}
use Rattle.meaning.proofs.ModelLaws.{startable_iff}
use Rattle.meaning.proofs.StateLaws.{starts_state, number_below, state_at_number}
use Rattle.machine.proofs.RulesDecided.{refuses_number}
use Rattle.demands.specs.Demand1.{PlacesAs, file_refused, too_short, placed, RunsAs, no_monitor, no_start}
use Rattle.demands.specs.Demand1.{bad_line, frame_refused, all_allowed, NeverEleven, Demand1}
use Rattle.demands.proofs.Demand2.{follows_rules}
use Rattle.meaning.proofs.Written.{written_short, written_fits}
use Rattle.meaning.specs.Decide.Choice.{chosen_bits}
use Rattle.meaning.specs.Decide.Touch.{pairs_of}

module _ (file buffer : List ℕ) where
  places : {p : Placing} → PlacesAs file buffer p → place file buffer ≡ p
  unfolding place
  places (file_refused {a} r) = cc ((refused_iff file a).1 r)
  places (too_short {m} a h) = cc ((accepted_iff file m).1 a, written_short (table_of (model m)) (chosen_bits m) (pairs_of m) buffer h)
  places (placed {m} a h) = cc ((accepted_iff file m).1 a, written_fits (table_of (model m)) (chosen_bits m) (pairs_of m) buffer h)

  placing : (p : Placing) × PlacesAs file buffer p
  placing = go (check file) refl
    where
      go : (v : Verdict) → check file ≡ v → (p : Placing) × PlacesAs file buffer p
      go (refused a) e = (_, file_refused ((refused_iff file a).0 e))
      go (accepted m) e =
          let a = (accepted_iff file m).0 e in
          let table = table_of (model m) in
          split (ltb (length buffer) (length table)) (λ h. (_, too_short a (ltb-true (length buffer) (length table) h)))
          (λ h. (_, placed a (ltb-false (length buffer) (length table) h)))

  pub place_iff : (p : Placing) → (place file buffer ≡ p) ↔ PlacesAs file buffer p
  place_iff p = (λ e. subst (PlacesAs file buffer) (sym (places placing.1) ∙ e) placing.1, places)

  -- demand 1: "a refused hand-in writes to no buffer"
  pub refused_writes_nothing : ((place file buffer).answer.number ≡ 0 → ⊥) → (place file buffer).buffer ≡ buffer
  refused_writes_nothing n = go ((place_iff _).0 refl) n
    where
      go : {p : Placing} → PlacesAs file buffer p → (p.answer.number ≡ 0 → ⊥) → p.buffer ≡ buffer
      go (file_refused r) n = refl
      go (too_short a h) n = refl
      go (placed a h) n = absurd (n refl)

  pub accepted_writes_table : (place file buffer).answer.number ≡ 0
      → (m : Monitor) × Accepted file m × ((place file buffer).length ≡ length (table_of (model m)))
      × ((place file buffer).buffer ≡ table_of (model m) ++ drop (length (table_of (model m))) buffer)
  accepted_writes_table z = go ((place_iff _).0 refl) z
    where
      go : {p : Placing} → PlacesAs file buffer p → p.answer.number ≡ 0
          → (m : Monitor) × Accepted file m × (p.length ≡ length (table_of (model m)))
          × (p.buffer ≡ table_of (model m) ++ drop (length (table_of (model m))) buffer)
      go (file_refused r) z = let n = refusal_number r in absurd (omega arith)
      go (too_short a h) z = absurd (omega arith)
      go (placed {m} a h) z = (m, a, refl, refl)

module _ (file bytes : List ℕ) (s : ℕ) where
  -- an accepted file, a state that counts and a trace of frames: the run of the list
  pub on_frames : {m : Monitor} {fs : List Frame} → Accepted file m → Startable m s → FrameRecords fs
      → bytes ≡ lines_of fs → (w : Machine)
      → running file bytes s w ≡ running_of m (run_list m w s fs)
  unfolding running run_from run_frames
  on_frames {m} {fs} a k r e w = cc ((accepted_iff file m).1 a, (startable_iff m s).1 k, (frames_read bytes fs).1 (r, e))

  module _ (w : Machine) where
    pub runs : {x : Running} → RunsAs file bytes s w x → running file bytes s w ≡ x
    unfolding running run_from run_frames running_of
    runs (no_monitor {a} r) = cc ((refused_iff file a).1 r)
    runs (no_start {m} a n) = cc ((accepted_iff file m).1 a, is_false {b = kept m s} (λ h. n ((startable_iff m s).0 h)))
    runs (bad_line {m} {k} a h t) = cc ((accepted_iff file m).1 a, (startable_iff m s).1 h, (frames_stop bytes k).1 t)
    runs (frame_refused {m} {fs} {a = b} {k} a h r e t) =
        cc (on_frames a h r e w, ((follows_rules m w).stops s fs b k).1 t)
    runs (all_allowed {m} {fs} {c} a h r e t) = cc (on_frames a h r e w, ((follows_rules m w).accepts s fs c).1 t)

    pub run_as : (x : Running) × RunsAs file bytes s w x
    run_as = go (check file) refl
      where
        by_run : (m : Monitor) → Accepted file m → Startable m s → (fs : List Frame) → FrameRecords fs
            → bytes ≡ lines_of fs
            → (x : Run) → run_list m w s fs ≡ x → (x : Running) × RunsAs file bytes s w x
        by_run m a k fs r e (machine.accepted c) h = (_, all_allowed a k r e (((follows_rules m w).accepts s fs c).0 h))
        by_run m a k fs r e (stopped b j) h = (_, frame_refused a k r e (((follows_rules m w).stops s fs b j).0 h))

        by_trace : (m : Monitor) → Accepted file m → Startable m s → (x : Frames) → frames_of bytes ≡ x
            → (x : Running) × RunsAs file bytes s w x
        by_trace m a k (frames fs) e = let t = (frames_read bytes fs).0 e in
            by_run m a k fs t.0 t.1 (run_list m w s fs) refl
        by_trace m a k (none_at j) e = (_, bad_line a k ((frames_stop bytes j).0 e))

        go : (v : Verdict) → check file ≡ v → (x : Running) × RunsAs file bytes s w x
        go (refused a) e = (_, no_monitor ((refused_iff file a).0 e))
        go (accepted m) e =
            let a = (accepted_iff file m).0 e in
            split (kept m s) (λ h. by_trace m a ((startable_iff m s).0 h) (frames_of bytes) refl)
            (λ h. (_, no_start a (λ k. clash ((startable_iff m s).1 k) h)))

    -- demand 1: a trace of any bytes "gets a verdict or a numbered refusal with its place"
    pub running_iff : (x : Running) → (running file bytes s w ≡ x) ↔ RunsAs file bytes s w x
    running_iff x = (λ e. subst (RunsAs file bytes s w) (sym (runs run_as.1) ∙ e) run_as.1, runs)

-- From the start values

pub start_counts : (file : List ℕ) (m : Monitor) → check file ≡ accepted m → Startable m (start_number (vars m))
start_counts file m e =
    let ok = ((accepted_iff file m).0 e).sound in
    let s = starts_state ok.ranges in
    record { below = number_below ok.ranges s; keeps = rw (state_at_number ok.ranges s) ok.start }

pub never_eleven : (file bytes : List ℕ) → NeverEleven file bytes
unfolding NeverEleven
never_eleven file bytes m e w a r n = go ((running_iff file bytes (start_number (vars m)) w (not_run a)).0 r) refl
  where
    go : {x : Running} → RunsAs file bytes (start_number (vars m)) w x → x ≡ not_run a → ⊥
    go (no_monitor {a = b} q) h = let z : ◌≡◌ {A = ℕ} 0 1 = cc ((refused_iff file b).1 q) in omega arith
    go (no_start {m = m'} q k) h = let same : m' ≡ m = cc ((accepted_iff file m').1 q) in
        k (subst (λ (x : Monitor). Startable x (start_number (vars m))) (sym same) (start_counts file m e))
    go (bad_line q k t) h = let z : 12 ≡ a.number = cc in omega arith
    go (frame_refused {a = b} q k f t s) h =
        let z : b ≡ a.number = cc in let l = refuses_number s.refuse in omega arith
    go (all_allowed q k f t s) h = let z : ◌≡◌ {A = ℕ} 0 1 = cc in omega arith

pub demand_1 : Demand1
demand_1 = record {
  one_verdict = λ file. (check file, (check_iff file (check file)).0 refl, λ w h. sym ((check_iff file w).1 h));
  checks = check_iff;
  places = place_iff;
  runs = running_iff;
  writes_nothing = refused_writes_nothing;
  starts = start_counts;
  never_11 = never_eleven;
}
