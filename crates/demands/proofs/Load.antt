-- The claims on a repeatable load hold (document 02, E6): of the call by its tests, one after the other; of its frames by
-- `machine`'s laws of loads, and both machines accept them since without rechecks the answers are equal (demand 3).
use Rattle.machine.specs.Monitor as machine
use Rattle.machine.specs.Agreement as agreement
use Prim.Native.Nat.{ℕ, ◌*◌, ◌≤◌}
use native.Mathlib.Omega.{arith}
use mathlib.Core.Path.{◌≡◌, refl, sym, subst, ap, ◌∙◌}
use mathlib.Core.Bool.{true, false}
use mathlib.Core.Logic.{◌↔◌, inl, inr}
use mathlib.Core.List.{List, [], ◌∷◌}
use lib.ListN.{length}
use lib.Dec.{eqb, ltb}
use borrow.Author.Tests.{eqb-false, ne_eqb, ltb-true, ltb-false, lt-ltb, le-ltb}
use Rattle.syntax.specs.Tree.{Monitor}
use Rattle.logic.proofs.Bools.{split, clash, is_true_lem, neither, or_none}
use Rattle.machine.specs.Monitor.{Frame, Run, stopped, all_idle, threads}
use Rattle.machine.specs.Recheck.{Recheck}
use Rattle.machine.specs.Load.{Among}
use Rattle.machine.proofs.Reached.{Reached, start_reached}
use Rattle.machine.proofs.Load.{loads, one_load, loads_most, loads_rules, loads_threads, loads_idle, loads_short}
use Rattle.meaning.specs.Answer.{Verdict, accepted, refused}
use Rattle.meaning.specs.Decide.Check.{check}
use Rattle.meaning.specs.State.{start_number}
use Rattle.meaning.specs.Model.{vars, kept, model}
use Rattle.meaning.specs.Calls.{Machine, plain_machine, table_machine, notices_of, Record, ran}
use Rattle.meaning.specs.Decide.Calls.{running_of, run_list, running}
use Rattle.meaning.specs.Trace.{IsFrameRecord, FrameRecords, no_frame, one_frame, lines_of}
use Rattle.meaning.specs.Load.{frame_size, Made, made_of}
use Rattle.meaning.specs.Decide.Load.{load_frames, made_in, bad_count, load_of}
use Rattle.meaning.proofs.Verdicts.{accepted_iff, refused_iff}
use Rattle.meaning.proofs.ModelLaws.{startable_iff}
use Rattle.meaning.proofs.Sizes.{sizes}
use Rattle.demands.specs.Load.{CountFits, LoadIs, MakesAs, no_count, no_file, no_room, made, IsLoad, DemandLoad}
use Rattle.demands.proofs.Demand1.{start_counts, on_frames}
use Rattle.demands.proofs.Demand2.{checked, follows_rules, run_stops}
use Rattle.demands.proofs.Demand3.{no_rechecks}

-- The frames

each_record : (fs : List Frame) → ((f : Frame) → Among fs f → IsFrameRecord f) → FrameRecords fs
unfolding Among
each_record [] h = no_frame
each_record (f ∷ fs) h = one_frame (h f (inl refl)) (each_record fs (λ g x. h g (inr x)))

module _ (file : List ℕ) (m : Monitor) (e : check file ≡ accepted m) (seed count wanted : ℕ) where
  abbrev s : ℕ
  s = start_number (vars m)

  abbrev fs : List Frame
  fs = load_frames m seed count wanted

  start_kept : kept m s ≡ true
  start_kept = (startable_iff m s).1 (start_counts file m e)

  reached : Reached (model m) (all_idle s)
  unfolding model
  reached = start_reached (model m) s start_kept

  -- they are the load in words, and nothing else is

  loaded : LoadIs m seed count wanted fs
  unfolding load_frames
  loaded = loads (model m) (checked file m e) count wanted (all_idle s) seed reached

  by_draws : (gs : List Frame) → LoadIs m seed count wanted gs ↔ (gs ≡ fs)
  unfolding load_frames
  by_draws gs = (one_load (model m) (checked file m e) reached, λ q. rw q loaded)

  no_recheck : (k : ℕ) → Recheck fs k → ⊥
  no_recheck = loads_idle (model m) (checked file m e) s loaded

  -- threads are below the count, and regions below those of the file, of which there are at most sixteen
  frame_records : CountFits count → FrameRecords fs
  unfolding model CountFits IsFrameRecord
  frame_records c = each_record fs (λ f x.
      let t = loads_threads (model m) (checked file m e) reached loaded f x in
      let n = (sizes ((accepted_iff file m).0 e)).regions in
      (omega arith, omega arith))

  -- each machine's answer is 0, the table's by demand 3

  plain_answer : agreement.answer (run_list m plain_machine s fs) ≡ (0, 0)
  unfolding agreement.answer notices_of
  plain_answer =
      let t = loads_rules (model m) loaded in
      ap agreement.answer (((follows_rules m plain_machine).accepts s fs t.0).1 t.1)

  answers : (w : Machine) → agreement.answer (run_list m w s fs) ≡ (0, 0)
  answers plain_machine = plain_answer
  answers table_machine = sym (no_rechecks file m e s start_kept fs no_recheck) ∙ plain_answer

  -- and a stop's number is 13 or 14
  accepts : CountFits count → (w : Machine) → (r : Record) × (running file (lines_of fs) s w ≡ ran r)
  unfolding running_of agreement.answer
  accepts c w = go (run_list m w s fs) refl (answers w)
    where
      go : (x : Run) → run_list m w s fs ≡ x → agreement.answer x ≡ (0, 0)
          → (r : Record) × (running file (lines_of fs) s w ≡ ran r)
      go (machine.accepted d) q z = (
        _,
        on_frames file (lines_of fs) s ((accepted_iff file m).0 e)
            (start_counts file m e) (frame_records c) refl w ∙ ap (running_of m) q,
      )
      go (stopped a j) q z =
          let l = (run_stops m w s fs a j q).low in
          let n : a ≡ 0 = ap (λ (y : ℕ × ℕ). y.0) z in
          absurd (omega arith)

  is_load : CountFits count → IsLoad file m seed count wanted fs
  unfolding notices_of
  is_load c =
      record {
        by_draws = by_draws;
        at_most = loads_most (model m) loaded;
        records = frame_records c;
        no_recheck = no_recheck;
        accepts = accepts c;
        short = loads_short (model m) loaded;
      }

-- The call

pub count_fits : (count : ℕ) → (bad_count count ≡ false) ↔ CountFits count
unfolding bad_count CountFits threads
count_fits count = (
  λ h. let t = neither (eqb count 0) (ltb 16 count) h in
      let d = eqb-false count 0 t.0 in (omega arith, ltb-false 16 count t.1),
  λ h. or_none (eqb count 0) (ltb 16 count) (ne_eqb count 0 (omega arith)) (le-ltb 16 count h.1),
)

-- with a count that fits, an accepted file and a buffer that is long enough, the frames of the load are made
pub load_says : (file : List ℕ) (m : Monitor) → check file ≡ accepted m → (seed count wanted : ℕ) (buffer : List ℕ)
    → CountFits count → frame_size * wanted ≤ length buffer
    → load_of file seed count wanted buffer ≡ made_of (load_frames m seed count wanted) buffer
unfolding load_of made_in
load_says file m e seed count wanted buffer c h =
    cc ((count_fits count).1 c, le-ltb (length buffer) (frame_size * wanted) h)

module _ (file : List ℕ) (seed count wanted : ℕ) (buffer : List ℕ) where
  makes : {r : Made} → MakesAs file seed count wanted buffer r → load_of file seed count wanted buffer ≡ r
  unfolding load_of made_in
  makes (no_count n) = cc (is_true_lem {b = bad_count count} (λ q. n ((count_fits count).0 q)))
  makes (no_file {a} c r) = cc ((count_fits count).1 c, (refused_iff file a).1 r)
  makes (no_room {m} c a h) =
      cc ((count_fits count).1 c, (accepted_iff file m).1 a, lt-ltb (length buffer) (frame_size * wanted) h)
  makes (made {m} c a h l) =
      let e = (accepted_iff file m).1 a in
      load_says file m e seed count wanted buffer c h
      ∙ ap (λ gs. made_of gs buffer) (sym ((by_draws file m e seed count wanted _).0 l))

  -- there is one for every input
  making : (r : Made) × MakesAs file seed count wanted buffer r
  making = split (bad_count count) (λ h. (_, no_count (λ c. clash h ((count_fits count).1 c))))
      (λ h. go ((count_fits count).0 h) (check file) refl)
    where
      go : CountFits count → (v : Verdict) → check file ≡ v → (r : Made) × MakesAs file seed count wanted buffer r
      go c (refused a) e = (_, no_file c ((refused_iff file a).0 e))
      go c (accepted m) e =
          let a = (accepted_iff file m).0 e in
          split (ltb (length buffer) (frame_size * wanted))
          (λ h. (_, no_room c a (ltb-true (length buffer) (frame_size * wanted) h)))
          (λ h. (_, made c a (ltb-false (length buffer) (frame_size * wanted) h) (loaded file m e seed count wanted)))

  makes_iff : (r : Made) → (load_of file seed count wanted buffer ≡ r) ↔ MakesAs file seed count wanted buffer r
  makes_iff r = (λ e. subst (MakesAs file seed count wanted buffer) (sym (makes making.1) ∙ e) making.1, makes)

  refused_writes_nothing : ((load_of file seed count wanted buffer).answer.number ≡ 0 → ⊥)
      → (load_of file seed count wanted buffer).buffer ≡ buffer
  unfolding made_of
  refused_writes_nothing n = go ((makes_iff _).0 refl) n
    where
      go : {r : Made} → MakesAs file seed count wanted buffer r → (r.answer.number ≡ 0 → ⊥) → r.buffer ≡ buffer
      go (no_count c) n = refl
      go (no_file c r) n = refl
      go (no_room c a h) n = refl
      go (made c a h l) n = absurd (n refl)

pub demand_load : DemandLoad
demand_load = record { makes = makes_iff; writes_nothing = refused_writes_nothing; load = is_load }
