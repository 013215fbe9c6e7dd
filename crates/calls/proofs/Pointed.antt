-- The points of a run, by what the code has found: the file's refusal, 10, 11 or 12 with nothing written, or the points.
use Prim.Native.Nat.{ℕ, ◌*◌, ◌/◌, ◌+◌, ◌<◌, ◌≤◌}
use native.Mathlib.Omega.{arith}
use mathlib.Core.Path.{◌≡◌, refl, sym, ◌∙◌, subst}
use mathlib.Core.Bool.{Bool, true, false}
use mathlib.Core.List.{List}
use lib.ListN.{length}
use lib.Dec.{ltb}
use borrow.Author.Tests.{lt-ltb, le-ltb}
use Rattle.syntax.specs.Tree.{Monitor}
use Rattle.machine.specs.Monitor.{Frame}
use Rattle.meaning.specs.Answer.{Answer, answer, accepted}
use Rattle.meaning.specs.Decide.Check.{check}
use Rattle.meaning.specs.Decide.Frames.{frames_of, frames}
use Rattle.meaning.specs.Model.{kept, model}
use Rattle.meaning.specs.Points.{no_points, point_room, points_of, points_from, frame_points, list_points, point_count}
use Rattle.meaning.proofs.ModelLaws.{startable_iff}
use Rattle.meaning.proofs.Frames.{frames_read}
use Rattle.demands.proofs.Points.{every_point}
use Rattle.answers.specs.Says.{Says, Is, answer_of}
use Rattle.answers.specs.declared.Answer as code
use Rattle.run.specs.Results.{machine_of}
use Rattle.run.specs.Way.{run_of}
use Rattle.run.specs.Ended.{Admits, not_kept, no_frame, all_frames}
use Rattle.run.proofs.Records.{list_run, same_refusal, not_ok}
use Rattle.std.specs.Prelude.{⊤, Result, Err}
use Rattle.answers.specs.Numbered.{numbered}
use Rattle.answers.specs.declared.Refusal.{Refusal}
use Rattle.stepper.specs.Shown.{of_machine}
use Rattle.points.specs.Written.{WritesPoints, StopSays}
use Rattle.points.specs.declared.Written.{Written}
use Rattle.run.specs.Way.{stop_number, stop_frame}
use Rattle.calls.specs.Results.{Points, PointsSay}
use Rattle.calls.specs.declared.Pointing as result
use Rattle.calls.proofs.Loaded.{refusal_of}

-- one answer for both machines, and nothing written
pub nothing : {a : Answer} (b : code.Answer) (r : result.Pointing) (buffer : List ℕ) → r.plain ≡ b → r.table ≡ b
    → r.count ≡ 0 → Says b a → Points (no_points a buffer) r buffer
nothing {a} b r buffer p t n s = record {
  plain = subst (λ x. Says x a) (sym p) s;
  table = subst (λ x. Says x a) (sym t) s;
  count = n;
  bytes = refl;
}

module _ (file bytes : List ℕ) (start : ℕ) (buffer : List ℕ) (r : result.Pointing) where
  pub no_monitor : (b : code.Answer) → Is b (check file) → (b.number ≡ 0 → ⊥) → r.plain ≡ b → r.table ≡ b
      → r.count ≡ 0
      → Points (points_of file bytes start buffer) r buffer
  unfolding Is answer_of points_of
  no_monitor b is other p t n =
      let (a, e) = refusal_of file b is other in rw (e, points_of) (nothing b r buffer p t n (rw e at is))

  module _ (m : Monitor) (e : check file ≡ accepted m) where
    pub too_short : length buffer / 49 ≤ length bytes / 7 → (b : code.Answer) → Says b (answer 10 0 0) → r.plain ≡ b
        → r.table ≡ b → r.count ≡ 0 → Points (points_of file bytes start buffer) r buffer
    unfolding points_of point_room
    too_short l b s p t n =
        let short : ltb (length buffer) (49 * (length bytes / 7 + 1)) ≡ true = lt-ltb (length buffer) (49 * (length bytes / 7 + 1)) (omega arith) in
        rw (e, points_of, short) (nothing b r buffer p t n s)

    pub long_enough : length bytes / 7 < length buffer / 49 → (out : List ℕ)
        → Points (points_from m start bytes buffer) r out → Points (points_of file bytes start buffer) r out
    unfolding points_of point_room
    long_enough l out x =
        let long : ltb (length buffer) (49 * (length bytes / 7 + 1)) ≡ false = le-ltb (length buffer) (49 * (length bytes / 7 + 1)) (omega arith) in
        rw (e, points_of, long) x

  module _ (m : Monitor) where
    pub refused_early : {early : Result ⊤ Refusal} → Admits m start bytes early → (x : Refusal) → early ≡ Err x
        → (b : code.Answer) → Says b (numbered x) → r.plain ≡ b → r.table ≡ b → r.count ≡ 0
        → Points (points_from m start bytes buffer) r buffer
    unfolding points_from frame_points
    refused_early (not_kept k e) x is b s p t n =
        rw (k, points_from) (nothing b r buffer p t n (subst (λ (y : Refusal). Says b (numbered y)) (same_refusal _ _ is e) s))
    refused_early (no_frame j k f e) x is b s p t n =
        rw (k, points_from, f) (nothing b r buffer p t n (subst (λ (y : Refusal). Says b (numbered y)) (same_refusal _ _ is e) s))
    refused_early (all_frames fs k f e) x is b s p t n = not_ok x is e

    -- an answer that is said of a stop
    stop_says : {a : Answer} (w : Written) (v : Bool) (b : code.Answer) → StopSays (of_machine v w.plain w.table) a
        → (b.number ≡ stop_number (of_machine v w.plain w.table)) × (b.first ≡ stop_frame (of_machine v w.plain w.table))
        × (b.second ≡ 0)
        → Says b a
    stop_says w v b s e = record {
      number = e.0 ∙ s.number;
      first = e.1 ∙ s.frame;
      second = e.2 ∙ sym s.no_second;
    }

    pub listed : kept m start ≡ true → (fs : List Frame) → frames_of bytes ≡ frames fs → (w : Written) (out : List ℕ)
        → WritesPoints m start fs w buffer out
        → (r.plain.number ≡ stop_number w.plain) × (r.plain.first ≡ stop_frame w.plain) × (r.plain.second ≡ 0)
        → (r.table.number ≡ stop_number w.table) × (r.table.first ≡ stop_frame w.table) × (r.table.second ≡ 0)
        → r.count ≡ w.count → Points (points_from m start bytes buffer) r out
    unfolding points_from frame_points list_points of_machine machine_of
    listed k fs f w out x p t n =
        let plain-run = list_run m false start fs in
        let table_run = list_run m true start fs in
        let many : w.count ≡ point_count (run_of (model m) false start fs) fs = x.count in
        rw (k, points_from, f, plain-run, table_run) (record {
          plain = stop_says w false r.plain (x.stops false) p;
          table = stop_says w true r.table (x.stops true) t;
          count = n ∙ many;
          bytes = x.bytes ∙ rw many refl;
        })

-- in words
pub points_say : (file bytes : List ℕ) (start : ℕ) (buffer : List ℕ) → PointsSay file bytes start buffer
unfolding PointsSay points_of points_from frame_points
points_say file bytes start buffer m e room s fs records lines =
    let k = (startable_iff m start).1 s in
    let f = (frames_read bytes fs).1 (records, lines) in
    let long = le-ltb (length buffer) (point_room bytes) room in
    (rw (e, points_of, long, k, points_from, f) refl, every_point.points file m e start k fs buffer)
