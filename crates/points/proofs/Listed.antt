-- From point to point of a list: what is known where each is written, and what all of them are at the end.
use Prim.Native.Nat.{ℕ, ◌+◌, ◌-◌, ◌*◌, ◌<◌, ◌≤◌}
use native.Mathlib.Omega.{arith}
use native.Mathlib.Nat.{zero-add}
use mathlib.Core.Path.{◌≡◌, refl, sym, ap, ◌∙◌, subst}
use mathlib.Core.Bool.{Bool, true, false}
use mathlib.Core.List.{List, ◌++◌}
use lib.ListN.{length, take, drop, length-append}
use lib.Seq.{take-add, take_all}
use Rattle.sets.specs.Set.{member}
use Rattle.sets.proofs.SetLaws.{member_none}
use Rattle.syntax.specs.Tree.{Monitor}
use Rattle.machine.specs.Monitor.{Frame, Run, accepted, all_idle}
use Rattle.machine.specs.Decide.Step.{run}
use Rattle.meaning.specs.Model.{model}
use Rattle.meaning.specs.Decide.Table.{for_each}
use Rattle.meaning.specs.Points.{point_at, point_count, point_size, stop_answer, notices_at}
use Rattle.demands.proofs.Prefixes.{run_stopped}
use Rattle.digits.specs.Written.{over, Writes}
use Rattle.digits.proofs.ForEach.{for_each_more}
use Rattle.digits.proofs.Writing.{written_same, written_more}
use Rattle.trace.proofs.FramesAt.{frames_end}
use Rattle.stepper.specs.Shown.{of_machine, told_on}
use Rattle.run.specs.Way.{run_of, At, TableAt, goes_on, has_stopped, Way, BothStop, stop_number, stop_frame}
use Rattle.std.specs.Prelude.{None}
use Rattle.run.specs.declared.frames.Going.{Going}
use Rattle.run.specs.declared.frames.Ended.{Ended}
use Rattle.variables.specs.declared.Bounds.{Bounds}
use Rattle.points.specs.Written.{PointsAsked, PointStands, Listed, StopSays, WritesPoints}
use Rattle.points.proofs.Shown.{at_notices}

module _ {bytes : List ℕ} {s : ℕ} {bounds : Bounds} {count_of_guards : ℕ}
    {holds after guard_of begins going_on entries : List ℕ} {regions : ℕ} {out : List ℕ} {m : Monitor} {kept : List ℕ}
    {fs : List Frame}
    (a : PointsAsked bytes s bounds count_of_guards holds after guard_of begins going_on entries regions out m kept fs) where
  -- before the first point nobody is notified
  pub stands_first : {g : Going} → Way (model m) s fs g 0 → PointStands m s fs 0 bounds count_of_guards holds g 0 0
  unfolding run notices_at all_idle
  stands_first way = record {
    way = way;
    kept_slice = kept;
    after_slice = after;
    guard_slice = guard_of;
    held = a.asked.held;
    bounded = a.bounded;
    guard_count = a.guard_count;
    plain_before = λ u h. member_none u;
    table_before = λ z u h. member_none u;
  }

  -- the table's machine has every point before one that it has
  still_there : {g g' : Going} (k : ℕ) → Way (model m) s fs g k → Way (model m) s fs g' (k + 1) → stop_number g'.lost ≡ 0
      → At (model m) true s fs g.run k
  still_there {g} {g'} k way next z = go way.table next.table
    where
      go : TableAt (model m) s fs g.run g.lost k → TableAt (model m) s fs g'.run g'.lost (k + 1)
          → At (model m) true s fs g.run k
      go (goes_on y i x) later = x
      go (has_stopped n e) (has_stopped n' e') = absurd (n' z)
      go (has_stopped n e) (goes_on y i x) =
          let q =
          ap (run_of (model m) true s) (take-add k 1 fs)
          ∙ run_stopped (model m) (told_on (model m) true) 0 (all_idle s) (stop_number g.lost) (stop_frame g.lost) (take k fs)
          (take 1 (drop k fs)) e in
          let t = x.taken in
          let w : ◌≡◌ {A = ℕ} 0 1 = cc in
          absurd (omega arith)

  pub stands_next : {g g' : Going} (k : ℕ) → Way (model m) s fs g k → Way (model m) s fs g' (k + 1)
      → PointStands m s fs (k + 1) bounds count_of_guards holds g' g.run.plain g.run.table
  unfolding of_machine
  stands_next {g} {g'} k way next =
      let back : k ≡ k + 1 - 1 = omega arith in
      record {
        way = next;
        kept_slice = kept;
        after_slice = after;
        guard_slice = guard_of;
        held = a.asked.held;
        bounded = a.bounded;
        guard_count = a.guard_count;
        plain_before = subst (λ (n : ℕ). (u : ℕ) → u < 16 → member g.run.plain u
            ≡ notices_at (run_of (model m) false s (take n fs)) u) back (at_notices way.plain);
        table_before = λ z. subst (λ (n : ℕ). (u : ℕ) → u < 16 → member g.run.table u
            ≡ notices_at (run_of (model m) true s (take n fs)) u) back (at_notices (still_there k way next z));
      }

  -- there is room for every point
  pub room : (k : ℕ) → k ≤ length fs → 49 * k + 49 ≤ length out
  room k h = let r = a.room in omega arith

  -- the first point, and one more
  pub listed_first : {to : ℕ} {e : List ℕ} → length (point_at m s fs 0) ≡ 49 → Writes (point_at m s fs 0) out 0 to e
      → Listed m s fs (0 + 1) out to e
  unfolding for_each
  listed_first l w =
      let one : point_at m s fs 0 ≡ for_each (0 + 1) 0 (point_at m s fs) = sym (for_each_more 0 (point_at m s fs)) in
      record { writes = written_same one w; long = sym (ap length one) ∙ l }

  pub listed_next : (k : ℕ) {to to' : ℕ} {e e' : List ℕ} → k < length fs → Listed m s fs (k + 1) out to e
      → length (point_at m s fs (k + 1)) ≡ 49 → Writes (point_at m s fs (k + 1)) e to to' e'
      → Listed m s fs (k + 1 + 1) out to' e'
  listed_next k h x l w =
      let r = room (k + 1) (omega arith) in
      let n = x.long in
      let more = for_each_more (k + 1) (point_at m s fs) in
      record {
        writes = written_same (sym more) (written_more x.writes (omega arith) w);
        long = ap length more ∙ length-append (for_each (k + 1) 0 (point_at m s fs)) (point_at m s fs (k + 1)) ∙ omega arith;
      }

  -- where the points end
  ended : {n to : ℕ} {e : List ℕ} → Listed m s fs n out to e
      → e ≡ for_each n 0 (point_at m s fs) ++ drop (point_size * n) out
  unfolding over
  ended {n} {to} {e} x =
      x.writes.bytes
      ∙ ap (λ (i : ℕ). for_each n 0 (point_at m s fs) ++ drop i out) (zero-add _ ∙ x.long)

  -- the plain machine refuses frame k
  pub ends_stopped : (g : Going) (e' : Ended) (k : ℕ) → BothStop (model m) s fs g e' k → {to : ℕ} {e : List ℕ}
      → Listed m s fs (k + 1) out to e
      → WritesPoints m s fs (record { plain = e'.plain; table = e'.table; count = k + 1 }) out e
  unfolding stop_answer point_count of_machine
  ends_stopped g e' k stop x = record {
    stops = each;
    count = sym (ap (λ (y : Run). point_count y fs) stop.plain);
    bytes = ended x;
  }
    where
      each : (w : Bool) → StopSays (of_machine w e'.plain e'.table) (stop_answer (run_of (model m) w s fs))
      each false =
          subst (λ (y : Run). StopSays e'.plain (stop_answer y)) (sym stop.plain)
          (record { number = refl; frame = stop.frame; no_second = refl })
      each true =
          subst (λ (y : Run). StopSays e'.table (stop_answer y)) (sym stop.table)
          (record { number = refl; frame = refl; no_second = refl })

  pub ends_all : (g : Going) (k : ℕ) → Way (model m) s fs g k → length bytes ≤ 7 * k → {to : ℕ} {e : List ℕ}
      → Listed m s fs (k + 1) out to e → (n : ℕ) → n ≡ k + 1
      → WritesPoints m s fs (record { plain = None; table = g.lost; count = n }) out e
  unfolding stop_answer point_count of_machine stop_number stop_frame
  ends_all g k way l x n many = record {
    stops = each;
    count = many ∙ ap (λ (n : ℕ). n + 1) last ∙ sym (ap (λ (y : Run). point_count y fs) plain_all);
    bytes = rw many (ended x);
  }
    where
      last : k ≡ length fs
      last = let w = (frames_end a.asked.read).whole in let b = way.below in omega arith

      all : take k fs ≡ fs
      all = take_all k fs (omega (arith, last))

      plain_all : run_of (model m) false s fs ≡ accepted way.plain.point
      plain_all = sym (ap (run_of (model m) false s) all) ∙ way.plain.taken

      each : (w : Bool) → StopSays (of_machine w None g.lost) (stop_answer (run_of (model m) w s fs))
      each false =
          subst (λ (y : Run). StopSays None (stop_answer y)) (sym plain_all)
          (record { number = refl; frame = refl; no_second = refl })
      each true = go way.table
        where
          go : TableAt (model m) s fs g.run g.lost k → StopSays g.lost (stop_answer (run_of (model m) true s fs))
          go (goes_on z i y) =
              subst (λ (q : Run). StopSays g.lost (stop_answer q)) (sym y.taken ∙ ap (run_of (model m) true s) all)
              (record { number = z; frame = i; no_second = refl })
          go (has_stopped n q) =
              subst (λ (y : Run). StopSays g.lost (stop_answer y)) (sym q ∙ ap (run_of (model m) true s) all)
              (record { number = refl; frame = refl; no_second = refl })
