-- Demand 3 holds, from the simulation of `machine`; and what follows of the calls' results.
use Rattle.machine.specs.Monitor as machine
use Rattle.machine.specs.Agreement as agreement
use Prim.Native.Nat.{ℕ, ◌<◌, zero, suc, ◌+◌, ◌*◌, ◌/◌, ◌%◌}
use native.Mathlib.Omega.{arith}
use mathlib.Core.Path.{◌≡◌, refl, sym, subst, ap, ◌∙◌}
use mathlib.Core.Bool.{Bool, true, false, false≢true}
use mathlib.Core.Logic.{◌⊎◌, inl, inr, ⊎_elim, ◌↔◌}
use mathlib.Core.List.{List, ◌∷◌, [], ◌++◌}
use lib.ListN.{get_or, get_elem?}
use Rattle.syntax.specs.Tree.{Monitor}
use Rattle.syntax.proofs.Grammar.{one_cond}
use Rattle.machine.specs.Monitor.{Frame, Config, Run, stopped, all_idle, threads, Place, waiting, Threads, turn, line}
use Rattle.machine.specs.Rules.{Notices, Rules, Waits, Waiting, Front}
use Rattle.machine.specs.Arrival.{Lined}
use Rattle.machine.specs.Agreement.{Checked}
use Rattle.machine.specs.Decide.Step.{is_waiting}
use Rattle.machine.proofs.Order.{waiting_iff}
use Rattle.machine.proofs.Rechecks.{waiting_paused}
use Rattle.machine.proofs.Reached.{start_reached, rules_reached}
use Rattle.machine.proofs.Turns.{lined_lines}
use Rattle.machine.proofs.RulesDecided.{refuses_number}
use Rattle.logic.proofs.Bools.{no_some, different}
use Rattle.machine.specs.Agreement.{SamePoint, Agrees, plain_run, table_run}
use Rattle.machine.specs.Recheck.{Recheck, LastOf, Paused, SentLast00}
use Rattle.machine.proofs.Agreement.{agrees, same_without_rechecks, table_accepts}
use Rattle.meaning.specs.State.{state_at}
use Rattle.meaning.specs.Answer.{answer, accepted}
use Rattle.meaning.specs.Decide.Check.{check}
use Rattle.meaning.specs.Model.{vars, kept, model, guard_of, holds}
use Rattle.meaning.specs.Calls.{Machine, plain_machine, table_machine, Startable}
use Rattle.meaning.specs.Bits.{each_from, bits}
use Rattle.meaning.proofs.Each.{each_first}
use Rattle.meaning.specs.Calls.{Record, record_of, Running, ran, not_run, notices_of}
use Rattle.meaning.specs.Decide.Calls.{told_by, running_of, run_list, running}
use Rattle.meaning.specs.Accepted.{Accepted}
use Rattle.meaning.proofs.ModelLaws.{holds_guard, startable_iff}
use Rattle.meaning.specs.Trace.{IsFrameRecord, FrameRecords, no_frame, one_frame, lines_of}
use Rattle.meaning.proofs.Verdicts.{refusal_number, accepted_iff}
use mathlib.Core.Option.{some, some-injective}
use Rattle.sets.specs.Set.{member}
use Rattle.sets.proofs.SetLaws.{member_zero, member_suc}
use Rattle.demands.specs.Demand1.{RunsAs, no_monitor, no_start, bad_line, frame_refused, all_allowed}
use Rattle.demands.specs.Demand3.{Demand3, run_answer, SameRunning, FirstWaiter, FirstNotified}
use Rattle.demands.proofs.Demand1.{runs, run_as, on_frames, running_iff}
use Rattle.demands.proofs.Demand2.{checked, follows_rules}

-- Demand 3: "every state that meets the kept condition and every list of frames", "run from there with all threads
-- idle"

pub demand_3 : Demand3
unfolding Agrees plain_run table_run run_list told_by model
demand_3 = record { agree = λ file m e s k fs. agrees (model m) (checked file m e) s k fs }

module _ (file : List ℕ) (m : Monitor) (e : check file ≡ accepted m) (s : ℕ) (k : kept m s ≡ true) (fs : List Frame)
  where
    -- without rechecks the answers are always equal
    pub no_rechecks : ((j : ℕ) → Recheck fs j → ⊥)
        → agreement.answer (run_list m plain_machine s fs) ≡ agreement.answer (run_list m table_machine s fs)
    unfolding plain_run table_run run_list told_by model
    no_rechecks = same_without_rechecks (model m) (checked file m e) s k fs

    -- what the table's machine accepts the plain one accepts, with the same values, places and turns
    pub accepted_by_table : (c : Config) → run_list m table_machine s fs ≡ machine.accepted c
        → (d : Config) × (run_list m plain_machine s fs ≡ machine.accepted d) × SamePoint (model m) d c
    unfolding plain_run table_run run_list told_by model
    accepted_by_table = table_accepts (model m) (checked file m e) s k fs

-- the number is 0 exactly where a trace is accepted
pub zero_iff_ran : (file bytes : List ℕ) (s : ℕ) (w : Machine)
    → ((run_answer (running file bytes s w)).number ≡ 0) ↔ ((r : Record) × (running file bytes s w ≡ ran r))
unfolding run_answer
zero_iff_ran file bytes s w =
    (go ((running_iff file bytes s w _).0 refl), λ x. ap {B = ℕ} (λ (y : Running). (run_answer y).number) x.1)
  where
    go : {x : Running} → RunsAs file bytes s w x → (run_answer x).number ≡ 0 → (r : Record) × (x ≡ ran r)
    go (no_monitor r) z = let n = refusal_number r in absurd (omega arith)
    go (no_start a n) z = absurd (omega arith)
    go (bad_line a h t) z = absurd (omega arith)
    go (frame_refused a h r e t) z = let n = refuses_number t.refuse in absurd (omega arith)
    go (all_allowed a h r e t) z = (_, refl)

answer_of : (m : Monitor) (x : Run) → run_answer (running_of m x)
    ≡ answer (agreement.answer x).0 (agreement.answer x).1 0
unfolding run_answer running_of agreement.answer
answer_of m (machine.accepted c) = refl
answer_of m (stopped a k) = refl

same_records : (m : Monitor) (c d : Config) → SamePoint (model m) d c
    → ((record_of m d).values ≡ (record_of m c).values) × ((record_of m d).places ≡ (record_of m c).places)
    × ((record_of m d).turns ≡ (record_of m c).turns)
unfolding record_of
same_records m c d p = (
  ap (state_at (vars m)) p.same_state,
  ap (λ (q : Threads). each_from threads 0 q.place) p.same_threads,
  ap (λ (q : Threads). each_from threads 0 (turn q)) p.same_threads,
)

module _ (file bytes : List ℕ) (s : ℕ) where
  abbrev plain : Running
  plain = running file bytes s plain_machine

  abbrev table : Running
  table = running file bytes s table_machine

  abbrev Answers : Type 0
  Answers =
      (run_answer plain ≡ run_answer table)
      ⊎ ((fs : List Frame) × (k : ℕ) × FrameRecords fs × (bytes ≡ lines_of fs) × (table ≡ not_run (answer 14 k 0))
      × Recheck fs k)

  on_frames_agree : {m : Monitor} {fs : List Frame} → Accepted file m → Startable m s → FrameRecords fs
      → bytes ≡ lines_of fs → Answers
  unfolding running_of
  on_frames_agree {m} {fs} a k r e =
      let p = on_frames file bytes s a k r e plain_machine in
      let t = on_frames file bytes s a k r e table_machine in
      ⊎_elim
      (λ h. inl (ap run_answer p ∙ answer_of m _ ∙ ap (λ (x : ℕ × ℕ). answer x.0 x.1 0) h ∙ sym (answer_of m _)
      ∙ sym (ap run_answer t)))
      (λ x. inr (fs, x.0, r, e, t ∙ ap (running_of m) x.1, x.2))
      (demand_3.agree file m ((accepted_iff file m).1 a) s ((startable_iff m s).1 k) fs).same_answer

  alike : {x : Running} → ((w : Machine) → RunsAs file bytes s w x) → Answers
  alike f =
      inl (ap run_answer (runs file bytes s plain_machine (f plain_machine)
      ∙ sym (runs file bytes s table_machine (f table_machine))))

  same_answers : {x : Running} → RunsAs file bytes s table_machine x → Answers
  same_answers (no_monitor r) = alike (λ w. no_monitor r)
  same_answers (no_start a n) = alike (λ w. no_start a n)
  same_answers (bad_line a h t) = alike (λ w. bad_line a h t)
  same_answers (frame_refused a h r e t) = on_frames_agree a h r e
  same_answers (all_allowed a h r e t) = on_frames_agree a h r e

  records : {b : Record} → RunsAs file bytes s table_machine (ran b)
      → (a : Record) × (plain ≡ ran a) × (a.values ≡ b.values) × (a.places ≡ b.places) × (a.turns ≡ b.turns)
  records (all_allowed {m} {fs} {c} a h r e t) =
      let x = accepted_by_table file m ((accepted_iff file m).1 a) s ((startable_iff m s).1 h) fs c
      (((follows_rules m table_machine).accepts s fs c).1 t) in
      let same = same_records m c x.0 x.2 in (
        record_of m x.0,
        runs file bytes s plain_machine
            (all_allowed a h r e (((follows_rules m plain_machine).accepts s fs x.0).0 x.1)),
        same.0,
        same.1,
        same.2,
      )

  pub same_running : SameRunning file bytes s
  same_running =
      record {
        same_answer = same_answers (run_as file bytes s table_machine).1;
        same_record = λ b e. records ((running_iff file bytes s table_machine (ran b)).0 e);
      }

-- Lists of all threads

each_at : {A : Type 0} (n t : ℕ) (f : ℕ → A) (u : ℕ) → u < n → get_elem? (each_from n t f) u ≡ some (f (t + u))
unfolding each_from
each_at zero t f u h = absurd (omega arith)
each_at (suc n) t f zero h = ap some (ap f (omega arith))
each_at (suc n) t f (suc u) h = each_at n (t + 1) f u (omega arith) ∙ ap some (ap f (omega arith))

each_is : {A : Type 0} (n t : ℕ) (f : ℕ → A) (u : ℕ) (a : A) → get_elem? (each_from n t f) u ≡ some a
    → (u < n) × (f (t + u) ≡ a)
unfolding each_from
each_is zero t f u a e = no_some e
each_is (suc n) t f zero a e = (omega arith, ap f (omega arith) ∙ some-injective _ _ e)
each_is (suc n) t f (suc u) a e = let x = each_is n (t + 1) f u a e in (omega arith, ap f (omega arith) ∙ x.1)

bit_at : (bs : List Bool) (u : ℕ) (b : Bool) → get_elem? bs u ≡ some b → member (bits bs) u ≡ b
unfolding bits
bit_at [] u b e = no_some e
bit_at (true ∷ bs) zero b e = rw (member_zero, low (bits bs)) (some-injective _ _ e)
  where
    low : (n : ℕ) → (1 + 2 * n) % 2 ≡ 1
    low n = omega arith
bit_at (false ∷ bs) zero b e = rw (member_zero, low (bits bs)) (some-injective _ _ e)
  where
    low : (n : ℕ) → (2 * n) % 2 ≡ 0
    low n = omega arith
bit_at (true ∷ bs) (suc u) b e = rw (member_suc, high (bits bs)) (bit_at bs u b e)
  where
    high : (n : ℕ) → (1 + 2 * n) / 2 ≡ n
    high n = omega arith
bit_at (false ∷ bs) (suc u) b e = rw (member_suc, high (bits bs)) (bit_at bs u b e)
  where
    high : (n : ℕ) → (2 * n) / 2 ≡ n
    high n = omega arith

-- From a point to its record

module _ (m : Monitor) (c : Config) where
  thread_place :
      (u : ℕ) (q : Place) → get_elem? (record_of m c).places u ≡ some q → (u < threads) × (c.threads.place u ≡ q)
  unfolding record_of
  thread_place u q e =
      let x = each_is threads 0 c.threads.place u q e in (x.0, ap c.threads.place (omega arith) ∙ x.1)

  place_listed : (u : ℕ) → u < threads → get_elem? (record_of m c).places u ≡ some (c.threads.place u)
  unfolding record_of
  place_listed u h = each_at threads 0 c.threads.place u h ∙ ap some (ap c.threads.place (omega arith))

  pub in_set : (u : ℕ) → u < threads → member (record_of m c).notified u ≡ c.notified u
  unfolding record_of
  in_set u h =
      bit_at (each_from threads 0 c.notified) u (c.notified u)
      (each_at threads 0 c.notified u h ∙ ap some (ap c.notified (omega arith)))

  turn_listed : (u : ℕ) → u < threads → get_or (record_of m c).turns u 0 ≡ turn c.threads u
  unfolding record_of
  turn_listed u h = each_first threads (turn c.threads) u 0 h

  -- where those who wait are sixteen at most, the first waiter of the record stands at the front of its line
  is_next : Lined (model m) c.threads → ((v : ℕ) → Waiting (model m) (c.threads.place v) → v < threads)
      → (u r : ℕ) → FirstWaiter m (record_of m c) u r
      → (u < threads) × Front (line (model m) c.threads (guard_of m r)) u × (holds m (guard_of m r) c.state ≡ true)
  unfolding Waits Waiting model record_of
  is_next lined below u r w =
      let x = thread_place u (waiting r) w.waits in (
        x.0,
        ((lined_lines (model m) lined).front (guard_of m r) u).1 (
          (r, x.1, refl),
          λ v y l.
              let h = below v (y.0, y.1) in
              w.none_ahead v y.0 (place_listed v h ∙ ap some y.1) y.2
              (omega (arith, l, turn_listed v h, turn_listed u x.0)),
        ),
        holds_guard m one_cond r c.state ∙ w.guard,
      )

-- who waits has sent a frame, so it is one of sixteen
frame_below : {fs : List Frame} {t : ℕ} {e : Frame} → LastOf fs t e → FrameRecords fs → t < 16
unfolding IsFrameRecord
frame_below {fs} {t} {e} l r = go fs l.earlier l.splits r
  where
    go : (fs earlier : List Frame) → fs ≡ earlier ++ (e ∷ l.later) → FrameRecords fs → t < 16
    go [] [] q no_frame = different cc
    go [] (x ∷ y) q no_frame = different cc
    go (f ∷ fs) [] q (one_frame i h) =
        let z : f ≡ e = cc in
        let n : f.thread ≡ t = ap (λ (x : Frame). x.thread) z ∙ l.sent in
        let k = i.0 in omega arith
    go (f ∷ fs) (x ∷ y) q (one_frame i h) = let z : fs ≡ y ++ (e ∷ l.later) = cc in go fs y z h

waiters_below : (m : Monitor) (ok : Checked (model m)) (notices : Notices) (s : ℕ) (fs : List Frame) (c : Config)
    → Rules (model m) notices (all_idle s) fs c → FrameRecords fs
    → (u : ℕ) → Waiting (model m) (c.threads.place u) → u < 16
unfolding Waiting Paused SentLast00 all_idle is_waiting
waiters_below m ok notices s fs c rules records u w =
    ⊎_elim (λ x. frame_below x.1 records) (λ x. absurd (false≢true x.1))
    (waiting_paused (model m) ok.leaves notices rules u ((waiting_iff (c.threads.place u)).1 w))

module _ (file bytes : List ℕ) (s : ℕ) where
  notified_by : {b : Record} → RunsAs file bytes s table_machine (ran b) → (m : Monitor) → check file ≡ accepted m
      → (u r : ℕ)
      → FirstWaiter m b u r → member b.notified u ≡ true
  unfolding model threads
  notified_by (all_allowed {m = m₀} {fs} {c} a h f e t) m q u r w =
      let p = (accepted_iff file m₀).1 a in
      let same : m ≡ m₀ = cc in
      let y = accepted_by_table file m₀ p s ((startable_iff m₀ s).1 h) fs c
      (((follows_rules m₀ table_machine).accepts s fs c).1 t) in
      let ok = checked file m₀ p in
      let kept = (startable_iff m₀ s).1 h in
      let reached = rules_reached (model m₀) ok (notices_of m₀ table_machine) t (start_reached (model m₀) s kept) in
      let x = is_next m₀ c reached.lined (waiters_below m₀ ok (notices_of m₀ table_machine) s fs c t f) u r
      (subst (λ (n : Monitor). FirstWaiter n (record_of m₀ c) u r) same w) in
      in_set m₀ c u x.0 ∙ y.2.next_notified (guard_of m₀ r) u x.2 x.1

  pub first_notified : FirstNotified file bytes s
  unfolding FirstNotified
  first_notified m q b e = notified_by ((running_iff file bytes s table_machine (ran b)).0 e) m q
