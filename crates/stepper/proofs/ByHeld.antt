-- The monitor of the lent slices answers and moves as the monitor that they hold: from what the code does to what the
-- machine does. Whom a body notifies is told anew only on the guards that it makes true; the others have their notices.
use Prim.Native.Nat.{ℕ, zero, suc, ◌+◌, ◌*◌, ◌/◌, ◌%◌, ◌<◌}
use mathlib.Core.Path.{◌≡◌, refl, sym, ap, ap₂, ◌∙◌, subst}
use mathlib.Core.Bool.{Bool, true, false, not, ◌&&◌, ◌||◌, beq}
use mathlib.Core.List.{List, []}
use native.Mathlib.Nat.{mod-eq_of_lt}
use native.Mathlib.Decide.{dec_lt}
use native.Mathlib.Omega.{arith}
use lib.Dec.{eqb, ltb}
use lib.ListN.{get_or}
use borrow.Author.Tests.{le-ltb}
use Rattle.sets.specs.Set.{member}
use Rattle.machine.specs.Monitor.{Place, idle, waiting, due, Threads, SameThreads, Monitor, Config, Frame, threads}
use Rattle.machine.specs.Queue.{has}
use Rattle.machine.specs.Decide.Step.{leave, without, is_due, is_waiting, may_be_at, may, next, first_notified}
use Rattle.machine.specs.Decide.Step.{ran, waited, rechecked, step}
use Rattle.machine.specs.Algorithm1.{entry, Holds, Fails}
use Rattle.machine.specs.Decide.Table.{runs, entry_of, unconditional, broadcast}
use Rattle.machine.specs.Agreement.{Checked}
use Rattle.machine.specs.Arrival.{Once, Lined}
use Rattle.machine.specs.Rules.{Waiting}
use Rattle.threads.specs.Held.{Queued}
use Rattle.logic.specs.Tests.{bit}
use Rattle.logic.proofs.Bools.{both, not_true, tests_equal}
use Rattle.machine.specs.Held.{follows_by, code_of, Held, HeldPlaces, HeldEntries}
use Rattle.queue.proofs.Lists as queue
use Rattle.stepper.specs.declared.Run.{Run}
use Rattle.stepper.specs.declared.Outcome as code
use Rattle.stepper.specs.Shown.{Shows, Steps, number_in, told_on}
use Rattle.waiters.specs.Slices.{guard_at, holds_at, after_at, begins_at, follows_at}
use Rattle.waiters.specs.Told.{becomes_at, broadcast_at}
use Rattle.waiters.specs.Slices.{slices, guards_only}
use Rattle.stepper.specs.Slices.{newly_in, newly_at, config_of}
use Rattle.stepper.specs.Parts.{verdict_of, next_by, next_of, outcome, step_parts}
use Rattle.stepper.proofs.Taken as taken_frame
use Rattle.stepper.proofs.Taken.{taken_there, taken_runs, there_below}
use Rattle.machine.proofs.Entries.{entry_where}
use Rattle.machine.proofs.Order.{waiting_iff, same_refl, same_trans, began_same, left_same}
use Rattle.machine.proofs.Queue.{has_left}
use Rattle.machine.proofs.Points.{ToldAt, entries_placed}
use Rattle.machine.proofs.Newly.{becomes, newly_plain, newly_table}
use Rattle.machine.proofs.Reached.{PlaceWithin, Reached}
use Rattle.machine.proofs.Simulation.{own_region}
use Rattle.machine.proofs.Tests.{may_iff}
use Rattle.logic.proofs.Any.{any_same}
use Rattle.stepper.proofs.Judged.{same_verdict, absent}
use Rattle.stepper.proofs.Agree.{first_same, next_same, newly_alike, on_held, first_held}

-- two points that no run tells apart
pub record Alike (d c : Config) : Type 0 where
  pub state : d.state ≡ c.state
  pub threads : SameThreads d.threads c.threads
  pub notices : (u : ℕ) → u < 16 → d.notified u ≡ c.notified u

pub shows_alike : (w : Bool) (r : Run) (d c : Config) → Alike d c → Shows w r d → Shows w r c
shows_alike w r d c a h = record {
  state = h.state ∙ a.state;
  threads = same_trans h.threads a.threads;
  turns = h.turns;
  notices = λ u l. h.notices u l ∙ a.notices u l;
}

-- a record that shows a point has those in its queue who wait there
pub shows_queued : (m : Monitor) (w : Bool) (r : Run) (c : Config) → Lined m c.threads → Shows w r c
    → Queued r.threads
unfolding Waiting threads
shows_queued m w r c l h =
    let same = h.threads in
    record {
      once = subst Once (sym same.same_queue) l.once;
      waits = λ u k.
          let place = same.same_place u k in
          ap (λ (q : List ℕ). has q u) same.same_queue
          ∙ tests_equal (has c.threads.queue u) (is_waiting (c.threads.place u))
          (λ e. (waiting_iff (c.threads.place u)).1 ((l.waits u).0 e))
          (λ e. (l.waits u).1 ((waiting_iff (c.threads.place u)).0 e))
          ∙ ap is_waiting (sym place);
    }

-- an outcome of the code: its number is what answers the frame, and its record shows the next point where that is 0
steps_by : (w : Bool) (o : code.Outcome) (n : ℕ) (d : Config) → number_in w o ≡ n → (n ≡ 0 → Shows w o.run d)
    → Steps w o (outcome n d)
unfolding Steps outcome
steps_by w o zero d e s = (e, s refl)
steps_by w o (suc n) d e s = e

-- ---- one look-up each

bit_test : (b : Bool) → eqb (bit b) 1 ≡ b
unfolding bit
bit_test true = refl
bit_test false = refl

-- the third binary digit of an entry's number tells a broadcast
broadcast_code : (a b : Bool) → eqb (code_of (entry a b) / 4 % 2) 1 ≡ b
unfolding code_of bit
broadcast_code true true = refl
broadcast_code true false = refl
broadcast_code false true = refl
broadcast_code false false = refl

module _ (m : Monitor) (kept hs as' gs : List ℕ) (held : Held m kept hs as' gs) where
  pub guard_held : (w : ℕ) → w < m.regions → guard_at gs w ≡ m.guard_of w
  unfolding guard_at
  guard_held w h =
      let small : w < 16 = omega (arith, held.few_regions) in
      let known : get_or gs (w % 16) 0 ≡ m.guard_of w = ap (λ (k : ℕ). get_or gs k 0) (mod-eq_of_lt small)
      ∙ held.by_guard w h in
      ap (λ (g : ℕ). g % 16) known ∙ mod-eq_of_lt (omega (arith, held.guard_below w h, held.few_guards))

  pub holds_held : (g s : ℕ) → g < m.guards → s < m.states → holds_at hs g s ≡ m.holds g s
  unfolding holds_at
  holds_held g s h l =
      let low : s % 4096 ≡ s = mod-eq_of_lt (omega (arith, held.few_states)) in
      ap (λ (n : ℕ). member (get_or hs n 0) g) low ∙ held.by_holds g s h l

  pub after_held : (r s : ℕ) → r < m.regions → s < m.states → runs m r s ≡ true → after_at as' r s ≡ m.after r s
  unfolding after_at
  after_held r s h l e =
      let small : r % 16 ≡ r = mod-eq_of_lt (omega (arith, held.few_regions)) in
      let low : s % 4096 ≡ s = mod-eq_of_lt (omega (arith, held.few_states)) in
      ap₂ (λ (x y : ℕ). get_or as' (x * 4096 + y) 0) small low ∙ held.by_after r s h e

  -- of an entry that stands
  pub broadcast_held : (es : List ℕ) → HeldEntries m es → (r g : ℕ) → r < m.regions → g < m.guards → (a b : Bool)
      → entry_of m r g ≡ entry a b → broadcast_at es r g ≡ b
  unfolding broadcast_at HeldEntries
  broadcast_held es all r g h l a b e =
      let small : r % 16 ≡ r = mod-eq_of_lt (omega (arith, held.few_regions)) in
      let low : g % 16 ≡ g = mod-eq_of_lt (omega (arith, held.few_guards)) in
      ap₂ (λ (x y : ℕ). eqb (get_or es (x * 16 + y) 0 / 4 % 2) 1) small low
      ∙ ap (λ (n : ℕ). eqb (n / 4 % 2) 1) (all r g h l ∙ ap code_of e) ∙ broadcast_code a b

  module _ (bs os : List ℕ) (places : HeldPlaces m bs os) where
    pub begins_held : (r : ℕ) → r < m.regions → begins_at bs r ≡ m.begins r
    unfolding begins_at
    begins_held r h =
        ap (λ (k : ℕ). eqb (get_or bs k 0) 1) (mod-eq_of_lt (omega (arith, held.few_regions)))
        ∙ ap (λ (n : ℕ). eqb n 1) (places.by_begins r h) ∙ bit_test (m.begins r)

    pub follows_held : (r : ℕ) → r < m.regions → follows_at os r ≡ m.follows r
    unfolding follows_at
    follows_held r h =
        ap (λ (k : ℕ). follows_by k (get_or os k 0)) (mod-eq_of_lt (omega (arith, held.few_regions)))
        ∙ sym (places.by_follows r h)

    at_same : (n : ℕ) → m.regions ≡ n → (q : Place) (r : ℕ) → may_be_at (slices hs [] gs bs [] n) q r ≡ may_be_at m q r
    unfolding may_be_at
    at_same n e idle r = ap (λ (k : ℕ). ltb r k && begins_at bs r) (sym e) ∙ go (dec_lt r m.regions)
      where
        go : Dec (r < m.regions) → ltb r m.regions && begins_at bs r ≡ ltb r m.regions && m.begins r
        go (yes l) = ap (λ (b : Bool). ltb r m.regions && b) (begins_held r l)
        go (no l) =
            let past = le-ltb r m.regions (omega arith) in
            ap (λ (b : Bool). b && begins_at bs r) past ∙ sym (ap (λ (b : Bool). b && m.begins r) past)
    at_same n e (waiting w) r = refl
    at_same n e (due w) r = refl

    -- ---- a whole frame
    module _ (w : Bool) (c : Config) (f : Frame) (run : Run) (thread : f.thread < 16) (reached : Reached m c)
        (shows : Shows w run c) where
      state_below : c.state < m.states
      state_below = held.kept_below c.state reached.is_kept

      threads_same : SameThreads (config_of w run).threads c.threads
      unfolding config_of
      threads_same = shows.threads

      place_same : (u : ℕ) → u < 16 → (config_of w run).threads.place u ≡ c.threads.place u
      unfolding threads
      place_same = threads_same.same_place

      notice_same : (u : ℕ) → u < 16 → (config_of w run).notified u ≡ c.notified u
      unfolding config_of
      notice_same u h = shows.notices u h

      queue_below : (u : ℕ) → has c.threads.queue u ≡ true → u < 16
      unfolding config_of
      queue_below u h = queue.queue_below run.threads.order run.threads.waiting u
          (ap (λ (q : List ℕ). has q u) shows.threads.same_queue ∙ h)

      state_same : (config_of w run).state ≡ c.state
      unfolding config_of
      state_same = shows.state

      waiter_below : (u w : ℕ) → c.threads.place u ≡ waiting w → w < m.regions
      unfolding PlaceWithin
      waiter_below u w e = (reached.within u).0 w e

      module _ (n : ℕ) (e : m.regions ≡ n) where
        abbrev read : Monitor
        read = slices hs [] gs bs [] n

        there_same : may read (config_of w run).threads f ≡ may m c.threads f
        unfolding may threads
        there_same =
            ap₂ (λ (x y : Bool). not x && y)
            (any_same 16 (λ u. not (eqb u f.thread) && is_due ((config_of w run).threads.place u))
            (λ u. not (eqb u f.thread) && is_due (c.threads.place u))
            (λ u h. ap (λ (q : Place). not (eqb u f.thread) && is_due q) (place_same u h)))
            (ap (λ (q : Place). may_be_at read q f.region) (place_same f.thread thread)
            ∙ at_same n e (c.threads.place f.thread) f.region)

        taken_alike : f.region < m.regions → verdict_of read (config_of w run) f ≡ verdict_of m c f
        unfolding verdict_of
        taken_alike below =
            let guard : guard_at gs f.region ≡ m.guard_of f.region = guard_held f.region below in
            let truth : holds_at hs (guard_at gs f.region) (config_of w run).state
            ≡ m.holds (m.guard_of f.region) c.state =
            ap₂ (λ (g s : ℕ). holds_at hs g s) guard state_same
            ∙ holds_held (m.guard_of f.region) c.state (held.guard_below f.region below) state_below in
            same_verdict there_same (ap (beq f.flag) truth) (ap is_waiting (place_same f.thread thread)) refl
            (notice_same f.thread thread)
            (ap (λ (g : ℕ). first_notified read (config_of w run).threads (config_of w run).notified g f.thread) guard
            ∙ first_same read m (config_of w run).threads c.threads threads_same queue_below
            (λ u w h q. guard_held w (waiter_below u w q)) (config_of w run).notified c.notified notice_same
            (m.guard_of f.region) f.thread)

        pub verdict_held : verdict_of read (config_of w run) f ≡ verdict_of m c f
        verdict_held = go (may m c.threads f) refl
          where
            go : (b : Bool) → may m c.threads f ≡ b → verdict_of read (config_of w run) f ≡ verdict_of m c f
            go true q = taken_alike (there_below m c f reached q)
            go false q = absent read (config_of w run) f (there_same ∙ q) ∙ sym (absent m c f q)

      module _ (ok : Checked m) (told : ToldAt m w c) (es : List ℕ) (entries : w ≡ true → HeldEntries m es)
          (taken : verdict_of m c f ≡ 0) where
        abbrev moves : Monitor
        moves = slices hs as' gs [] os 0

        below : f.region < m.regions
        below = there_below m c f reached (taken_there m c f taken)

        -- the threads after a body
        abbrev left_of : Threads
        left_of = leave c.threads f.thread (m.follows f.region)

        abbrev left_read : Threads
        left_read = leave (config_of w run).threads f.thread (follows_at os f.region)

        left_alike : SameThreads left_read left_of
        left_alike =
            subst (λ (q : Place). SameThreads (leave (config_of w run).threads f.thread q) left_of)
            (sym (follows_held f.region below)) (left_same m threads_same f.thread (m.follows f.region))

        left_below : (u w : ℕ) → left_of.place u ≡ waiting w → w < m.regions
        left_below = taken_frame.left_below m c f reached bs os places below

        module _ (flag : f.flag ≡ true) where
          runs_now : runs m f.region c.state ≡ true
          runs_now = taken_runs m c f taken reached.is_kept flag

          abbrev to : ℕ
          to = m.after f.region c.state

          to_below : to < m.states
          to_below = held.after_below f.region c.state below runs_now

          to_same : after_at as' f.region (config_of w run).state ≡ to
          to_same = ap (after_at as' f.region) state_same ∙ after_held f.region c.state below state_below
              runs_now

          guard_now : m.holds (m.guard_of f.region) c.state ≡ true
          unfolding runs
          guard_now = (both (m.kept c.state) (m.holds (m.guard_of f.region) c.state) runs_now).1

          own : (w : ℕ) → c.threads.place f.thread ≡ waiting w → w ≡ f.region
          own = own_region m c.threads f ((may_iff m c.threads f).0 (taken_there m c f taken))

          left_queue : (u : ℕ) → has left_of.queue u ≡ true → u < 16
          unfolding leave
          left_queue u h = queue_below u (both (has c.threads.queue u) (not (eqb u f.thread))
              (sym (has_left c.threads.queue f.thread u) ∙ h)).0

          left_guards : (u w : ℕ) → u < 16 → left_of.place u ≡ waiting w → guard_at gs w ≡ m.guard_of w
          left_guards u w h q = guard_held w (left_below u w q)

          -- the guards that the body makes true
          made : (u w : ℕ) → u < 16 → left_of.place u ≡ waiting w
              → becomes_at hs c.state to (m.guard_of w) ≡ becomes m c.state to (m.guard_of w)
          unfolding becomes_at
          made u w h q =
              let g = held.guard_below w (left_below u w q) in
              ap₂ (λ (x y : Bool). x && not y) (holds_held (m.guard_of w) to g to_below)
              (holds_held (m.guard_of w) c.state g state_below)

          kind : HeldEntries m es → (u w : ℕ) → u < 16 → left_of.place u ≡ waiting w
              → becomes m c.state to (m.guard_of w) ≡ true
              → broadcast_at es f.region (m.guard_of w) ≡ broadcast m (m.guard_of w)
          unfolding Holds Fails
          kind all u w h q e =
              let b = both (m.holds (m.guard_of w) to) (not (m.holds (m.guard_of w) c.state)) e in
              broadcast_held es all f.region (m.guard_of w) below (held.guard_below w (left_below u w q))
              (unconditional m f.region (m.guard_of w)) (broadcast m (m.guard_of w))
              (entry_where m ok.below f.region (m.guard_of w) (record {
                from = c.state;
                may_run = record { is_kept = reached.is_kept; guard = guard_now };
                before = not_true b.1;
                after = b.0;
              }))

          fronts : (g u : ℕ) → next (guards_only gs) left_of g u ≡ next m left_of g u
          fronts = next_same (guards_only gs) m left_of left_of same_refl left_queue left_guards

          -- with the notices that are left they make all whom the machine notifies
          abbrev rest : ℕ → Bool
          rest u = without c.notified f.thread u

          told_on_lem : (t : Bool) → ToldAt m t c → (t ≡ true → HeldEntries m es) → (u : ℕ) → u < 16
              → rest u || newly_in gs es (becomes_at hs c.state to) t left_of f.region u
              ≡ rest u || told_on m t to left_of f.region u
          unfolding newly_in told_on ToldAt
          told_on_lem true tp all u h =
              ap (λ (b : Bool). rest u || b)
              (first_held m gs es (becomes_at hs c.state to) c.state to f.region left_of left_guards made (broadcast m)
              fronts (kind (all refl)) u h)
              ∙ sym (newly_table m ok c.state c.threads f.thread f.region guard_now (entry_of m) (broadcast m)
              (entries_placed m ok) own c.notified tp u)
          told_on_lem false pt all u h =
              ap (λ (b : Bool). rest u || b)
              (on_held m gs es (becomes_at hs c.state to) c.state to f.region left_of left_guards made u h)
              ∙ sym (newly_plain m ok c.state c.threads f.thread f.region guard_now c.notified pt u)

          read_newly : (u : ℕ) → u < 16
              → newly_at hs gs es w (config_of w run).state (after_at as' f.region (config_of w run).state) left_read
              f.region u
              ≡ newly_in gs es (becomes_at hs c.state to) w left_of f.region u
          unfolding newly_at
          read_newly u h = newly_alike gs es _ _
              (λ g. ap₂ (λ (x y : ℕ). becomes_at hs x y g) state_same to_same) left_read left_of left_alike left_queue w f.region
              u h

          ran_alike : Alike (ran moves (newly_at hs gs es w (config_of w run).state) (config_of w run) f) (ran m (told_on m w) c f)
          unfolding ran without
          ran_alike = record {
            state = to_same;
            threads = left_alike;
            notices = λ u h.
                ap₂ (λ (x y : Bool). (not (eqb u f.thread) && x) || y) (notice_same u h) (read_newly u h)
                ∙ told_on_lem w told entries u h;
          }

        alike : (flag waits : Bool) → f.flag ≡ flag
            → Alike (next_by moves (newly_at hs gs es w (config_of w run).state) (config_of w run) f flag waits)
            (next_by m (told_on m w) c f flag waits)
        unfolding next_by rechecked waited without
        alike true waits q = ran_alike q
        alike false true q = record {
          state = state_same;
          threads = threads_same;
          notices = λ u h. ap (λ (x : Bool). not (eqb u f.thread) && x) (notice_same u h);
        }
        alike false false q = record {
          state = state_same;
          threads = began_same m threads_same f.thread f.region;
          notices = notice_same;
        }

        pub next_held : Alike (next_of moves (newly_at hs gs es w (config_of w run).state) (config_of w run) f) (next_of m (told_on m w) c f)
        unfolding next_of
        next_held =
            subst (λ (b : Bool). Alike (next_by moves (newly_at hs gs es w (config_of w run).state) (config_of w run) f f.flag b)
            (next_of m (told_on m w) c f))
            (sym (ap is_waiting (place_same f.thread thread)))
            (alike f.flag (is_waiting (c.threads.place f.thread)) refl)

      -- ---- the code's outcome against the machine's step
      pub steps_held : Checked m → ToldAt m w c → (n : ℕ) → m.regions ≡ n → (es : List ℕ) → (w ≡ true → HeldEntries m es)
          → (o : code.Outcome)
          → number_in w o ≡ verdict_of (slices hs [] gs bs [] n) (config_of w run) f
          → (number_in w o ≡ 0 → Shows w o.run (next_of (slices hs as' gs [] os 0) (newly_at hs gs es w (config_of w run).state) (config_of w run) f))
          → Steps w o (step m (told_on m w) c f)
      steps_held ok told n e es entries o number shown =
          let same = number ∙ verdict_held n e in
          subst (Steps w o) (sym (step_parts m (told_on m w) c f))
          (steps_by w o (verdict_of m c f) (next_of m (told_on m w) c f) same
          (λ taken. shows_alike w o.run _ (next_of m (told_on m w) c f) (next_held ok told es entries taken)
          (shown (same ∙ taken))))
