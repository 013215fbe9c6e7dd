-- The two changes of threads, from what the code writes: who begins to wait stands behind all who wait, and where a waiter goes
-- on those behind it close up; the turns that are held are the queue's again.
use Prim.Native.Nat.{ℕ, zero, suc, ◌+◌, ◌-◌, ◌%◌, ◌≤◌, ◌<◌}
use native.Mathlib.Nat.{mod-eq_of_lt}
use native.Mathlib.Decide.{dec_lt}
use native.Mathlib.Omega.{arith}
use mathlib.Core.Path.{◌≡◌, refl, sym, subst, ap, ap₂, ◌∙◌}
use mathlib.Core.Bool.{Bool, true, false, not, ◌&&◌, and-true, and-false, true≢false}
use mathlib.Core.List.{List}
use lib.Dec.{eqb}
use borrow.Author.Tests.{eq-eqb, ne_eqb}
use Rattle.logic.proofs.Bools.{split, split_eq, and, true_not}
use Rattle.machine.specs.Monitor as machine
use Rattle.machine.specs.Monitor.{SameThreads, turn, turn_at}
use Rattle.machine.specs.Queue.{has, joined, left, place_in}
use Rattle.machine.specs.Arrival.{Once}
use Rattle.machine.specs.Decide.Step.{is_waiting, begin_wait, leave}
use Rattle.machine.proofs.Queue.{has_left, once_left, left_absent, place_absent, place_below, place_joined, place_last}
use Rattle.machine.proofs.Queue.{place_kept}
use Rattle.queue.specs.Packed.{queue_of, joined_to, left_by}
use Rattle.queue.proofs.Lists.{few, queue_below, queue_joined, queue_left, queue_length, room}
use Rattle.threads.specs.declared.Thread.{Thread}
use Rattle.threads.specs.declared.Threads.{Threads}
use Rattle.threads.specs.Held.{places_of, turns_of, threads_of, Turned, Queued, Puts, between}
use Rattle.threads.proofs.Replaced.{puts_own, puts_other}
use Rattle.threads.proofs.Between.{between_in, between_out}

-- a turn asks for the place in the queue only of a thread that waits
turn_same : (q : machine.Place) (n k : ℕ) → (is_waiting q ≡ true → n ≡ k) → turn_at q n ≡ turn_at q k
unfolding turn_at is_waiting
turn_same machine.idle n k e = refl
turn_same (machine.waiting r) n k e = e refl
turn_same (machine.due r) n k e = refl

turn_waits : (q : machine.Place) (n : ℕ) → is_waiting q ≡ true → turn_at q n ≡ n
unfolding turn_at is_waiting
turn_waits machine.idle n e = absurd (true≢false (sym e))
turn_waits (machine.waiting r) n e = refl
turn_waits (machine.due r) n e = absurd (true≢false (sym e))

turn_none : (q : machine.Place) (n : ℕ) → is_waiting q ≡ false → turn_at q n ≡ 0
unfolding turn_at is_waiting
turn_none machine.idle n e = refl
turn_none (machine.waiting r) n e = absurd (true≢false e)
turn_none (machine.due r) n e = refl

module _ (ts : Threads) (lined : Queued ts) (turned : Turned ts) (t : ℕ) (thread : t < 16) where
  abbrev q : List ℕ
  q = queue_of ts.order ts.waiting

  member : (u : ℕ) → u < 16 → has q u ≡ is_waiting (places_of ts.each u)
  unfolding machine.threads
  member u h = lined.waits u h

  held : (u : ℕ) → u < 16 → turns_of ts.each u ≡ turn_at (places_of ts.each u) (place_in q u)
  unfolding turn machine.threads
  held u h = turned.turns u h

  -- t begins to wait
  module _ (idle_or_due : is_waiting (places_of ts.each t) ≡ false) (r : ℕ) (after : Threads)
      (puts : Puts ts.each t (machine.waiting r) ts.waiting after.each)
      (order : ts.waiting < 16 → t < 16 → after.order ≡ joined_to ts.order ts.waiting t)
      (count : after.waiting ≡ ts.waiting % 16 + 1) where
    absent : has q t ≡ false
    absent = member t thread ∙ idle_or_due

    below : ts.waiting < 16
    below = room ts.order ts.waiting t lined.once thread absent

    queue_then : queue_of after.order after.waiting ≡ joined q t
    queue_then =
        let n : after.waiting ≡ suc ts.waiting = count ∙ ap (λ (k : ℕ). k + 1) (mod-eq_of_lt below) ∙ omega arith in
        ap₂ queue_of (order below thread) n ∙ queue_joined ts.order ts.waiting t thread

    pub began_shows : SameThreads (threads_of after) (begin_wait (threads_of ts) t r)
    unfolding begin_wait
    began_shows = record { same_place = puts.places; same_queue = queue_then }

    turn_then : (u : ℕ) → u < 16
        → turns_of after.each u ≡ turn_at (places_of after.each u) (place_in (queue_of after.order after.waiting) u)
    unfolding turn_at
    turn_then u h = split_eq u t
        (λ e.
        let own = puts_own puts thread in
        ap (turns_of after.each) e ∙ own.1
        ∙ sym (ap₂ (λ (x : machine.Place) (n : ℕ). turn_at x n) (ap (places_of after.each) e ∙ own.0)
        (ap₂ (λ (l : List ℕ) (v : ℕ). place_in l v) queue_then e ∙ place_last q t absent
        ∙ queue_length ts.order ts.waiting)))
        (λ d.
        let x = puts_other puts u h d in
        x.1 ∙ held u h
        ∙ turn_same (places_of ts.each u) (place_in q u) (place_in (queue_of after.order after.waiting) u)
        (λ w. sym (ap (λ (l : List ℕ). place_in l u) queue_then ∙ place_joined q t u (member u h ∙ w)))
        ∙ ap (λ (p : machine.Place). turn_at p (place_in (queue_of after.order after.waiting) u)) (sym x.0))

    pub began_turned : Turned after
    unfolding turn machine.threads
    began_turned = record { turns = turn_then }

  -- t goes on to a place where it does not wait
  module _ (place : machine.Place) (goes_on : is_waiting place ≡ false) (next : List Thread)
      (puts : Puts ts.each t place 0 next) (after : Threads) where
    -- and did not wait before
    module _ (idle_or_due : is_waiting (places_of ts.each t) ≡ false) (each : after.each ≡ next)
        (order : after.order ≡ ts.order) (count : after.waiting ≡ ts.waiting) where
      queue_stays : queue_of after.order after.waiting ≡ q
      queue_stays = ap₂ queue_of order count

      pub passed_shows : SameThreads (threads_of after) (leave (threads_of ts) t place)
      unfolding leave
      passed_shows = record {
        same_place = λ u h. ap (λ (l : List Thread). places_of l u) each ∙ puts.places u h;
        same_queue = queue_stays ∙ sym (left_absent q t (member t thread ∙ idle_or_due));
      }

      passed_turn : (u : ℕ) → u < 16
          → turns_of next u ≡ turn_at (places_of next u) (place_in (queue_of after.order after.waiting) u)
      passed_turn u h = split_eq u t
          (λ e.
          let own = puts_own puts thread in
          ap (turns_of next) e ∙ own.1
          ∙ sym (turn_none (places_of next u) _ (ap is_waiting (ap (places_of next) e ∙ own.0) ∙ goes_on)))
          (λ d.
          let x = puts_other puts u h d in
          x.1 ∙ held u h
          ∙ ap₂ (λ (p : machine.Place) (l : List ℕ). turn_at p (place_in l u)) (sym x.0) (sym queue_stays))

      pub passed_queued : Queued after
      unfolding machine.threads
      passed_queued = record {
        once = subst Once (sym queue_stays) lined.once;
        waits = λ u h. ap (λ (l : List ℕ). has l u) queue_stays ∙ member u h ∙ split_eq u t
            (λ e. ap (λ (v : ℕ). is_waiting (places_of ts.each v)) e ∙ idle_or_due
            ∙ sym (ap is_waiting (ap (λ (l : List Thread). places_of l u) each ∙ ap (places_of next) e
            ∙ (puts_own puts thread).0) ∙ goes_on))
            (λ d. ap is_waiting (sym (ap (λ (l : List Thread). places_of l u) each ∙ (puts_other puts u h d).0)));
      }

      pub passed_turned : Turned after
      unfolding turn machine.threads
      passed_turned = record {
        turns = λ u h. ap (λ (l : List Thread). turns_of l u) each ∙ passed_turn u h
            ∙ ap (λ (l : List Thread). turn_at (places_of l u) (place_in (queue_of after.order after.waiting) u)) (sym each);
      }

    -- or waited, at a place in the queue
    module _ (waits : is_waiting (places_of ts.each t) ≡ true)
        (order : turns_of ts.each t < 16 → after.order ≡ left_by ts.order (turns_of ts.each t))
        (count : after.waiting ≡ ts.waiting - 1)
        (places : (u : ℕ) → u < 16 → places_of after.each u ≡ places_of next u)
        (turns : turns_of ts.each t < 16 → Once (queue_of after.order after.waiting) → (u : ℕ) → u < 16
        → turns_of after.each u ≡ between (turns_of ts.each t) after.waiting
        (place_in (queue_of after.order after.waiting) u) (turns_of next u)) where
      abbrev k : ℕ
      k = place_in q t

      here : has q t ≡ true
      here = member t thread ∙ waits

      own_turn : turns_of ts.each t ≡ k
      own_turn = held t thread ∙ turn_waits (places_of ts.each t) k waits

      k_below : k < ts.waiting
      k_below = let l = place_below q t here in let e = queue_length ts.order ts.waiting in omega arith

      most : ts.waiting ≤ 16
      most =
          let f = few 16 q lined.once (queue_below ts.order ts.waiting) in
          let e = queue_length ts.order ts.waiting in omega arith

      small : turns_of ts.each t < 16
      small = let a = own_turn in let b = k_below in let c = most in omega arith

      queue_from : (n : ℕ) → ts.waiting ≡ suc n → queue_of after.order after.waiting ≡ left q t
      queue_from n e =
          let c : after.waiting ≡ n = omega (arith, count) in
          let o : after.order ≡ left_by ts.order (place_in (queue_of ts.order (suc n)) t) =
          order small ∙ ap (left_by ts.order) (own_turn ∙ ap (λ (x : ℕ). place_in (queue_of ts.order x) t) e) in
          ap₂ queue_of o c
          ∙ queue_left ts.order n t (subst (λ (x : ℕ). Once (queue_of ts.order x)) e lined.once)
          (subst (λ (x : ℕ). has (queue_of ts.order x) t ≡ true) e here)
          ∙ ap (λ (x : ℕ). left (queue_of ts.order x) t) (sym e)

      queue_left_then : queue_of after.order after.waiting ≡ left q t
      queue_left_then = go ts.waiting refl
        where
          go : (n : ℕ) → ts.waiting ≡ n → queue_of after.order after.waiting ≡ left q t
          go zero e = absurd (let l = k_below in omega arith)
          go (suc n) e = queue_from n e

      pub left_shows : SameThreads (threads_of after) (leave (threads_of ts) t place)
      unfolding leave machine.threads
      left_shows = record { same_place = λ u h. places u h ∙ puts.places u h; same_queue = queue_left_then }

      once_then : Once (queue_of after.order after.waiting)
      once_then = subst Once (sym queue_left_then) (once_left q t lined.once)

      member_then : (u : ℕ) → has (queue_of after.order after.waiting) u ≡ has q u && not (eqb u t)
      member_then u = ap (λ (l : List ℕ). has l u) queue_left_then ∙ has_left q t u

      -- one that is not in the queue keeps what it has
      out : (u : ℕ) → has (queue_of after.order after.waiting) u ≡ false
          → between (turns_of ts.each t) after.waiting (place_in (queue_of after.order after.waiting) u)
          (turns_of next u)
          ≡ turns_of next u
      out u h =
          let e = place_absent (queue_of after.order after.waiting) u h in
          let l = queue_length after.order after.waiting in
          between_out _ _ _ _ (λ x y. omega arith)

      -- a waiter has its place: ahead of t as it was, and from there on written anew
      in_queue : (u : ℕ) → u < 16 → (u ≡ t → ⊥) → is_waiting (places_of ts.each u) ≡ true
          → between (turns_of ts.each t) after.waiting (place_in (queue_of after.order after.waiting) u)
          (turns_of next u)
          ≡ place_in (queue_of after.order after.waiting) u
      in_queue u h d w = go (dec_lt place_now (turns_of ts.each t))
        where
          place_now : ℕ
          place_now = place_in (queue_of after.order after.waiting) u

          kept : place_now < k → place_in q u ≡ place_now
          kept l =
              let e : place_now ≡ place_in (left q t) u = ap (λ (x : List ℕ). place_in x u) queue_left_then in
              sym (e ∙ place_kept q t u lined.once here d (omega arith))

          go : Dec (place_now < turns_of ts.each t)
              → between (turns_of ts.each t) after.waiting place_now (turns_of next u) ≡ place_now
          go (yes l) =
              between_out _ _ _ _ (λ x y. omega arith) ∙ (puts_other puts u h d).1 ∙ held u h
              ∙ turn_waits (places_of ts.each u) (place_in q u) w ∙ kept (let e = own_turn in omega arith)
          go (no l) =
              let b = place_below (queue_of after.order after.waiting) u
              (member_then u ∙ and (member u h ∙ w) (true_not (ne_eqb u t d))) in
              let e = queue_length after.order after.waiting in
              between_in _ _ _ _ (omega arith) (omega arith)

      left_turn : (u : ℕ) → u < 16
          → turns_of after.each u ≡ turn_at (places_of after.each u) (place_in (queue_of after.order after.waiting) u)
      left_turn u h = turns small once_then u h ∙ split_eq u t
          (λ e.
          let own = puts_own puts thread in
          out u (member_then u ∙ ap₂ (λ (x y : Bool). x && not y) (ap (has q) e ∙ here) (eq-eqb u t e))
          ∙ ap (turns_of next) e ∙ own.1
          ∙ sym (turn_none (places_of after.each u) _
          (ap is_waiting (places u h ∙ ap (places_of next) e ∙ own.0) ∙ goes_on)))
          (λ d.
          let x = puts_other puts u h d in
          let same : places_of after.each u ≡ places_of ts.each u = places u h ∙ x.0 in
          split (is_waiting (places_of ts.each u))
          (λ w. in_queue u h d w ∙ sym (turn_waits (places_of after.each u) _ (ap is_waiting same ∙ w)))
          (λ w. out u (member_then u ∙ ap (λ (b : Bool). b && not (eqb u t)) (member u h ∙ w)) ∙ x.1 ∙ held u h
          ∙ turn_none (places_of ts.each u) (place_in q u) w
          ∙ sym (turn_none (places_of after.each u) _ (ap is_waiting same ∙ w))))

      pub left_queued : Queued after
      unfolding machine.threads
      left_queued = record {
        once = once_then;
        waits = λ u h. member_then u ∙ split_eq u t
            (λ e. ap (λ (b : Bool). has q u && not b) (eq-eqb u t e) ∙ and-false (has q u)
            ∙ sym (ap is_waiting (places u h ∙ ap (places_of next) e ∙ (puts_own puts thread).0) ∙ goes_on))
            (λ d. ap (λ (b : Bool). has q u && not b) (ne_eqb u t d) ∙ and-true (has q u) ∙ member u h
            ∙ ap is_waiting (sym (places u h ∙ (puts_other puts u h d).0)));
      }

      pub left_turned : Turned after
      unfolding turn machine.threads
      left_turned = record { turns = left_turn }
