-- Who may resume, as the code finds it by the set of those ahead: a waiter's turn says where it stands in the queue, so who
-- stands ahead of it in its line, and it may resume exactly if none of those has a notice.
use Prim.Native.Nat.{ℕ, ◌%◌, ◌<◌}
use mathlib.Core.Path.{◌≡◌, refl, sym, ap, ap₂, ◌∙◌}
use mathlib.Core.Bool.{Bool, true, false, not, ◌&&◌, ◌||◌, false≢true}
use mathlib.Core.Logic.{⊎_elim}
use mathlib.Core.List.{List, [], ◌∷◌, ◌++◌}
use native.Mathlib.Omega.{arith}
use lib.Dec.{eqb}
use borrow.Author.Tests.{eqb-true}
use Rattle.sets.specs.Set.{member}
use Rattle.machine.specs.Monitor.{Place, idle, waiting, due, Monitor, on_guard, waits_on, line, threads, turn}
use Rattle.machine.specs.Monitor.{turn_at}
use Rattle.machine.specs.Queue.{has, those, place_in}
use Rattle.machine.specs.Decide.Step.{is_waiting, first_in}
use Rattle.machine.proofs.Queue.{has_those, first_iff, place_below}
use Rattle.logic.proofs.Bools.{split, clash, either, both, neither}
use Rattle.queue.specs.Packed.{queue_of, behind_of}
use Rattle.queue.proofs.Lists.{queue_below, queue_length, at_place}
use Rattle.threads.specs.declared.Threads as code
use Rattle.threads.specs.Held.{places_of, turns_of, threads_of, Turned, Queued}
use Rattle.waiters.proofs.Front.{line_at, not_before}
use Rattle.stepper.specs.Parts.{AheadOf}

-- one of those ahead is in the way
first_blocked : (xs ys : List ℕ) (n : ℕ → Bool) (u v : ℕ) → has xs u ≡ false → has xs v ≡ true → n v ≡ true
    → first_in (xs ++ (u ∷ ys)) n u ≡ false
unfolding first_in has
first_blocked [] ys n u v h k b = absurd (false≢true k)
first_blocked (x ∷ xs) ys n u v h k b =
    let d = neither (eqb x u) (has xs u) h in
    ap₂ (λ (p q : Bool). p || q) d.0 (split (n x)
    (λ e. ap (λ (p : Bool). not p && first_in (xs ++ (u ∷ ys)) n u) e)
    (λ e. ap (λ (p : Bool). not p && first_in (xs ++ (u ∷ ys)) n u) e
    ∙ first_blocked xs ys n u v d.1 (⊎_elim
    (λ q. clash (ap n (eqb-true x v q) ∙ b) e) (λ q. q) (either (eqb x v) (has xs v) k)) b))

-- ---- who may resume

module _ {line : List ℕ} {t set : ℕ} (a : AheadOf line t set) (n : ℕ → Bool) where
  -- none of those ahead has a notice
  pub first_free : ((u : ℕ) → u < 16 → member set u ≡ true → n u ≡ true → ⊥) → first_in line n t ≡ true
  first_free h = (first_iff line n t).1 (record {
    ahead = a.ahead;
    behind = a.behind;
    splits = a.splits;
    none_ahead = λ u k b. h u (a.below u k) (a.each u (a.below u k) ∙ k) b;
  })

  -- or one has
  pub first_taken : (u : ℕ) → u < 16 → member set u ≡ true → n u ≡ true → first_in line n t ≡ false
  first_taken u h k b =
      ap (λ (l : List ℕ). first_in l n t) a.splits
      ∙ first_blocked a.ahead a.behind n t u a.others (sym (a.each u h) ∙ k) b

-- ---- a waiter and those ahead of it, by its turn

module _ (m : Monitor) (ts : code.Threads) (queued : Queued ts) (turned : Turned ts) (t g : ℕ) (thread : t < 16)
    (waits : waits_on m (threads_of ts) g t ≡ true) where
  waiting_now : is_waiting (places_of ts.each t) ≡ true
  unfolding waits_on on_guard is_waiting
  waiting_now = go (places_of ts.each t) waits
    where
      go : (q : Place) → on_guard m g q ≡ true → is_waiting q ≡ true
      go idle e = e
      go (waiting w) e = refl
      go (due w) e = e

  in_queue : has (queue_of ts.order ts.waiting) t ≡ true
  unfolding threads
  in_queue = queued.waits t thread ∙ waiting_now

  own_turn : turns_of ts.each t ≡ place_in (queue_of ts.order ts.waiting) t
  unfolding turn turn_at threads is_waiting
  own_turn = turned.turns t thread ∙ go (places_of ts.each t) waiting_now
    where
      go : (q : Place) → is_waiting q ≡ true → turn_at q (place_in (queue_of ts.order ts.waiting) t)
          ≡ place_in (queue_of ts.order ts.waiting) t
      go idle e = absurd (false≢true e)
      go (waiting w) e = refl
      go (due w) e = absurd (false≢true e)

  turn_below : turns_of ts.each t < ts.waiting
  turn_below =
      let e = own_turn in
      let b = place_below (queue_of ts.order ts.waiting) t in_queue in
      let l = queue_length ts.order ts.waiting in omega arith

  here : t ≡ behind_of ts.order (turns_of ts.each t) % 16
  here = at_place ts.order ts.waiting (turns_of ts.each t) t turn_below queued.once (sym own_turn)

  pub ahead_of : (set : ℕ)
      → ((u : ℕ) → u < 16
      → member set u ≡ has (those (waits_on m (threads_of ts) g) (queue_of ts.order (turns_of ts.each t))) u)
      → AheadOf (line m (threads_of ts) g) t set
  unfolding line
  ahead_of set e =
      let f = waits_on m (threads_of ts) g in
      let k = turns_of ts.each t in
      let x = line_at ts.order ts.waiting k t turn_below here f waits in
      record {
        ahead = those f (queue_of ts.order k);
        behind = x.0;
        splits = x.1;
        others = has_those f (queue_of ts.order k) t
            ∙ ap (λ (b : Bool). b && f t)
            (not_before ts.order ts.waiting k t turn_below here queued.once);
        below = λ u h. queue_below ts.order k u
            (both (has (queue_of ts.order k) u) (f u) (sym (has_those f (queue_of ts.order k) u) ∙ h)).0;
        each = e;
      }
