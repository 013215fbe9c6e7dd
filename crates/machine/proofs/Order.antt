-- The two changes of threads, `begin_wait` and `leave`: what each makes of the places, of the queue and of the line on a
-- guard, and that the tests `waits_on`, `next` and `first_notified` decide what `Rules` says.
use Prim.Native.Nat.{ℕ, ◌<◌}
use mathlib.Core.Path.{◌≡◌, refl, sym, ap, ap₂, ◌∙◌, fun_ext}
use mathlib.Core.Bool.{Bool, true, false, not, false≢true, true≢false}
use mathlib.Core.Logic.{◌↔◌}
use mathlib.Core.List.{List, [], ◌∷◌, ◌++◌, append-nil}
use lib.Dec.{eqb}
use borrow.Author.Tests.{eqb-true, eq-eqb, ne_eqb}
use Rattle.machine.specs.Monitor.{Place, idle, waiting, due, Threads, SameThreads, Monitor, on_guard, waits_on}
use Rattle.machine.specs.Monitor.{line, threads, turn, turn_at}
use Rattle.machine.specs.Queue.{has, those, joined, left, place_in}
use Rattle.machine.specs.Decide.Step.{is_waiting, begin_wait, leave, next, first_notified}
use Rattle.machine.specs.Rules.{Waits, Front, First, Moved}
use Rattle.logic.proofs.Bools.{split_eq, clash, both, true_not}
use Rattle.machine.proofs.Places.{put_same, put_other}
use Rattle.machine.proofs.Queue.{those_kept, those_dropped, those_append, those_same, those_swap, those_within}
use Rattle.machine.proofs.Queue.{has_those, front_iff, front_has, first_iff}

pub same_refl : {p : Threads} → SameThreads p p
same_refl = record { same_place = λ u h. refl; same_queue = refl }

pub same_trans : {p q r : Threads} → SameThreads p q → SameThreads q r → SameThreads p r
same_trans a b = record {
  same_place = λ u h. a.same_place u h ∙ b.same_place u h;
  same_queue = a.same_queue ∙ b.same_queue;
}

pub same_turn : {p p' : Threads} → SameThreads p p' → (u : ℕ) → u < threads → turn p u ≡ turn p' u
unfolding turn
same_turn same u h =
    ap₂ (λ (q : Place) (l : List ℕ). turn_at q (place_in l u)) (same.same_place u h) same.same_queue

-- The two changes of places

pub began_own : (p : Threads) (t r : ℕ) → (begin_wait p t r).place t ≡ waiting r
unfolding begin_wait
began_own p t r = put_same p.place t (waiting r)

pub began_other : (p : Threads) (t r u : ℕ) → (u ≡ t → ⊥) → (begin_wait p t r).place u ≡ p.place u
unfolding begin_wait
began_other p t r = put_other p.place t (waiting r)

pub left_own : (p : Threads) (t : ℕ) (q : Place) → (leave p t q).place t ≡ q
unfolding leave
left_own p = put_same p.place

pub left_other : (p : Threads) (t : ℕ) (q : Place) (u : ℕ) → (u ≡ t → ⊥) → (leave p t q).place u ≡ p.place u
unfolding leave
left_other p = put_other p.place

module _ (m : Monitor) where
  pub began_moved : (p : Threads) (t r : ℕ) → Moved m p (begin_wait p t r) t (waiting r) (joined p.queue t)
  unfolding begin_wait
  began_moved p t r = record { own_place = began_own p t r; others = began_other p t r; then_queue = refl }

  pub left_moved : (p : Threads) (t : ℕ) (q : Place) → Moved m p (leave p t q) t q (left p.queue t)
  unfolding leave
  left_moved p t q = record { own_place = left_own p t q; others = left_other p t q; then_queue = refl }

  -- what a rule says of the threads leaves one choice
  pub moved_one :
      {p p₁ p₂ : Threads} {t : ℕ} {q : Place} {l : List ℕ} → Moved m p p₁ t q l → Moved m p p₂ t q l → p₁ ≡ p₂
  moved_one {p} {p₁} {p₂} {t} {q} a b =
      λ i. record { place = fun_ext places i; queue = (a.then_queue ∙ sym b.then_queue) i }
    where
      places : (u : ℕ) → p₁.place u ≡ p₂.place u
      places u = split_eq u t
          (λ z. ap p₁.place z ∙ a.own_place ∙ sym b.own_place ∙ ap p₂.place (sym z))
          (λ z. a.others u z ∙ sym (b.others u z))

  -- and what is alike stays alike
  moved_same :
      {p p' p₁ p₁' : Threads} {t : ℕ} {q : Place} {l l' : List ℕ} → SameThreads p p' → Moved m p p₁ t q l
      → Moved m p' p₁' t q l' → l ≡ l' → SameThreads p₁ p₁'
  moved_same {p} {p'} {p₁} {p₁'} {t} {q} same a b e = record {
    same_place = λ u h. split_eq u t
        (λ z. ap p₁.place z ∙ a.own_place ∙ sym b.own_place ∙ ap p₁'.place (sym z))
        (λ z. a.others u z ∙ same.same_place u h ∙ sym (b.others u z));
    same_queue = a.then_queue ∙ e ∙ sym b.then_queue;
  }

  pub began_same : {p p' : Threads} → SameThreads p p' → (t r : ℕ) → SameThreads (begin_wait p t r) (begin_wait p' t r)
  began_same {p} {p'} same t r = moved_same same (began_moved p t r) (began_moved p' t r)
      (ap (λ (q : List ℕ). joined q t) same.same_queue)

  pub left_same : {p p' : Threads} → SameThreads p p' → (t : ℕ) (q : Place) → SameThreads (leave p t q) (leave p' t q)
  left_same {p} {p'} same t q = moved_same same (left_moved p t q) (left_moved p' t q)
      (ap (λ (l : List ℕ). left l t) same.same_queue)

-- Waiting

pub waiting_iff : (q : Place) → (is_waiting q ≡ true) ↔ ((w : ℕ) × (q ≡ waiting w))
unfolding is_waiting
waiting_iff idle = (λ h. absurd (false≢true h), λ w. ap is_waiting w.1)
waiting_iff (waiting w) = (λ h. (w, refl), λ h. refl)
waiting_iff (due w) = (λ h. absurd (false≢true h), λ w. ap is_waiting w.1)

module _ (m : Monitor) where
  pub waits_iff : (p : Threads) (g u : ℕ) → (waits_on m p g u ≡ true) ↔ Waits m p g u
  unfolding waits_on on_guard Waits
  waits_iff p g u = (to (p.place u) refl, λ w. ap (on_guard m g) w.1 ∙ eq-eqb (m.guard_of w.0) g w.2)
    where
      to : (q : Place) → p.place u ≡ q → on_guard m g q ≡ true → (w : ℕ) × (p.place u ≡ waiting w) × (m.guard_of w ≡ g)
      to idle z h = absurd (false≢true h)
      to (waiting w) z h = (w, z, eqb-true (m.guard_of w) g h)
      to (due w) z h = absurd (false≢true h)

  -- who waits, before and after
  pub began_waits : (p : Threads) (t r g u : ℕ) → (u ≡ t → ⊥) → waits_on m (begin_wait p t r) g u ≡ waits_on m p g u
  unfolding waits_on
  began_waits p t r g u h = ap (on_guard m g) (began_other p t r u h)

  pub began_waits_own : (p : Threads) (t r g : ℕ) → waits_on m (begin_wait p t r) g t ≡ eqb (m.guard_of r) g
  unfolding waits_on on_guard
  began_waits_own p t r g = ap (on_guard m g) (began_own p t r)

  pub left_waits : (p : Threads) (t : ℕ) (q : Place) (g u : ℕ) → (u ≡ t → ⊥)
      → waits_on m (leave p t q) g u ≡ waits_on m p g u
  unfolding waits_on
  left_waits p t q g u h = ap (on_guard m g) (left_other p t q u h)

  pub idle_or_due : (p : Threads) (g u : ℕ) → is_waiting (p.place u) ≡ false → waits_on m p g u ≡ false
  unfolding waits_on is_waiting on_guard
  idle_or_due p g u e = go (p.place u) e
    where
      go : (q : Place) → is_waiting q ≡ false → on_guard m g q ≡ false
      go idle e = refl
      go (waiting w) e = absurd (true≢false e)
      go (due w) e = refl

  -- The line on a guard, before and after

  -- a thread that begins to wait on another guard
  pub began_line : (p : Threads) (t r g : ℕ) → is_waiting (p.place t) ≡ false → (m.guard_of r ≡ g → ⊥)
      → line m (begin_wait p t r) g ≡ line m p g
  unfolding line begin_wait joined those
  began_line p t r g i h =
      those_append (waits_on m p' g) p.queue (t ∷ [])
      ∙ ap₂ (λ (x y : List ℕ). x ++ y)
      (those_same (waits_on m p' g) (waits_on m p g) p.queue (λ u _. same u))
      (those_dropped (waits_on m p' g) t [] own)
      ∙ append-nil (those (waits_on m p g) p.queue)
    where
      p' : Threads
      p' = begin_wait p t r

      own : waits_on m p' g t ≡ false
      own = began_waits_own p t r g ∙ ne_eqb (m.guard_of r) g h

      same : (u : ℕ) → waits_on m p' g u ≡ waits_on m p g u
      same u = split_eq u t
          (λ z. ap (waits_on m p' g) z ∙ own ∙ sym (idle_or_due p g t i) ∙ ap (waits_on m p g) (sym z))
          (began_waits p t r g u)

  -- on this guard, of a thread that is not in the queue
  pub began_line_own : (p : Threads) (t r : ℕ) → has p.queue t ≡ false
      → line m (begin_wait p t r) (m.guard_of r) ≡ joined (line m p (m.guard_of r)) t
  unfolding line begin_wait joined those
  began_line_own p t r h =
      those_append (waits_on m p' g) p.queue (t ∷ [])
      ∙ ap₂ (λ (x y : List ℕ). x ++ y)
      (those_same (waits_on m p' g) (waits_on m p g) p.queue
      (λ u k. began_waits p t r g u (λ z. clash (ap (has p.queue) (sym z) ∙ k) h)))
      (those_kept (waits_on m p' g) t [] (began_waits_own p t r g ∙ eq-eqb g g refl))
    where
      g : ℕ
      g = m.guard_of r

      p' : Threads
      p' = begin_wait p t r

  -- one that goes on to a place where it does not wait is taken out
  pub left_line : (p : Threads) (t : ℕ) (q : Place) (g : ℕ) → line m (leave p t q) g ≡ left (line m p g) t
  unfolding line leave left
  left_line p t q g =
      those_same (waits_on m p' g) (waits_on m p g) (left p.queue t) same
      ∙ those_swap (waits_on m p g) (λ u. not (eqb u t)) p.queue
    where
      p' : Threads
      p' = leave p t q

      same : (u : ℕ) → has (left p.queue t) u ≡ true → waits_on m p' g u ≡ waits_on m p g u
      same u h = left_waits p t q g u (λ z.
          clash (both (has p.queue u) (not (eqb u t)) (sym (has_those (λ v. not (eqb v t)) p.queue u) ∙ h)).1
          (ap not (eq-eqb u t z)))

  -- and where it did not wait on the guard the line is as it was
  pub left_line_other : (p : Threads) (t : ℕ) (q : Place) (g : ℕ) → waits_on m p g t ≡ false
      → line m (leave p t q) g ≡ line m p g
  unfolding line left
  left_line_other p t q g h = left_line p t q g ∙ not_in
    where
      not_in : left (line m p g) t ≡ line m p g
      not_in =
          those_swap (λ u. not (eqb u t)) (waits_on m p g) p.queue
          ∙ those_within (waits_on m p g) (λ u. not (eqb u t)) p.queue
          (λ u k. true_not (ne_eqb u t (λ z. clash k (ap (waits_on m p g) z ∙ h))))

  -- a member of the line waits on the guard
  pub line_waits : (p : Threads) (g u : ℕ) → has (line m p g) u ≡ true → waits_on m p g u ≡ true
  unfolding line
  line_waits p g u h = (both (has p.queue u) (waits_on m p g u) (sym (has_those (waits_on m p g) p.queue u) ∙ h)).1

  pub front_waits : (p : Threads) (g u : ℕ) → Front (line m p g) u → Waits m p g u
  front_waits p g u x = (waits_iff p g u).0 (line_waits p g u (front_has (line m p g) u x))

  pub next_iff : (p : Threads) (g u : ℕ) → (next m p g u ≡ true) ↔ Front (line m p g) u
  unfolding next
  next_iff p g u = front_iff (line m p g) u

  pub first_notified_iff :
      (p : Threads) (n : ℕ → Bool) (g t : ℕ) → (first_notified m p n g t ≡ true) ↔ First (line m p g) n t
  unfolding first_notified
  first_notified_iff p n g t = first_iff (line m p g) n t
