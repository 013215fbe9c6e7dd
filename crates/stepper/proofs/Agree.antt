-- Two monitors that agree where threads wait, with threads alike on all sixteen, have the same lines, answer alike and notify
-- alike; and where the guards made true are the same, the code's notices are those of the machine that is held.
use Prim.Native.Nat.{ℕ, zero, suc, ◌%◌, ◌<◌}
use mathlib.Core.Path.{◌≡◌, refl, sym, ap, ap₂, ◌∙◌}
use mathlib.Core.Bool.{Bool, true, false, not, ◌&&◌, ◌||◌}
use mathlib.Core.List.{List, [], ◌∷◌}
use lib.Dec.{eqb}
use lib.ListN.{get_or}
use Rattle.machine.specs.Monitor.{Place, idle, waiting, due, Threads, SameThreads, Monitor, threads, on_guard, waits_on}
use Rattle.machine.specs.Monitor.{line}
use Rattle.machine.specs.Queue.{has, those}
use Rattle.machine.specs.Held.{follows_by}
use Rattle.machine.specs.Decide.Step.{is_waiting, at_front, first_in, next, first_notified}
use Rattle.machine.proofs.Queue.{those_same, has_those}
use Rattle.machine.proofs.Newly.{becomes, newly_on, newly_by}
use Rattle.logic.proofs.Bools.{both, or_left, or_right}
use borrow.Author.Tests.{eq-eqb}
use Rattle.waiters.specs.Slices.{guard_at, guards_only, follows_at}
use Rattle.waiters.specs.Told.{broadcast_at, on_one, new_first}
use Rattle.stepper.specs.Slices.{newly_in}

-- a body leaves its thread due or idle
pub goes_on : (os : List ℕ) (r : ℕ) → is_waiting (follows_at os r) ≡ false
unfolding follows_at follows_by is_waiting
goes_on os r = go (get_or os (r % 16) 0)
  where
    go : (n : ℕ) → is_waiting (follows_by (r % 16) n) ≡ false
    go zero = refl
    go (suc n) = refl

first_alike : (l : List ℕ) (n' n : ℕ → Bool) (t : ℕ) → ((u : ℕ) → has l u ≡ true → n' u ≡ n u)
    → first_in l n' t ≡ first_in l n t
unfolding first_in has
first_alike [] n' n t e = refl
first_alike (v ∷ vs) n' n t e =
    ap₂ (λ (x y : Bool). eqb v t || (not x && y)) (e v (or_left (eqb v v) (has vs v) (eq-eqb v v refl)))
    (first_alike vs n' n t (λ u h. e u (or_right (eqb v u) (has vs u) h)))

module _ (m' m : Monitor) where
  on_same :
      (g : ℕ) (q : Place) → ((w : ℕ) → q ≡ waiting w → m'.guard_of w ≡ m.guard_of w) → on_guard m' g q ≡ on_guard m g q
  unfolding on_guard
  on_same g idle e = refl
  on_same g (waiting w) e = ap (λ (k : ℕ). eqb k g) (e w refl)
  on_same g (due w) e = refl

module _ (m' m : Monitor) (p' p : Threads) (same : SameThreads p' p)
    (below : (u : ℕ) → has p.queue u ≡ true → u < 16)
    (guards : (u w : ℕ) → u < 16 → p.place u ≡ waiting w → m'.guard_of w ≡ m.guard_of w) where
  waits_same : (g u : ℕ) → u < 16 → waits_on m' p' g u ≡ waits_on m p g u
  unfolding waits_on threads
  waits_same g u h = ap (on_guard m' g) (same.same_place u h) ∙ on_same m' m g (p.place u) (λ w e. guards u w h e)

  pub line_same : (g : ℕ) → line m' p' g ≡ line m p g
  unfolding line
  line_same g =
      ap (those (waits_on m' p' g)) same.same_queue
      ∙ those_same (waits_on m' p' g) (waits_on m p g) p.queue (λ u h. waits_same g u (below u h))

  pub next_same : (g u : ℕ) → next m' p' g u ≡ next m p g u
  unfolding next
  next_same g u = ap (λ (l : List ℕ). at_front l u) (line_same g)

  pub first_same :
      (n' n : ℕ → Bool) → ((u : ℕ) → u < 16 → n' u ≡ n u) → (g t : ℕ)
      → first_notified m' p' n' g t ≡ first_notified m p n g t
  unfolding first_notified line
  first_same n' n e g t =
      ap (λ (l : List ℕ). first_in l n' t) (line_same g)
      ∙ first_alike (those (waits_on m p g) p.queue) n' n t
      (λ u h. e u (below u (both (has p.queue u) (waits_on m p g u)
      (sym (has_those (waits_on m p g) p.queue u) ∙ h)).0))

-- whom a body notifies anew asks of the guards and of the threads alone

first_by : (gs es : List ℕ) (f f' : ℕ → Bool) (p p' : Threads) (r u : ℕ) → ((g : ℕ) → f g ≡ f' g)
    → ((g : ℕ) → next (guards_only gs) p g u ≡ next (guards_only gs) p' g u) → (q : Place)
    → new_first gs es f p r u q ≡ new_first gs es f' p' r u q
unfolding new_first
first_by gs es f f' p p' r u e d idle = refl
first_by gs es f f' p p' r u e d (waiting w) =
    ap₂ (λ (x y : Bool). x && (broadcast_at es r (guard_at gs w) || y)) (e (guard_at gs w)) (d (guard_at gs w))
first_by gs es f f' p p' r u e d (due w) = refl

on_by : (gs : List ℕ) (f f' : ℕ → Bool) → ((g : ℕ) → f g ≡ f' g) → (q : Place) → on_one gs f q ≡ on_one gs f' q
unfolding on_one
on_by gs f f' e idle = refl
on_by gs f f' e (waiting w) = e (guard_at gs w)
on_by gs f f' e (due w) = refl

pub newly_alike : (gs es : List ℕ) (f f' : ℕ → Bool) → ((g : ℕ) → f g ≡ f' g) → (p p' : Threads) → SameThreads p p'
    → ((u : ℕ) → has p'.queue u ≡ true → u < 16)
    → (w : Bool) (r u : ℕ) → u < 16 → newly_in gs es f w p r u ≡ newly_in gs es f' w p' r u
unfolding newly_in threads
newly_alike gs es f f' e p p' same below true r u h =
    ap (new_first gs es f p r u) (same.same_place u h)
    ∙ first_by gs es f f' p p' r u e
    (λ g. next_same (guards_only gs) (guards_only gs) p p' same below (λ v w l q. refl) g u) (p'.place u)
newly_alike gs es f f' e p p' same below false r u h =
    ap (on_one gs f) (same.same_place u h) ∙ on_by gs f f' e (p'.place u)

-- and, by the slices, it is what the machine that they hold notifies anew
module _ (m : Monitor) (gs es : List ℕ) (f : ℕ → Bool) (s s' r : ℕ) (p : Threads)
    (guards : (u w : ℕ) → u < 16 → p.place u ≡ waiting w → guard_at gs w ≡ m.guard_of w)
    (made : (u w : ℕ) → u < 16 → p.place u ≡ waiting w → f (m.guard_of w) ≡ becomes m s s' (m.guard_of w)) where
  pub on_held : (u : ℕ) → u < 16 → on_one gs f (p.place u) ≡ newly_on m s s' (p.place u)
  unfolding on_one newly_on
  on_held u h = go (p.place u) refl
    where
      go : (q : Place) → p.place u ≡ q → on_one gs f q ≡ newly_on m s s' q
      go idle e = refl
      go (waiting w) e = ap f (guards u w h e) ∙ made u w h e
      go (due w) e = refl

  pub first_held : (bc : ℕ → Bool) → ((g u : ℕ) → next (guards_only gs) p g u ≡ next m p g u)
      → ((u w : ℕ) → u < 16 → p.place u ≡ waiting w → becomes m s s' (m.guard_of w) ≡ true
      → broadcast_at es r (m.guard_of w) ≡ bc (m.guard_of w))
      → (u : ℕ) → u < 16 → new_first gs es f p r u (p.place u) ≡ newly_by m bc s s' p u (p.place u)
  unfolding new_first newly_by
  first_held bc fronts kind u h = go (p.place u) refl
    where
      now : (g : ℕ) (b : Bool) → becomes m s s' g ≡ b → (b ≡ true → broadcast_at es r g ≡ bc g)
          → b && (broadcast_at es r g || next (guards_only gs) p g u) ≡ b && (bc g || next m p g u)
      now g true e k = ap₂ (λ (x y : Bool). x || y) (k refl) (fronts g u)
      now g false e k = refl

      go : (q : Place) → p.place u ≡ q → new_first gs es f p r u q ≡ newly_by m bc s s' p u q
      go idle e = refl
      go (waiting w) e =
          ap (λ (g : ℕ). f g && (broadcast_at es r g || next (guards_only gs) p g u)) (guards u w h e)
          ∙ ap (λ (b : Bool). b && (broadcast_at es r (m.guard_of w) || next (guards_only gs) p (m.guard_of w) u)) (made u w h e)
          ∙ now (m.guard_of w) (becomes m s s' (m.guard_of w)) refl (kind u w h e)
      go (due w) e = refl
