-- Who stands at the front, as the code finds it along the queue: a waiter is next in line exactly if nobody before it waits on
-- its guard.
use Prim.Native.Nat.{ℕ, suc, ◌+◌, ◌-◌, ◌/◌, ◌%◌, ◌<◌}
use mathlib.Core.Path.{◌≡◌, refl, sym, subst, ap, ◌∙◌}
use mathlib.Core.Bool.{Bool, true, false, not, ◌&&◌, ◌||◌, or-false}
use mathlib.Core.List.{List, [], ◌∷◌, ◌++◌}
use native.Mathlib.Omega.{arith}
use lib.Dec.{eqb}
use borrow.Author.Tests.{eq-eqb, ne_eqb}
use Rattle.sets.specs.Set.{member}
use Rattle.machine.specs.Monitor.{Place, idle, waiting, due, Threads, on_guard, waits_on, line}
use Rattle.machine.specs.Queue.{has, those, joined}
use Rattle.machine.specs.Arrival.{Once}
use Rattle.machine.specs.Decide.Step.{is_waiting, at_front, next}
use Rattle.machine.proofs.Queue.{once_before, those_kept, those_append, those_dropped, has_those}
use Rattle.logic.proofs.Bools.{split, clash, neither, or_right}
use Rattle.queue.specs.Packed.{queue_of, behind_of}
use Rattle.queue.proofs.Lists.{queue_splits}
use Rattle.waiters.specs.Slices.{guard_at, guards_only}
use Rattle.waiters.specs.Told.{broadcast_at, on_one, told_behind, new_first}

-- ---- lists

unfoldable pub some : List ℕ → Bool
some [] = false
some (v ∷ vs) = true

some_append : (xs ys : List ℕ) → some (xs ++ ys) ≡ some xs || some ys
unfolding some
some_append [] ys = refl
some_append (x ∷ xs) ys = refl

front_splits : (xs ys : List ℕ) (u : ℕ) → has xs u ≡ false → at_front (xs ++ (u ∷ ys)) u ≡ not (some xs)
unfolding at_front has some
front_splits [] ys u h = eq-eqb u u refl
front_splits (x ∷ xs) ys u h = (neither (eqb x u) (has xs u) h).0

-- ---- the thread at a place of the queue

module _ (o n k u : ℕ) (below : k < n) (here : u ≡ behind_of o k % 16) where
  queue_at : (rest : List ℕ) × (queue_of o n ≡ queue_of o k ++ (u ∷ rest))
  unfolding queue_of
  queue_at =
      let e : n ≡ k + (1 + (n - k - 1)) = omega arith in (
        queue_of (behind_of o k / 16) (n - k - 1),
        ap (queue_of o) e ∙ queue_splits o k (1 + (n - k - 1))
            ∙ ap (λ (l : List ℕ). queue_of o k ++ l) (first_of (behind_of o k) (n - k - 1))
            ∙ ap (λ (x : ℕ). queue_of o k ++ (x ∷ queue_of (behind_of o k / 16) (n - k - 1))) (sym here),
      )
    where
      first_of : (x j : ℕ) → queue_of x (1 + j) ≡ x % 16 ∷ queue_of (x / 16) j
      first_of x j = let e : 1 + j ≡ suc j = omega arith in ap (queue_of x) e

  -- cut down by a test that it passes
  pub line_at : (f : ℕ → Bool) → f u ≡ true
      → (rest : List ℕ) × (those f (queue_of o n) ≡ those f (queue_of o k) ++ (u ∷ rest))
  line_at f e =
      let x = queue_at in (
        those f x.0,
        ap (those f) x.1 ∙ those_append f (queue_of o k) (u ∷ x.0)
            ∙ ap (λ (l : List ℕ). those f (queue_of o k) ++ l) (those_kept f u x.0 e),
      )

  pub not_before : Once (queue_of o n) → has (queue_of o k) u ≡ false
  not_before once = let x = queue_at in once_before (queue_of o k) x.0 u (subst Once x.1 once)

-- those seen so far who pass a test, and one more
pub seen_more : (f : ℕ → Bool) (seen : List ℕ) (u : ℕ) → some (those f (joined seen u)) ≡ f u || some (those f seen)
unfolding joined some those
seen_more f seen u =
    ap some (those_append f seen (u ∷ [])) ∙ some_append (those f seen) (those f (u ∷ []))
    ∙ split (f u)
    (λ e. ap (λ (l : List ℕ). some (those f seen) || some l) (those_kept f u [] e) ∙ or_right (some (those f seen)) true refl
    ∙ sym (ap (λ (b : Bool). b || some (those f seen)) e))
    (λ e. ap (λ (l : List ℕ). some (those f seen) || some l) (those_dropped f u [] e) ∙ or-false (some (those f seen))
    ∙ sym (ap (λ (b : Bool). b || some (those f seen)) e))

-- ---- the first that is met

-- thread u stands at place k of the queue, and `met` has the guards, of those asked about, on which one before it waits
module _ (gs es : List ℕ) (asked : ℕ → Bool) (r met : ℕ) (p : Threads) (o n k u : ℕ) (below : k < n)
    (here : u ≡ behind_of o k % 16) (queue : p.queue ≡ queue_of o n) (once : Once (queue_of o n))
    (met_before : (g : ℕ) → asked g ≡ true → member met g ≡ some (those (waits_on (guards_only gs) p g) (queue_of o k))) where
  next_met : (g : ℕ) → asked g ≡ true → waits_on (guards_only gs) p g u ≡ true
      → not (member met g) ≡ next (guards_only gs) p g u
  unfolding next line
  next_met g a w =
      let f = waits_on (guards_only gs) p g in
      let x = line_at o n k u below here f w in
      ap not (met_before g a)
      ∙ sym (ap (λ (l : List ℕ). at_front (those f l) u) queue ∙ ap (λ (l : List ℕ). at_front l u) x.1
      ∙ front_splits (those f (queue_of o k)) x.0 u
      (has_those f (queue_of o k) u ∙ ap (λ (b : Bool). b && f u) (not_before o n k u below here once)))

  told_at : (q : Place) → p.place u ≡ q
      → on_one gs asked q && told_behind gs es r met q ≡ new_first gs es asked p r u q
  unfolding on_one told_behind new_first waits_on on_guard
  told_at idle e = refl
  told_at (waiting w) e = split (asked (guard_at gs w))
      (λ a.
      let g = guard_at gs w in
      ap (λ (b : Bool). asked g && (broadcast_at es r g || b))
      (next_met g a (ap (on_guard (guards_only gs) g) e ∙ eq-eqb g g refl)))
      (λ a.
      let g = guard_at gs w in
      ap (λ (b : Bool). b && (broadcast_at es r g || not (member met g))) a
      ∙ sym (ap (λ (b : Bool). b && (broadcast_at es r g || next (guards_only gs) p g u)) a))
  told_at (due w) e = refl

  pub told_met : on_one gs asked (p.place u) && told_behind gs es r met (p.place u) ≡ new_first gs es asked p r u (p.place u)
  told_met = told_at (p.place u) refl

-- a guard that is asked about is not that of a place which waits on none of these
pub other_guard : (gs : List ℕ) (asked : ℕ → Bool) (g : ℕ) (q : Place) → asked g ≡ true → on_one gs asked q ≡ false
    → on_guard (guards_only gs) g q ≡ false
unfolding on_one on_guard
other_guard gs asked g idle a e = refl
other_guard gs asked g (waiting w) a e =
    ne_eqb (guard_at gs w) g (λ q. clash a (ap asked (sym q) ∙ e))
other_guard gs asked g (due w) a e = refl

-- of no guards none is one
pub none_on : (gs es : List ℕ) (asked : ℕ → Bool) (p : Threads) (r u : ℕ) (q : Place) → ((g : ℕ) → asked g ≡ false)
    → (on_one gs asked q ≡ false) × (new_first gs es asked p r u q ≡ false)
unfolding on_one new_first
none_on gs es asked p r u idle e = (refl, refl)
none_on gs es asked p r u (waiting w) e = (
  e (guard_at gs w),
  ap (λ (b : Bool). b && (broadcast_at es r (guard_at gs w) || next (guards_only gs) p (guard_at gs w) u))
      (e (guard_at gs w)),
)
none_on gs es asked p r u (due w) e = (refl, refl)

-- who waits on one of some guards waits
pub on_one_waits : (gs : List ℕ) (asked : ℕ → Bool) (q : Place) → on_one gs asked q ≡ true → is_waiting q ≡ true
unfolding on_one is_waiting
on_one_waits gs asked idle e = e
on_one_waits gs asked (waiting w) e = refl
on_one_waits gs asked (due w) e = e

pub new_first_waits : (gs es : List ℕ) (asked : ℕ → Bool) (p : Threads) (r u : ℕ) (q : Place)
    → new_first gs es asked p r u q ≡ true → is_waiting q ≡ true
unfolding new_first is_waiting
new_first_waits gs es asked p r u idle e = e
new_first_waits gs es asked p r u (waiting w) e = refl
new_first_waits gs es asked p r u (due w) e = e
