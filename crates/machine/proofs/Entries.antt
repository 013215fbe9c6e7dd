-- The table's entries are those of Algorithm 1: each entry stands, is unconditional and is a signal exactly where the
-- algorithm's triples say so, over every state that meets the kept condition. By the laws of `any` over state numbers.
use Prim.Native.Nat.{ℕ, ◌<◌}
use native.Mathlib.Omega.{arith}
use mathlib.Core.Path.{◌≡◌, sym, ap, ◌∙◌}
use mathlib.Core.Bool.{Bool, true, false, not, ◌&&◌, and-eq-true_iff, ◌||◌}
use mathlib.Core.Logic.Iff
use mathlib.Core.Logic.{◌↔◌, ⊎_elim}
use lib.Dec.{eqb}
use borrow.Author.Tests.{not-true}
use Rattle.machine.specs.Monitor.{Monitor}
use Rattle.machine.specs.Algorithm1.{none, entry}
use Rattle.machine.specs.Decide.Table.{runs, some_move, every_move, stands, unconditional, broadcast, entry_of}
use Rattle.logic.proofs.Bools.{split, clash, is_false, either, or_left, or_right, decides_and, decides_not, decides_eqb}
use Rattle.logic.proofs.Any.{any_iff}
use Rattle.machine.specs.Algorithm1.{Fails, Holds, MayRun, Signals, Stands, Triple}

module _ (m : Monitor) where
  module _ (below : (s : ℕ) → m.kept s ≡ true → s < m.states) where
    runs_iff : (r s : ℕ) → (runs m r s ≡ true) ↔ MayRun m r s
    unfolding runs Holds
    runs_iff r s =
        Iff.trans (and-eq-true_iff (m.kept s) (m.holds (m.guard_of r) s))
        (λ h. record { is_kept = h.0; guard = h.1 }, λ h. (h.is_kept, h.guard))

    -- some move of region r, from s to s', of those that a test tells
    module _ (r : ℕ) (test : ℕ → ℕ → Bool) {P : ℕ → Type 0} (tells : (s : ℕ) → (test s (m.after r s) ≡ true) ↔ P s)
      where
        some_move_iff : (some_move m r test ≡ true) ↔ ((s : ℕ) × MayRun m r s × P s)
        unfolding some_move
        some_move_iff =
            Iff.trans
            (any_iff m.states (λ s. runs m r s && test s (m.after r s))
            (λ s. decides_and (runs m r s) (test s (m.after r s)) (runs_iff r s) (tells s)))
            (λ x. (x.0, x.2.0, x.2.1), λ x. (x.0, below x.0 x.1.is_kept, (x.1, x.2)))

    every_move_iff : (r : ℕ) (test : ℕ → ℕ → Bool)
        → (every_move m r test ≡ true) ↔ ((s : ℕ) → MayRun m r s → test s (m.after r s) ≡ true)
    unfolding every_move
    every_move_iff r test =
        Iff.trans (decides_not (some_move m r (λ s s'. not (test s s')))
        (some_move_iff r (λ s s'. not (test s s')) (λ s. decides_not (test s (m.after r s)) Iff.rfl))) (
          λ h s x. split (test s (m.after r s)) (λ q. q) (λ q. absurd (h (s, x, λ k. clash k q))),
          λ h x. x.2 (h x.0 x.1),
        )

    stands_iff : (r g : ℕ) → (stands m r g ≡ true) ↔ Stands m r g
    unfolding stands Holds Fails
    stands_iff r g =
        Iff.trans
        (some_move_iff r (λ s s'. not (m.holds g s) && m.holds g s')
        (λ s. decides_and (not (m.holds g s)) (m.holds g (m.after r s)) (not-true (m.holds g s), ap not) Iff.rfl)) (
          λ x. record { from = x.0; may_run = x.1; before = x.2.0; after = x.2.1 },
          λ x. (x.from, x.may_run, (x.before, x.after)),
        )

    unconditional_iff : (r g : ℕ) → (unconditional m r g ≡ true) ↔ Triple m r (Fails m g) (Holds m g)
    unfolding unconditional Triple Holds Fails
    unconditional_iff r g =
        Iff.trans (every_move_iff r (λ s s'. m.holds g s || m.holds g s')) (
          λ h s x k. ⊎_elim (λ y. clash y k) (λ y. y) (either (m.holds g s) (m.holds g (m.after r s)) (h s x)),
          λ h s x. split (m.holds g s) (or_left (m.holds g s) (m.holds g (m.after r s)))
              (λ q. or_right (m.holds g s) (m.holds g (m.after r s)) (h s x q)),
        )

    broadcast_iff : (g : ℕ)
        → (broadcast m g ≡ true)
        ↔ ((w : ℕ) × (w < m.regions) × ((m.guard_of w ≡ g) × ((s : ℕ) × MayRun m w s × Holds m g (m.after w s))))
    unfolding broadcast Holds
    broadcast_iff g =
        any_iff m.regions (λ w. eqb (m.guard_of w) g && some_move m w (λ s s'. m.holds g s'))
        (λ w. decides_and (eqb (m.guard_of w) g) (some_move m w (λ s s'. m.holds g s')) (decides_eqb (m.guard_of w) g)
        (some_move_iff w (λ s s'. m.holds g s') (λ s. Iff.rfl)))

    pub signal_iff : (g : ℕ) → (broadcast m g ≡ false) ↔ Signals m g
    unfolding Signals Triple Holds Fails
    signal_iff g = (
      λ h w l e s x k. is_false (λ q. clash ((broadcast_iff g).1 (w, l, (e, (s, x, q)))) h),
      λ h. is_false (λ q.
          let x = (broadcast_iff g).0 q in
          let y = x.2.1 in
          clash y.2 (h x.0 x.1 x.2.0 y.0 y.1 (ap (λ (k : ℕ). m.holds k y.0) (sym x.2.0)
          ∙ y.1.guard))),
    )

    -- The entry of region r and guard g

    pub entry_where : (r g : ℕ) → Stands m r g → entry_of m r g ≡ entry (unconditional m r g) (broadcast m g)
    unfolding entry_of
    entry_where r g h = rw ((stands_iff r g).1 h, entry_of)

    none_where : (r g : ℕ) → (Stands m r g → ⊥) → entry_of m r g ≡ none
    unfolding entry_of
    none_where r g h = let e : stands m r g ≡ false = is_false (λ q. h ((stands_iff r g).0 q)) in rw (e, entry_of)

    stands_where : (r g : ℕ) (a b : Bool) → entry_of m r g ≡ entry a b → Stands m r g
    stands_where r g a b e = split (stands m r g) (stands_iff r g).0 (λ q.
        let z : ◌≡◌ {A = ℕ} 0 1 = cc (none_where r g (λ h. clash ((stands_iff r g).1 h) q)) in absurd (omega arith))

    pub entry_stands : (r g : ℕ) → ((a b : Bool) × (entry_of m r g ≡ entry a b)) ↔ Stands m r g
    entry_stands r g =
        (λ x. stands_where r g x.0 x.1 x.2, λ h. (unconditional m r g, broadcast m g, entry_where r g h))

    pub entry_none : (r g : ℕ) → (entry_of m r g ≡ none) ↔ Triple m r (Fails m g) (Fails m g)
    unfolding Triple Holds Fails
    entry_none r g = (
      λ e s x k. is_false (λ q.
          let h : Stands m r g = record { from = s; may_run = x; before = k; after = q } in
          let z : ◌≡◌ {A = ℕ} 0 1 = cc (entry_where r g h) in absurd (omega arith)),
      λ h. none_where r g (λ x. clash x.after (h x.from x.may_run x.before)),
    )

    -- a region has none for its own guard, which holds wherever its body may run
    pub own_none : (r : ℕ) → entry_of m r (m.guard_of r) ≡ none
    unfolding Triple Holds Fails
    own_none r = (entry_none r (m.guard_of r)).1 (λ s x k. clash x.guard k)

    pub entry_parts : (r g : ℕ) (a b : Bool) → entry_of m r g ≡ entry a b → (a ≡ unconditional m r g) × (b ≡ broadcast m g)
    entry_parts r g a b e = let k = entry_where r g (stands_where r g a b e) in (cc, cc)

    pub entry_unconditional : (r g : ℕ) (a b : Bool) → entry_of m r g ≡ entry a b
        → (a ≡ true) ↔ Triple m r (Fails m g) (Holds m g)
    entry_unconditional r g a b e =
        let k = (entry_parts r g a b e).0 in
        (λ h. (unconditional_iff r g).0 (sym k ∙ h), λ h. k ∙ (unconditional_iff r g).1 h)

    pub entry_signal : (r g : ℕ) (a b : Bool) → entry_of m r g ≡ entry a b → (b ≡ false) ↔ Signals m g
    entry_signal r g a b e =
        let k = (entry_parts r g a b e).1 in
        (λ h. (signal_iff g).0 (sym k ∙ h), λ h. k ∙ (signal_iff g).1 h)
