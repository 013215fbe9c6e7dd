-- Whom a body tells anew. On a guard that held before it both machines have told whom they would tell now: so what it adds to
-- the notices are waiters on guards that it makes true, for the table's the first of them, or all.
use Prim.Native.Nat.{ℕ}
use mathlib.Core.Path.{◌≡◌, refl, sym, ap, ◌∙◌}
use mathlib.Core.Bool.{Bool, true, false, not, ◌&&◌, ◌||◌, false≢true}
use mathlib.Core.Logic.Iff
use mathlib.Core.Logic.{◌⊎◌, inl, inr, ⊎_elim, ◌↔◌}
use Rattle.machine.specs.Monitor.{Place, Threads, idle, waiting, due, Monitor, line}
use Rattle.machine.specs.Decide.Step.{without, leave, next, plain_told}
use Rattle.machine.specs.Algorithm1.{Entry, entry}
use Rattle.machine.specs.Decide.Table.{table_told}
use Rattle.machine.specs.Rules.{Waits, Front, PlainNoticesBy, TableNoticesBy}
use Rattle.machine.specs.Agreement.{Checked}
use Rattle.logic.proofs.Bools.{split, either, or_left, or_right, not_true, true_not, tests_equal, decides_and, decides_or}
use Rattle.machine.proofs.Order.{next_iff}
use Rattle.machine.proofs.Tests.{plain_notices, table_notices}
use Rattle.machine.proofs.Points.{Placed, PlainPoint, TablePoint, left_waits, stays, ran_all, woken, had_notice}

abbrev pub becomes : Monitor → ℕ → ℕ → ℕ → Bool
becomes m s s' g = m.holds g s' && not (m.holds g s)

becomes_iff : (m : Monitor) (s s' g : ℕ) → (becomes m s s' g ≡ true) ↔ ((m.holds g s' ≡ true) × (m.holds g s ≡ false))
becomes_iff m s s' g = decides_and (m.holds g s') (not (m.holds g s)) Iff.rfl (not_true, true_not)

unfoldable pub newly_on : Monitor → ℕ → ℕ → Place → Bool
newly_on m s s' idle = false
newly_on m s s' (waiting w) = becomes m s s' (m.guard_of w)
newly_on m s s' (due w) = false

unfoldable pub newly_by : Monitor → (ℕ → Bool) → ℕ → ℕ → Threads → ℕ → Place → Bool
newly_by m bc s s' p u idle = false
newly_by m bc s s' p u (waiting w) = becomes m s s' (m.guard_of w) && (bc (m.guard_of w) || next m p (m.guard_of w) u)
newly_by m bc s s' p u (due w) = false

newly_iff : (m : Monitor) (s s' : ℕ) (p : Threads) (u : ℕ)
    → (newly_on m s s' (p.place u) ≡ true)
    ↔ ((g : ℕ) × Waits m p g u × (m.holds g s' ≡ true) × (m.holds g s ≡ false))
unfolding newly_on Waits
newly_iff m s s' p u = (
  to (p.place u) refl,
  λ x. ap (newly_on m s s') x.1.1 ∙ ap (becomes m s s') x.1.2 ∙ (becomes_iff m s s' x.0).1 (x.2, x.3),
)
  where
    to : (q : Place) → p.place u ≡ q → newly_on m s s' q ≡ true
        → (g : ℕ) × Waits m p g u × (m.holds g s' ≡ true) × (m.holds g s ≡ false)
    to idle z h = absurd (false≢true h)
    to (waiting w) z h = let b = (becomes_iff m s s' (m.guard_of w)).0 h in (m.guard_of w, (w, z, refl), b.0, b.1)
    to (due w) z h = absurd (false≢true h)

newly_by_iff : (m : Monitor) (bc : ℕ → Bool) (s s' : ℕ) (p : Threads) (u : ℕ)
    → (newly_by m bc s s' p u (p.place u) ≡ true)
    ↔ ((g : ℕ) × Waits m p g u × (m.holds g s' ≡ true) × (m.holds g s ≡ false)
    × ((bc g ≡ true) ⊎ Front (line m p g) u))
unfolding newly_by Waits
newly_by_iff m bc s s' p u = (
  to (p.place u) refl,
  λ x. ap (newly_by m bc s s' p u) x.1.1 ∙ ap (test) x.1.2 ∙ (test_iff x.0).1 ((x.2, x.3), x.4),
)
  where
    test : ℕ → Bool
    test g = becomes m s s' g && (bc g || next m p g u)

    test_iff : (g : ℕ) → (test g ≡ true)
        ↔ (((m.holds g s' ≡ true) × (m.holds g s ≡ false)) × ((bc g ≡ true) ⊎ Front (line m p g) u))
    test_iff g = decides_and (becomes m s s' g) (bc g || next m p g u) (becomes_iff m s s' g)
        (decides_or (bc g) (next m p g u) Iff.rfl (next_iff m p g u))

    to : (q : Place) → p.place u ≡ q → newly_by m bc s s' p u q ≡ true
        → (g : ℕ) × Waits m p g u × (m.holds g s' ≡ true) × (m.holds g s ≡ false)
        × ((bc g ≡ true) ⊎ Front (line m p g) u)
    to idle z h = absurd (false≢true h)
    to (waiting w) z h =
        let b = (test_iff (m.guard_of w)).0 h in (m.guard_of w, (w, z, refl), b.0.0, b.0.1, b.1)
    to (due w) z h = absurd (false≢true h)

-- A body of region r ran, by thread t

module _ (m : Monitor) (ok : Checked m) (s : ℕ) (p : Threads) (t r : ℕ) (guard : m.holds (m.guard_of r) s ≡ true) where
  abbrev s' : ℕ
  s' = m.after r s

  abbrev p' : Threads
  p' = leave p t (m.follows r)

  before : (g u : ℕ) → Waits m p' g u → (u ≡ t → ⊥) × Waits m p g u
  before = left_waits m ok s p t r guard

  keeps : (n : ℕ → Bool) (u : ℕ) (b : Bool) → (u ≡ t → ⊥) → n u ≡ true → without n t u || b ≡ true
  keeps = stays m ok s p t r guard

  -- the plain machine has told all others before
  pub newly_plain : (n : ℕ → Bool) → PlainPoint m s p n → (u : ℕ)
      → without n t u || plain_told m s' p' r u ≡ without n t u || newly_on m s s' (p'.place u)
  unfolding PlainNoticesBy
  newly_plain n pt u = tests_equal (without n t u || plain_told m s' p' r u) (without n t u || newly_on m s s' (p'.place u))
      (λ h. ⊎_elim (or_left (without n t u) (newly_on m s s' (p'.place u))) told (either (without n t u) (plain_told m s' p' r u) h))
      (λ h. ⊎_elim (or_left (without n t u) (plain_told m s' p' r u))
      (λ x. let y = (newly_iff m s s' p' u).0 x in ran_all m ok s p t r guard n y.0 u y.1 y.2)
      (either (without n t u) (newly_on m s s' (p'.place u)) h))
    where
      told : plain_told m s' p' r u ≡ true → without n t u || newly_on m s s' (p'.place u) ≡ true
      told x =
          let y = (plain_notices m s' p' r u).0 x in
          let o = before y.0 u y.1 in
          split (m.holds y.0 s)
          (λ k. keeps n u (newly_on m s s' (p'.place u)) o.0 (pt.all y.0 u o.1 k))
          (λ k. or_right (without n t u) (newly_on m s s' (p'.place u)) ((newly_iff m s s' p' u).1 (y.0, y.1, y.2, k)))

  module _ (e : ℕ → ℕ → Entry) (bc : ℕ → Bool) (placed : Placed m e bc) (own : (w : ℕ) → p.place t ≡ waiting w → w ≡ r)
      (n : ℕ → Bool) (tp : TablePoint m bc s p n) where
    abbrev n' : ℕ → Bool
    n' u = without n t u || table_told m e s' p' r u

    -- whom an entry tells has a notice, or the body has made its guard true
    told_newly : (u : ℕ) → table_told m e s' p' r u ≡ true → without n t u || newly_by m bc s s' p' u (p'.place u) ≡ true
    unfolding TableNoticesBy
    told_newly u x =
        let y = (table_notices m e s' p' r u).0 x in
        let o = before y.0 u y.1 in
        split (m.holds y.0 s)
        (λ k. keeps n u (newly_by m bc s s' p' u (p'.place u)) o.0 (⊎_elim
        (λ b. tp.every y.0 u o.1 k (sym (placed.kind r y.0 y.2 y.3 y.4) ∙ b))
        (had_notice m ok s p t r guard e bc placed own n tp y.0 u (λ q. placed.other r y.2 y.3 (ap (e r) q ∙ y.4)) k) y.6))
        (λ k. or_right (without n t u) (newly_by m bc s s' p' u (p'.place u)) ((newly_by_iff m bc s s' p' u).1 (
          y.0,
          y.1,
          ⊎_elim
              (λ a. placed.sure r y.0 y.3 s (y.4 ∙ ap (λ (z : Bool). entry z y.3) a) tp.is_kept guard k)
              (λ h. h) y.5,
          k,
          ⊎_elim (λ b. inl (sym (placed.kind r y.0 y.2 y.3 y.4) ∙ b)) inr y.6,
        )))

    pub newly_table : (u : ℕ) → n' u ≡ without n t u || newly_by m bc s s' p' u (p'.place u)
    newly_table u = tests_equal (n' u) (without n t u || newly_by m bc s s' p' u (p'.place u))
        (λ h. ⊎_elim (or_left (without n t u) (newly_by m bc s s' p' u (p'.place u))) (told_newly u)
        (either (without n t u) (table_told m e s' p' r u) h))
        (λ h. ⊎_elim (or_left (without n t u) (table_told m e s' p' r u))
        (λ x. let y = (newly_by_iff m bc s s' p' u).0 x in woken m ok s p t r guard e bc placed own n tp y.0 u y.1 y.2 y.3 y.4)
        (either (without n t u) (newly_by m bc s s' p' u (p'.place u)) h))
