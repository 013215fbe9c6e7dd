-- The machine's tests decide what `Rules` says: who may send a frame, and whom a body notifies, in the plain machine
-- and in the table's. By cases on the places and on the entries.
use Prim.Native.Nat.{ℕ}
use mathlib.Core.Path.{◌≡◌, refl, sym, subst, ap, ◌∙◌}
use mathlib.Core.Bool.{Bool, true, not, ◌&&◌, ◌||◌, false≢true}
use mathlib.Core.Logic.Iff
use mathlib.Core.Logic.{◌⊎◌, ◌↔◌}
use lib.Dec.{eqb, ltb}
use borrow.Author.Tests.{ltb-true, lt-ltb}
use Rattle.machine.specs.Monitor.{Place, idle, waiting, due, Threads, Monitor, Frame, threads, line}
use Rattle.logic.specs.Tests.{any}
use Rattle.machine.specs.Decide.Step.{is_due, next, own, plain_told, may_be_at, may}
use Rattle.machine.specs.Algorithm1.{Entry, none, entry}
use Rattle.machine.specs.Decide.Table.{acts, entry_told, table_told}
use Rattle.machine.specs.Rules.{Waits, Front, PlainNotices, TableNotices, PlainNoticesBy, TableNoticesBy}
use Rattle.machine.specs.Rules.{MayBeAt, May}
use Rattle.logic.proofs.Bools.{decides_and, decides_or, decides_not, decides_eqb}
use Rattle.logic.proofs.Any.{none_iff}
use Rattle.machine.proofs.Order.{next_iff}

module _ (m : Monitor) where
  -- 13

  due_iff : (q : Place) → (is_due q ≡ true) ↔ ((r : ℕ) × (q ≡ due r))
  unfolding is_due
  due_iff idle = (λ h. absurd (false≢true h), λ w. ap is_due w.1)
  due_iff (waiting w) = (λ h. absurd (false≢true h), λ w. ap is_due w.1)
  due_iff (due w) = (λ h. (w, refl), λ h. refl)

  may_be_iff : (q : Place) (r : ℕ) → (may_be_at m q r ≡ true) ↔ MayBeAt m q r
  unfolding may_be_at MayBeAt
  may_be_iff idle r = decides_and (ltb r m.regions) (m.begins r) (ltb-true r m.regions, lt-ltb r m.regions)
      Iff.rfl
  may_be_iff (waiting w) r = decides_eqb w r
  may_be_iff (due w) r = decides_eqb w r

  pub may_iff : (p : Threads) (f : Frame) → (may m p f ≡ true) ↔ May m p f
  unfolding may
  may_iff p f =
      Iff.trans
      (decides_and (not (any threads other_due)) (may_be_at m (p.place t) f.region)
      (none_iff threads other_due (λ u.
      decides_and (not (eqb u t)) (is_due (p.place u)) (decides_not (eqb u t) (decides_eqb u t))
      (due_iff (p.place u))))
      (may_be_iff (p.place t) f.region)) (
        λ h. record { nobody_due = λ u r l d z. h.0 u l (d, (r, z)); at_region = h.1 },
        λ h. (λ u l x. h.nobody_due u x.1.0 l x.0 x.1.1, h.at_region),
      )
    where
      t : ℕ
      t = f.thread

      other_due : ℕ → Bool
      other_due u = not (eqb u t) && is_due (p.place u)

  -- Whom the two machines notify

  pub plain_notices : (s : ℕ) (p : Threads) (r u : ℕ) → (plain_told m s p r u ≡ true) ↔ PlainNotices m s p r u
  unfolding plain_told PlainNoticesBy own Waits
  plain_notices s p r u =
      (to (p.place u) refl, λ n. ap (own m s) n.1.1 ∙ ap (λ (g : ℕ). m.holds g s) n.1.2 ∙ n.2)
    where
      to : (q : Place) → p.place u ≡ q → own m s q ≡ true → PlainNotices m s p r u
      to idle z h = absurd (false≢true h)
      to (waiting w) z h = (m.guard_of w, (w, z, refl), h)
      to (due w) z h = absurd (false≢true h)

  acts_iff : (x : Entry) (h f : Bool) {F : Type 0} → (f ≡ true) ↔ F
      → (acts x h f ≡ true) ↔ ((a b : Bool) × (x ≡ entry a b) × ((a ≡ true) ⊎ (h ≡ true)) × ((b ≡ true) ⊎ F))
  unfolding acts
  acts_iff x h f {F} k = (to x refl, λ n. ap (λ (y : Entry). acts y h f) n.2 ∙ (parts n.0 n.1).1 (n.3, n.4))
    where
      parts : (a b : Bool) → (acts (entry a b) h f ≡ true) ↔ (((a ≡ true) ⊎ (h ≡ true)) × ((b ≡ true) ⊎ F))
      parts a b = decides_and (a || h) (b || f) (decides_or a h Iff.rfl Iff.rfl) (decides_or b f Iff.rfl k)

      to : (y : Entry) → x ≡ y → acts y h f ≡ true → (a b : Bool) × (x ≡ entry a b) × ((a ≡ true) ⊎ (h ≡ true))
          × ((b ≡ true) ⊎ F)
      to none z e = absurd (false≢true e)
      to (entry a b) z e = let n = (parts a b).0 e in (a, b, z, n.0, n.1)

  pub table_notices :
      (e : ℕ → ℕ → Entry) (s : ℕ) (p : Threads) (r u : ℕ) → (table_told m e s p r u ≡ true) ↔ TableNotices m e s p r u
  unfolding table_told TableNoticesBy entry_told Waits
  table_notices e s p r u =
      (to (p.place u) refl, λ n. from n.0 n.1 (n.2, n.3, n.4, n.5, n.6))
    where
      Acts : ℕ → Type 0
      Acts g = (a b : Bool) × (e r g ≡ entry a b) × ((a ≡ true) ⊎ (m.holds g s ≡ true))
          × ((b ≡ true) ⊎ Front (line m p g) u)

      by_entry : (g : ℕ) → (acts (e r g) (m.holds g s) (next m p g u) ≡ true) ↔ Acts g
      by_entry g = acts_iff (e r g) (m.holds g s) (next m p g u) (next_iff m p g u)

      to : (q : Place) → p.place u ≡ q → entry_told m e s p r u q ≡ true → TableNotices m e s p r u
      to idle z h = absurd (false≢true h)
      to (waiting w) z h =
          let n = (by_entry (m.guard_of w)).0 h in
          (m.guard_of w, (w, z, refl), n.0, n.1, n.2, n.3, n.4)
      to (due w) z h = absurd (false≢true h)

      from : (g : ℕ) → Waits m p g u → Acts g → entry_told m e s p r u (p.place u) ≡ true
      from g w n = ap (entry_told m e s p r u) w.1 ∙ (by_entry (m.guard_of w.0)).1 (subst Acts (sym w.2) n)
