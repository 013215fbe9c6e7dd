-- What a frame that is taken says, at a point that a run reaches.
use Prim.Native.Nat.{ℕ, zero, suc, ◌<◌}
use native.Mathlib.Omega.{arith}
use mathlib.Core.Path.{◌≡◌, refl, sym, ap, ◌∙◌}
use mathlib.Core.Bool.{Bool, true, false, ◌&&◌}
use mathlib.Core.List.{List}
use lib.ListN.{get_or}
use Rattle.machine.specs.Monitor.{Place, waiting, Threads, Monitor, Config, Frame}
use Rattle.machine.specs.Decide.Step.{leave, may}
use Rattle.machine.specs.Decide.Table.{runs}
use Rattle.machine.specs.Held.{HeldPlaces, follows_by}
use Rattle.logic.proofs.Bools.{beq_equal, split_eq}
use Rattle.machine.proofs.Tests.{may_iff}
use Rattle.machine.proofs.Order.{left_own, left_other}
use Rattle.machine.proofs.Reached.{PlaceWithin, Reached, may_below}
use Rattle.stepper.specs.Parts.{verdict, verdict_of}

there_of : (a b w f n k : Bool) → verdict a b w f n k ≡ 0 → a ≡ true
unfolding verdict
there_of true b w f n k e = refl
there_of false b w f n k e = absurd (omega arith)

same_of : (a b w f n k : Bool) → verdict a b w f n k ≡ 0 → b ≡ true
unfolding verdict
same_of true true w f n k e = refl
same_of true false w f n k e = absurd (omega arith)
same_of false b w f n k e = absurd (omega arith)

module _ (m : Monitor) (c : Config) (f : Frame) where
  pub taken_there : verdict_of m c f ≡ 0 → may m c.threads f ≡ true
  unfolding verdict_of
  taken_there taken = there_of _ _ _ _ _ _ taken

  -- with 01 the body may run
  pub taken_runs : verdict_of m c f ≡ 0 → m.kept c.state ≡ true → f.flag ≡ true → runs m f.region c.state
      ≡ true
  unfolding runs verdict_of
  taken_runs taken k l =
      ap (λ (b : Bool). b && m.holds (m.guard_of f.region) c.state) k
      ∙ sym (beq_equal f.flag (m.holds (m.guard_of f.region) c.state) (same_of _ _ _ _ _ _ taken)) ∙ l

  module _ (x : Reached m c) where
    -- a thread that may be at a region is at one of the file
    pub there_below : may m c.threads f ≡ true → f.region < m.regions
    there_below e = may_below m c.threads f (x.within f.thread) ((may_iff m c.threads f).0 e)

    -- a body leaves its thread due or idle, so the waiters are those of before
    pub left_below : (bs os : List ℕ) → HeldPlaces m bs os → f.region < m.regions
        → (u w : ℕ) → (leave c.threads f.thread (m.follows f.region)).place u ≡ waiting w → w < m.regions
    unfolding follows_by PlaceWithin
    left_below bs os h l u w e = split_eq u f.thread
        (λ z.
        let own = sym (left_own p t q) ∙ ap (leave p t q).place (sym z) ∙ e in
        absurd (never (get_or os f.region 0) (sym (h.by_follows f.region l) ∙ own)))
        (λ z. (x.within u).0 w (sym (left_other p t q u z) ∙ e))
      where
        p : Threads
        p = c.threads

        t : ℕ
        t = f.thread

        q : Place
        q = m.follows f.region

        never : (n : ℕ) → follows_by f.region n ≡ waiting w → ⊥
        never zero e = let z : ◌≡◌ {A = ℕ} 0 1 = cc in omega arith
        never (suc n) e = let z : ◌≡◌ {A = ℕ} 0 1 = cc in omega arith
