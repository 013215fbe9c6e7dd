-- What every point of a run has that starts in a kept state with all idle: its state is kept, a waiting or due thread is at
-- a region of the file, and exactly those who wait are in the queue. Shown for the rules, over whom a body notifies.
use Prim.Native.Nat.{ℕ, ◌<◌}
use native.Mathlib.Omega.{arith}
use mathlib.Core.Path.{◌≡◌, refl, sym, ap, ◌∙◌, subst}
use mathlib.Core.Bool.{true, false, not, ◌&&◌, ◌||◌, false≢true}
use mathlib.Core.Logic.{⊎_elim}
use mathlib.Core.List.{List}
use lib.Dec.{eqb}
use borrow.Author.Tests.{eqb-true, eqb-false, eq-eqb, ne_eqb}
use Rattle.machine.specs.Monitor.{Place, idle, waiting, due, Threads, Monitor, Frame, Config, all_idle, idle_threads}
use Rattle.machine.specs.Queue.{has, joined, left}
use Rattle.machine.specs.Arrival.{Once, Lined}
use Rattle.machine.specs.Decide.Step.{moved, Told, is_waiting, step}
use Rattle.machine.specs.Rules.{Notices, May, MayBeAt, Moved, Waiting, Rule, rule_1a, rule_1b, rule_2a, rule_2b, Rules}
use Rattle.machine.specs.Rules.{no_more, one_more}
use Rattle.machine.proofs.RulesDecided.{told_decides}
use Rattle.machine.proofs.Queue.{has_joined, has_left, once_joined, once_left}
use Rattle.logic.proofs.Bools.{clash, split_eq, is_false, either, or_left, or_right, both, and, not_true, true_not}
use Rattle.logic.proofs.Bools.{different}
use Rattle.machine.specs.Agreement.{Checked}

-- a place within the file
unfoldable pub PlaceWithin : Monitor → Place → Type 0
PlaceWithin m q = ((w : ℕ) → q ≡ waiting w → w < m.regions) × ((w : ℕ) → q ≡ due w → w < m.regions)

pub record Reached (m : Monitor) (c : Config) : Type 0 where
  pub is_kept : m.kept c.state ≡ true
  pub within : (t : ℕ) → PlaceWithin m (c.threads.place t)
  pub lined : Lined m c.threads

pub idle_within : (m : Monitor) → PlaceWithin m idle
unfolding PlaceWithin
idle_within m = (
  λ w e. let z : ◌≡◌ {A = ℕ} 0 1 = cc in absurd (omega arith),
  λ w e. let z : ◌≡◌ {A = ℕ} 0 1 = cc in absurd (omega arith),
)

waiting_within : (m : Monitor) (r : ℕ) → r < m.regions → PlaceWithin m (waiting r)
unfolding PlaceWithin
waiting_within m r h = (
  λ w e. let q : r ≡ w = cc in omega arith,
  λ w e. let z : ◌≡◌ {A = ℕ} 0 1 = cc in absurd (omega arith),
)

follows_within : (m : Monitor) → Checked m → (r : ℕ) → PlaceWithin m (m.follows r)
unfolding PlaceWithin is_waiting
follows_within m ok r = (λ w e. clash (ap is_waiting e) (ok.leaves r), ok.onward r)

-- The queue

pub idle_lined : (m : Monitor) → Lined m idle_threads
unfolding Once has Waiting
idle_lined m = record { once = tt; waits = λ u. (λ h. absurd (false≢true h), λ w. different (let e = w.1 in cc)) }

-- a thread that was not waiting begins to
began_lined : (m : Monitor) {p p' : Threads} {t r : ℕ} → Moved m p p' t (waiting r) (joined p.queue t)
    → (Waiting m (p.place t) → ⊥) → Lined m p → Lined m p'
unfolding Waiting
began_lined m {p} {p'} {t} {r} x w l = record {
  once = subst Once (sym x.then_queue) (once_joined p.queue t l.once absent);
  waits = λ u. (to u, from u);
}
  where
    absent : has p.queue t ≡ false
    absent = is_false (λ h. w ((l.waits t).0 h))

    member : (u : ℕ) → has p'.queue u ≡ has p.queue u || eqb t u
    member u = ap (λ (q : List ℕ). has q u) x.then_queue ∙ has_joined p.queue t u

    own : (u : ℕ) → u ≡ t → Waiting m (p'.place u)
    own u z = (r, ap p'.place z ∙ x.own_place)

    to : (u : ℕ) → has p'.queue u ≡ true → Waiting m (p'.place u)
    to u h = split_eq u t (own u) (λ z. ⊎_elim
        (λ k. let v = (l.waits u).0 k in (v.0, x.others u z ∙ v.1))
        (λ k. absurd (z (sym (eqb-true t u k)))) (either (has p.queue u) (eqb t u) (sym (member u) ∙ h)))

    from : (u : ℕ) → Waiting m (p'.place u) → has p'.queue u ≡ true
    from u v = split_eq u t
        (λ z. member u ∙ or_right (has p.queue u) (eqb t u) (eq-eqb t u (sym z)))
        (λ z. member u ∙ or_left (has p.queue u) (eqb t u) ((l.waits u).1 (v.0, sym (x.others u z) ∙ v.1)))

-- a thread goes on from a body
left_lined : (m : Monitor) {p p' : Threads} {t : ℕ} {q : Place} → Moved m p p' t q (left p.queue t)
    → is_waiting q ≡ false → Lined m p → Lined m p'
unfolding Waiting is_waiting
left_lined m {p} {p'} {t} {q} x w l = record {
  once = subst Once (sym x.then_queue) (once_left p.queue t l.once);
  waits = λ u. (to u, from u);
}
  where
    member : (u : ℕ) → has p'.queue u ≡ has p.queue u && not (eqb u t)
    member u = ap (λ (k : List ℕ). has k u) x.then_queue ∙ has_left p.queue t u

    to : (u : ℕ) → has p'.queue u ≡ true → Waiting m (p'.place u)
    to u h =
        let b = both (has p.queue u) (not (eqb u t)) (sym (member u) ∙ h) in
        let v = (l.waits u).0 b.0 in
        (v.0, x.others u (eqb-false u t (not_true b.1)) ∙ v.1)

    from : (u : ℕ) → Waiting m (p'.place u) → has p'.queue u ≡ true
    from u v = split_eq u t
        (λ z. clash (ap is_waiting v.1) (ap is_waiting (ap p'.place z ∙ x.own_place) ∙ w))
        (λ z. member u ∙ and ((l.waits u).1 (v.0, sym (x.others u z) ∙ v.1)) (true_not (ne_eqb u t z)))

pub start_reached : (m : Monitor) (s : ℕ) → m.kept s ≡ true → Reached m (all_idle s)
unfolding all_idle
start_reached m s k = record { is_kept = k; within = λ t. idle_within m; lined = idle_lined m }

-- a thread that may be at a region is at one of the file
pub may_below :
    (m : Monitor) (p : Threads) (f : Frame) → PlaceWithin m (p.place f.thread) → May m p f → f.region < m.regions
unfolding PlaceWithin MayBeAt
may_below m p f h a = go (p.place f.thread) h a.at_region
  where
    go : (q : Place) → PlaceWithin m q → MayBeAt m q f.region → f.region < m.regions
    go idle h b = b.0
    go (waiting w) h e = subst (λ (r : ℕ). r < m.regions) e (h.0 w refl)
    go (due w) h e = subst (λ (r : ℕ). r < m.regions) e (h.1 w refl)

moved_within :
    (m : Monitor) {p p' : Threads} {t : ℕ} {q : Place} {l : List ℕ} → Moved m p p' t q l
    → ((u : ℕ) → PlaceWithin m (p.place u)) → PlaceWithin m q
    → (u : ℕ) → PlaceWithin m (p'.place u)
moved_within m {p} {p'} {t} {q} x ps h u = split_eq u t
    (λ z. subst (PlaceWithin m) (sym (ap p'.place z ∙ x.own_place)) h)
    (λ z. subst (PlaceWithin m) (sym (x.others u z)) (ps u))

module _ (m : Monitor) (ok : Checked m) (notices : Notices) where
  pub rule_lined : {c c' : Config} {f : Frame} → Rule m notices c f c' → Lined m c.threads → Lined m c'.threads
  rule_lined (rule_1a a fl g w s p n) x = began_lined m p w x
  rule_lined (rule_1b a fl g w k s p n) x = subst (Lined m) (sym p) x
  rule_lined {f} (rule_2a a fl g w b) x = left_lined m b.places (ok.leaves f.region) x
  rule_lined {f} (rule_2b a fl g w k l b) x = left_lined m b.places (ok.leaves f.region) x

  pub rule_reached : {c c' : Config} {f : Frame} → Rule m notices c f c' → Reached m c → Reached m c'
  rule_reached {c} {c'} {f} (rule_1a a fl g w s p n) x = record {
    is_kept = ap m.kept s ∙ x.is_kept;
    within = moved_within m p x.within
        (waiting_within m f.region (may_below m c.threads f (x.within f.thread) a));
    lined = rule_lined (rule_1a a fl g w s p n) x.lined;
  }
  rule_reached (rule_1b a fl g w k s p n) x = record {
    is_kept = ap m.kept s ∙ x.is_kept;
    within = λ u. subst (λ (q : Threads). PlaceWithin m (q.place u)) (sym p) (x.within u);
    lined = rule_lined (rule_1b a fl g w k s p n) x.lined;
  }
  rule_reached {c} {c'} {f} (rule_2a a fl g w b) x = record {
    is_kept = ap m.kept b.state ∙ ok.keeps f.region c.state x.is_kept g;
    within = moved_within m b.places x.within (follows_within m ok f.region);
    lined = rule_lined (rule_2a a fl g w b) x.lined;
  }
  rule_reached {c} {c'} {f} (rule_2b a fl g w k l b) x = record {
    is_kept = ap m.kept b.state ∙ ok.keeps f.region c.state x.is_kept g;
    within = moved_within m b.places x.within (follows_within m ok f.region);
    lined = rule_lined (rule_2b a fl g w k l b) x.lined;
  }

  pub rules_reached : {c c' : Config} {fs : List Frame} → Rules m notices c fs c' → Reached m c → Reached m c'
  rules_reached no_more x = x
  rules_reached (one_more r rs) x = rules_reached rs (rule_reached r x)

pub step_reached : (m : Monitor) → Checked m → (told : Told) (c c' : Config) (f : Frame) → step m told c f ≡ moved c'
    → Reached m c
    → Reached m c'
step_reached m ok told c c' f e =
    rule_reached m ok (λ s p r u. told s p r u ≡ true) (((told_decides m told).moves c f c').0 e)
