-- The turns of those who wait (document 02, E4): at a point they are the places in the queue, a frame does to them what
-- joining and leaving do to places, and the line on a guard is in their order. By the laws of `Queue`, a rule at a time.
use Prim.Native.Nat.{ℕ, suc, ◌<◌}
use native.Mathlib.Omega.{arith}
use mathlib.Core.Path.{◌≡◌, refl, sym, subst, ap, ◌∙◌}
use mathlib.Core.Bool.{Bool, true, ◌||◌, false≢true}
use mathlib.Core.Logic.{◌↔◌, ⊎_elim}
use mathlib.Core.List.{List, [], ◌∷◌, ◌++◌}
use lib.Dec.{eqb}
use lib.ListN.{length}
use borrow.Author.Tests.{eqb-true, eq-eqb}
use Rattle.machine.specs.Monitor.{Place, idle, waiting, due, Threads, Monitor, Frame, Config, turn_at, turn}
use Rattle.machine.specs.Monitor.{waits_on, line}
use Rattle.machine.specs.Queue.{has, place_in}
use Rattle.machine.specs.Rules.{Notices, Moved, Waits, Waiting, Front, First, Rule, rule_1a, rule_1b, rule_2a}
use Rattle.machine.specs.Rules.{rule_2b}
use Rattle.machine.specs.Arrival.{Once, Rising, Lined, Turns, Lines, TurnsAfter, ExactlyAhead}
use Rattle.logic.proofs.Bools.{clash, is_false, and, either, or_left}
use Rattle.machine.proofs.Queue.{left_absent, place_below, place_each, place_once, place_last, place_joined}
use Rattle.machine.proofs.Queue.{place_ahead, place_behind, place_splits, has_those, has_append, has_splits, once_those}
use Rattle.machine.proofs.Queue.{once_before, first_has, front_has, rising_by, rising_place, rising_those, rising_splits}
use Rattle.machine.proofs.Order.{waits_iff, line_waits}

module _ (m : Monitor) where
  -- a waiter's turn is its place in the queue
  pub turn_place : (p : Threads) (u : ℕ) → Waiting m (p.place u) → turn p u ≡ place_in p.queue u
  unfolding turn turn_at Waiting
  turn_place p u w = ap (λ (q : Place). turn_at q (place_in p.queue u)) w.1

  turn_none : (p : Threads) (u : ℕ) → (Waiting m (p.place u) → ⊥) → turn p u ≡ 0
  unfolding turn turn_at Waiting
  turn_none p u w = go (p.place u) w
    where
      go : (q : Place) → (Waiting m q → ⊥) → turn_at q (place_in p.queue u) ≡ 0
      go idle w = refl
      go (waiting r) w = absurd (w (r, refl))
      go (due r) w = refl

  pub lined_turns : {p : Threads} → Lined m p → Turns m p
  lined_turns {p} l = record {
    below = λ u w. subst (λ (k : ℕ). k < length p.queue) (sym (turn_place p u w))
        (place_below p.queue u ((l.waits u).1 w));
    each = λ k h.
        let x = place_each p.queue k l.once h in
        let w = (l.waits x.0).0 x.1 in
        (x.0, w, turn_place p x.0 w ∙ x.2);
    once = λ u v a b e. place_once p.queue u v ((l.waits u).1 a) (sym (turn_place p u a) ∙ e ∙ turn_place p v b);
    none = turn_none p;
  }

  -- a thread that stays where it is, by the queue that others have joined or left
  module _ {p p' : Threads} {t : ℕ} {to : Place} {queue : List ℕ} (x : Moved m p p' t to queue) (u : ℕ)
      (other : u ≡ t → ⊥) where
    turn_then : Waiting m (p.place u) → turn p' u ≡ place_in queue u
    unfolding Waiting
    turn_then w = turn_place p' u (w.0, x.others u other ∙ w.1) ∙ ap (λ (q : List ℕ). place_in q u) x.then_queue

    turn_stays : (Waiting m (p.place u) → place_in queue u ≡ place_in p.queue u) → turn p' u ≡ turn p u
    unfolding turn turn_at Waiting
    turn_stays stays = ap (λ (q : Place). turn_at q (place_in p'.queue u)) (x.others u other) ∙ go (p.place u) refl
      where
        go : (q : Place) → p.place u ≡ q → turn_at q (place_in p'.queue u) ≡ turn_at q (place_in p.queue u)
        go idle z = refl
        go (waiting r) z = ap (λ (q : List ℕ). place_in q u) x.then_queue ∙ stays (r, z)
        go (due r) z = refl

  module _ (notices : Notices) where
    pub rule_turns : {c c' : Config} {f : Frame} → Rule m notices c f c' → Lined m c.threads
        → TurnsAfter m c.threads f c'.threads
    unfolding Waiting
    rule_turns {c} {c'} {f} (rule_1a a fl g w s p n) l = record {
      begins = λ _ _.
          turn_place c'.threads t (f.region, p.own_place) ∙ ap (λ (q : List ℕ). place_in q t) p.then_queue
          ∙ place_last queue t (is_false (λ h. w ((l.waits t).0 h)));
      others_stay = λ u d _. turn_stays p u d (λ v. place_joined queue t u ((l.waits u).1 v));
      recheck_stays = λ _ v. absurd (w v);
      ahead_stay = λ u _ v. absurd (w v);
      behind_close = λ u _ v. absurd (w v);
    }
      where
        t : ℕ
        t = f.thread

        queue : List ℕ
        queue = c.threads.queue
    rule_turns {c} {c'} {f} (rule_1b a fl g w k s p n) l = record {
      begins = λ _ v. absurd (v w);
      others_stay = λ u d _. ap (λ (q : Threads). turn q u) p;
      recheck_stays = λ _ _. ap (λ (q : Threads). turn q f.thread) p;
      ahead_stay = λ u e. clash e fl;
      behind_close = λ u e. clash e fl;
    }
    rule_turns {c} {c'} {f} (rule_2a a fl g w b) l = record {
      begins = λ e. clash fl e;
      others_stay = λ u d _. turn_stays b.places u d (λ _. ap (λ (q : List ℕ). place_in q u)
          (left_absent c.threads.queue f.thread (is_false (λ h. w ((l.waits f.thread).0 h)))));
      recheck_stays = λ e. clash fl e;
      ahead_stay = λ u _ v. absurd (w v);
      behind_close = λ u _ v. absurd (w v);
    }
    rule_turns {c} {c'} {f} (rule_2b a fl g w k i b) l = record {
      begins = λ e. clash fl e;
      others_stay = λ u d e. clash fl (e w);
      recheck_stays = λ e. clash fl e;
      ahead_stay = λ u _ _ v h.
          turn_then b.places u (λ e. omega (arith, h, ap (turn p) e)) v
          ∙ place_ahead p.queue t u (omega (arith, h, turn_place p u v, turn_place p t w)) ∙ sym (turn_place p u v);
      behind_close = λ u _ _ v h.
          ap suc (turn_then b.places u (λ e. omega (arith, h, ap (turn p) e)) v)
          ∙ place_behind p.queue t u l.once (omega (arith, h, turn_place p u v, turn_place p t w))
          ∙ sym (turn_place p u v);
    }
      where
        t : ℕ
        t = f.thread

        p : Threads
        p = c.threads

-- The line on a guard

module _ (m : Monitor) {p : Threads} (l : Lined m p) (g : ℕ) where
  -- its members are those who wait on the guard, in the order of their turns

  pub line_iff : (u : ℕ) → (has (line m p g) u ≡ true) ↔ Waits m p g u
  unfolding line Waiting Waits
  line_iff u = (
    λ h. (waits_iff m p g u).0 (line_waits m p g u h),
    λ w. has_those (waits_on m p g) p.queue u ∙ and ((l.waits u).1 (w.0, w.1)) ((waits_iff m p g u).1 w),
  )

  pub line_once : Once (line m p g)
  unfolding line
  line_once = once_those (waits_on m p g) p.queue l.once

  line_turn : (u : ℕ) → has (line m p g) u ≡ true → turn p u ≡ place_in p.queue u
  unfolding Waiting Waits
  line_turn u h = let w = (line_iff u).0 h in turn_place m p u (w.0, w.1)

  line_rising : Rising (turn p) (line m p g)
  unfolding line
  line_rising =
      rising_by (place_in p.queue) (turn p) (line m p g)
      (λ u v h k low. omega (arith, low, line_turn u h, line_turn v k))
      (rising_those (place_in p.queue) (waits_on m p g) p.queue (rising_place p.queue l.once))

  -- so those up to a member are exactly the ones ahead of it
  pub line_ahead : (t : ℕ) (ahead behind : List ℕ) → line m p g ≡ ahead ++ (t ∷ behind)
      → ExactlyAhead m g p t ahead
  unfolding has
  line_ahead t ahead behind e = record {
    exactly = λ u. (to u, from u);
    in_turn = x.0;
    how_many_is = sym (ap (λ (k : List ℕ). place_in k t) e
        ∙ place_splits ahead behind t (once_before ahead behind t (subst Once e line_once)));
  }
    where
      x : Rising (turn p) ahead
          × ((u : ℕ) → has ahead u ≡ true → turn p u < turn p t) × ((u : ℕ) → has behind u ≡ true → turn p t < turn p u)
      x = rising_splits (turn p) ahead behind t (subst (Rising (turn p)) e line_rising)

      member : (u : ℕ) → has (line m p g) u ≡ has ahead u || has (t ∷ behind) u
      member u = ap (λ (k : List ℕ). has k u) e ∙ has_append ahead (t ∷ behind) u

      to : (u : ℕ) → has ahead u ≡ true → Waits m p g u × (turn p u < turn p t)
      to u h = ((line_iff u).0 (member u ∙ or_left (has ahead u) (has (t ∷ behind) u) h), x.1 u h)

      from : (u : ℕ) → Waits m p g u × (turn p u < turn p t) → has ahead u ≡ true
      from u w = ⊎_elim (λ h. h)
          (λ h. ⊎_elim (λ q. absurd (omega (arith, w.1, ap (turn p) (eqb-true t u q))))
          (λ k. absurd (omega (arith, w.1, x.2 u k))) (either (eqb t u) (has behind u) h))
          (either (has ahead u) (has (t ∷ behind) u) (sym (member u) ∙ (line_iff u).1 w.0))

  -- the first of a set in it, and the one at its front, by turns
  line_first : (n : ℕ → Bool) (u : ℕ) → First (line m p g) n u
      ↔ (Waits m p g u × ((v : ℕ) → Waits m p g v → n v ≡ true → turn p v < turn p u → ⊥))
  line_first n u = (
    λ x. (
      (line_iff u).0 (first_has x),
      λ v w b k. x.none_ahead v (((line_ahead u x.ahead x.behind x.splits).exactly v).1 (w, k)) b,
    ),
    λ x.
        let s = has_splits (line m p g) u ((line_iff u).1 x.0) in
        record {
          ahead = s.0;
          behind = s.1;
          splits = s.2;
          none_ahead = λ v h b.
              let y = ((line_ahead u s.0 s.1 s.2).exactly v).0 h in x.1 v y.0 b y.1;
        },
  )

  line_front : (u : ℕ) → Front (line m p g) u
      ↔ (Waits m p g u × ((v : ℕ) → Waits m p g v → turn p v < turn p u → ⊥))
  unfolding Front has
  line_front u = (
    λ x. (
      (line_iff u).0 (front_has (line m p g) u x),
      λ v w k. false≢true (((line_ahead u [] x.0 x.1).exactly v).1 (w, k)),
    ),
    λ x.
        let s = has_splits (line m p g) u ((line_iff u).1 x.0) in
        go s.0 s.1 s.2 (λ v h. let y = ((line_ahead u s.0 s.1 s.2).exactly v).0 h in x.1 v y.0 y.1),
  )
    where
      go : (ahead behind : List ℕ) → line m p g ≡ ahead ++ (u ∷ behind) → ((v : ℕ) → has ahead v ≡ true → ⊥)
          → (behind : List ℕ) × (line m p g ≡ u ∷ behind)
      go [] behind e none = (behind, e)
      go (v ∷ ahead) behind e none = absurd (none v (or_left (eqb v v) (has ahead v) (eq-eqb v v refl)))

pub lined_lines : (m : Monitor) {p : Threads} → Lined m p → Lines m p
lined_lines m l = record {
  members = line_iff m l;
  rising = line_rising m l;
  front = line_front m l;
  first = λ n g. line_first m l g n;
}
