-- The order of turns is the order in which the threads began to wait, told from the frames alone (document 02, E4):
-- whoever begins stands behind all who wait, and nobody passes another. By induction over the list, on `Turns`.
use Prim.Native.Nat.{ℕ, zero, suc, ◌<◌}
use native.Mathlib.Omega.{arith}
use mathlib.Core.Path.{◌≡◌, refl, sym, subst, ap, ◌∙◌}
use mathlib.Core.Bool.{Bool, true, false, not}
use mathlib.Core.Logic.{◌⊎◌, inl, inr, ⊎_elim, ◌↔◌}
use mathlib.Core.List.{List, [], ◌∷◌, ◌++◌}
use lib.Dec.{ltb}
use lib.ListN.{length}
use borrow.Author.Tests.{ltb-true, ltb-false, not-true}
use Rattle.machine.specs.Monitor.{Threads, Monitor, Frame, Config, all_idle, turn}
use Rattle.machine.specs.Decide.Step.{is_waiting}
use Rattle.machine.specs.Rules.{Notices, Waiting, Rule, Rules, no_more, one_more}
use Rattle.machine.specs.Recheck.{Absent, Paused}
use Rattle.machine.specs.Arrival.{Lined, TurnsAfter, Only00, BeganBy, InOrder}
use Rattle.machine.specs.Agreement.{Checked}
use Rattle.logic.proofs.Bools.{split, clash, split_eq, is_false, different}
use Rattle.machine.proofs.Order.{waiting_iff}
use Rattle.machine.proofs.Rechecks.{waiters, paused_idle, paused_none, paused_more, rule_own, rule_others}
use Rattle.machine.proofs.Rechecks.{same_split}
use Rattle.machine.proofs.Reached.{idle_lined, rule_lined}
use Rattle.machine.proofs.Turns.{lined_turns, rule_turns}

-- The frame by which a thread began to wait

-- by what tells less
began_told :
    {A B : List Frame → ℕ → Type 0} {fs : List Frame} {u i : ℕ} → ((l : List Frame) (t : ℕ) → B l t → A l t)
    → BeganBy A fs u i → BeganBy B fs u i
began_told {u} h b = record {
  front = b.front;
  frame = b.frame;
  later = b.later;
  splits = b.splits;
  place = b.place;
  sent = b.sent;
  flag = b.flag;
  new = λ x. b.new (h b.front u x);
  since = b.since;
}

-- by one frame one thread
began_one : {A : List Frame → ℕ → Type 0} {fs : List Frame} {u v i : ℕ} → BeganBy A fs u i → BeganBy A fs v i → u ≡ v
began_one a b =
    let z = same_split a.front b.front a.frame b.frame a.later b.later
    (sym a.splits ∙ b.splits) (b.place ∙ sym a.place) in
    sym a.sent ∙ ap (λ (f : Frame). f.thread) (sym z.1) ∙ b.sent

began_none : {A : List Frame → ℕ → Type 0} {u i : ℕ} → BeganBy A [] u i → ⊥
began_none b = go b.front b.splits
  where
    go : (x : List Frame) → [] ≡ x ++ (b.frame ∷ b.later) → ⊥
    go [] s = different cc
    go (y ∷ x) s = different cc

module _ (began : ℕ → Bool) (f : Frame) (fs : List Frame) (u : ℕ) where
  began_now : f.thread ≡ u → f.flag ≡ false → began u ≡ false → Only00 u fs → BeganBy (Paused began) (f ∷ fs) u 0
  began_now own fl new since = record {
    front = [];
    frame = f;
    later = fs;
    splits = refl;
    place = refl;
    sent = own;
    flag = fl;
    new = λ x. clash (paused_none began u x) new;
    since = since;
  }

  began_first : BeganBy (Paused began) (f ∷ fs) u 0
      → (f.thread ≡ u) × (f.flag ≡ false) × (began u ≡ false) × Only00 u fs
  unfolding Paused Absent
  began_first b = go b.front b.splits b.place b.new
    where
      go : (x : List Frame) → f ∷ fs ≡ x ++ (b.frame ∷ b.later) → length x ≡ 0 → (Paused began x u → ⊥)
          → (f.thread ≡ u) × (f.flag ≡ false) × (began u ≡ false) × Only00 u fs
      go [] s n new =
          let e : f ≡ b.frame = cc in
          let k : fs ≡ b.later = cc in (
            ap (λ (y : Frame). y.thread) e ∙ b.sent,
            ap (λ (y : Frame). y.flag) e ∙ b.flag,
            is_false (λ h. new (inr (tt, h))),
            subst (Only00 u) (sym k) b.since,
          )
      go (y ∷ x) s n new = absurd (omega arith)

module _ (m : Monitor) (ok : Checked m) (notices : Notices) where
  -- one frame more in front

  began_more : {c d : Config} {f : Frame} {fs : List Frame} {u i : ℕ} → Rule m notices c f d
      → BeganBy (Paused (waiters d)) fs u i → BeganBy (Paused (waiters c)) (f ∷ fs) u (suc i)
  began_more {f} {u} r b = record {
    front = f ∷ b.front;
    frame = b.frame;
    later = b.later;
    splits = ap {B = List Frame} (λ l. f ∷ l) b.splits;
    place = ap suc b.place;
    sent = b.sent;
    flag = b.flag;
    new = λ x. b.new ((paused_more m ok.leaves notices r b.front u).1 x);
    since = b.since;
  }

  began_less : {c d : Config} {f : Frame} {fs : List Frame} {u i : ℕ} → Rule m notices c f d
      → BeganBy (Paused (waiters c)) (f ∷ fs) u (suc i) → BeganBy (Paused (waiters d)) fs u i
  began_less {c} {d} {f} {fs} {u} {i} r b = go b.front b.splits b.place b.new
    where
      go : (x : List Frame) → f ∷ fs ≡ x ++ (b.frame ∷ b.later) → length x ≡ suc i → (Paused (waiters c) x u → ⊥)
          → BeganBy (Paused (waiters d)) fs u i
      go [] s n new = absurd (omega arith)
      go (y ∷ x) s n new =
          let e : f ≡ y = cc in
          let k : fs ≡ x ++ (b.frame ∷ b.later) = cc in
          record {
            front = x;
            frame = b.frame;
            later = b.later;
            splits = k;
            place = omega arith;
            sent = b.sent;
            flag = b.flag;
            new = λ h. new (subst (λ (z : Frame). Paused (waiters c) (z ∷ x) u) e
                ((paused_more m ok.leaves notices r x u).0 h));
            since = b.since;
          }

  -- after a frame its thread waits exactly if the flag is 00
  flag_00 : {c d : Config} {f : Frame} → Rule m notices c f d → (waiters d f.thread ≡ true) ↔ (f.flag ≡ false)
  flag_00 {c} {d} {f} r =
      let e = rule_own m ok.leaves notices r in (λ h. not-true f.flag (sym e ∙ h), λ h. e ∙ ap not h)

  -- a waiter whose frames have 00 goes on waiting
  stays_waiting : {c d : Config} {f : Frame} → Rule m notices c f d → (u : ℕ) → (f.thread ≡ u → f.flag ≡ false)
      → waiters c u ≡ true → waiters d u ≡ true
  stays_waiting {c} {d} {f} r u o h = split_eq u f.thread
      (λ e. ap (waiters d) e ∙ (flag_00 r).1 (o (sym e)))
      (λ e. rule_others m ok.leaves notices r u e ∙ h)

  -- whoever waits at the end has waited from the beginning, or has begun to
  waited_or_began :
      {c d : Config} {fs : List Frame} → Rules m notices c fs d → (u : ℕ) → waiters d u ≡ true
      → ((waiters c u ≡ true) × Only00 u fs) ⊎ ((i : ℕ) × BeganBy (Paused (waiters c)) fs u i)
  unfolding Only00
  waited_or_began no_more u h = inl (h, tt)
  waited_or_began (one_more {c} {d} {f = f} {fs} r rs) u h =
      ⊎_elim now (λ x. inr (suc x.0, began_more r x.1)) (waited_or_began rs u h)
    where
      now : (waiters d u ≡ true) × Only00 u fs
          → ((waiters c u ≡ true) × Only00 u (f ∷ fs)) ⊎ ((i : ℕ) × BeganBy (Paused (waiters c)) (f ∷ fs) u i)
      now x = split_eq u f.thread
          (λ e. let fl = (flag_00 r).0 (ap (waiters d) (sym e) ∙ x.0) in split (waiters c u)
          (λ w. inl (w, (λ _. fl, x.1)))
          (λ w. inr (0, began_now (waiters c) f fs u (sym e) fl w x.1)))
          (λ e. inl (sym (rule_others m ok.leaves notices r u e) ∙ x.0, (λ q. absurd (e (sym q)), x.1)))

  -- What a frame does to the order of two who wait

  module _ {c d : Config} {f : Frame} (r : Rule m notices c f d) (l : Lined m c.threads) where
    abbrev p : Threads
    p = c.threads

    abbrev p' : Threads
    p' = d.threads

    abbrev t : ℕ
    t = f.thread

    after : TurnsAfter m p f p'
    after = rule_turns m notices r l

    waits : (u : ℕ) → (waiters c u ≡ true) ↔ Waiting m (p.place u)
    unfolding Waiting
    waits u = waiting_iff (p.place u)

    -- whoever begins stands behind one who waits
    rule_last : f.flag ≡ false → waiters c t ≡ false → (u : ℕ) → waiters c u ≡ true → turn p' u < turn p' t
    rule_last fl new u h =
        omega (
          arith,
          (lined_turns m l).below u ((waits u).0 h),
          after.others_stay u (λ e. clash (ap (waiters c) (sym e) ∙ h) new) (λ _. fl),
          after.begins fl (λ w. clash ((waits t).1 w) new),
        )

    -- those ahead of some turn k keep theirs, and those behind it close up by one
    abbrev Closes : ℕ → Type 0
    Closes k =
        (u : ℕ) → waiters c u ≡ true → (t ≡ u → f.flag ≡ false)
        → ((turn p u < k) × (turn p' u ≡ turn p u)) ⊎ ((k < turn p u) × (suc (turn p' u) ≡ turn p u))

    -- where nobody resumes, all keep theirs
    keeps_all : (Waiting m (p.place t) → f.flag ≡ false) → Closes (length p.queue)
    keeps_all h u w o = inl (
      (lined_turns m l).below u ((waits u).0 w),
      split_eq u t
          (λ e. subst (λ (v : ℕ). turn p' v ≡ turn p v) (sym e)
          (after.recheck_stays (o (sym e)) ((waits t).0 (ap (waiters c) (sym e) ∙ w))))
          (λ e. after.others_stay u e h),
    )

    closes_up : f.flag ≡ true → Waiting m (p.place t) → Closes (turn p t)
    closes_up fl v u w o = split (ltb (turn p u) (turn p t))
        (λ h. let low = ltb-true (turn p u) (turn p t) h in inl (low, after.ahead_stay u fl v ((waits u).0 w) low))
        (λ h. let high : turn p t < turn p u = omega (arith, ltb-false (turn p u) (turn p t) h, other) in
        inr (high, after.behind_close u fl v ((waits u).0 w) high))
      where
        other : turn p u ≡ turn p t → ⊥
        other e = clash fl (o (sym ((lined_turns m l).once u t ((waits u).0 w) v e)))

    closes : (k : ℕ) × Closes k
    closes = split f.flag
        (λ fl. split (waiters c t) (λ w. (turn p t, closes_up fl ((waits t).0 w)))
        (λ w. (length p.queue, keeps_all (λ v. clash ((waits t).1 v) w))))
        (λ fl. (length p.queue, keeps_all (λ _. fl)))

    -- so nobody passes another
    rule_order : (u v : ℕ) → waiters c u ≡ true → waiters c v ≡ true → (t ≡ u → f.flag ≡ false)
        → (t ≡ v → f.flag ≡ false) → turn p u < turn p v → turn p' u < turn p' v
    rule_order u v a b o k low =
        let x = closes.1 u a o in
        let y = closes.1 v b k in
        ⊎_elim
        (λ q. ⊎_elim (λ z. omega (arith, low, q.1, z.1)) (λ z. omega (arith, q.0, q.1, z.0, z.1)) y)
        (λ q. ⊎_elim (λ z. absurd (omega (arith, low, q.0, z.0))) (λ z. omega (arith, low, q.1, z.1)) y) x

  -- and through all the frames

  order_stays :
      {c d : Config} {fs : List Frame} → Rules m notices c fs d → Lined m c.threads → (u v : ℕ)
      → waiters c u ≡ true → waiters c v ≡ true → Only00 u fs → Only00 v fs → turn c.threads u < turn c.threads v
      → turn d.threads u < turn d.threads v
  unfolding Only00
  order_stays no_more l u v a b o k low = low
  order_stays (one_more r rs) l u v a b o k low =
      order_stays rs (rule_lined m ok notices r l) u v (stays_waiting r u o.0 a) (stays_waiting r v k.0 b)
      o.1 k.1 (rule_order r l u v a b o.0 k.0 low)

  -- whoever begins to wait stands behind one who waits already
  order_waited :
      {c d : Config} {fs : List Frame} → Rules m notices c fs d → Lined m c.threads → (u v : ℕ)
      → waiters c u ≡ true → Only00 u fs → (j : ℕ) → BeganBy (Paused (waiters c)) fs v j
      → turn d.threads u < turn d.threads v
  unfolding Only00
  order_waited no_more l u v a o j b = absurd (began_none b)
  order_waited (one_more {c} {d} {f = f} {fs} r rs) l u v a o zero b =
      let x = began_first (waiters c) f fs v b in
      order_stays rs (rule_lined m ok notices r l) u v (stays_waiting r u o.0 a)
      (ap (waiters d) (sym x.0) ∙ (flag_00 r).1 x.1) o.1 x.3
      (subst (λ (w : ℕ). turn d.threads u < turn d.threads w) x.0
      (rule_last r l x.1 (ap (waiters c) x.0 ∙ x.2) u a))
  order_waited (one_more r rs) l u v a o (suc j) b =
      order_waited rs (rule_lined m ok notices r l) u v (stays_waiting r u o.0 a) o.1 j (began_less r b)

  -- so the earlier to begin has the lower turn
  order_began :
      {c d : Config} {fs : List Frame} → Rules m notices c fs d → Lined m c.threads → (u v i j : ℕ)
      → BeganBy (Paused (waiters c)) fs u i → BeganBy (Paused (waiters c)) fs v j → i < j
      → turn d.threads u < turn d.threads v
  order_began no_more l u v i j a b low = absurd (began_none a)
  order_began (one_more r rs) l u v zero zero a b low = absurd (omega arith)
  order_began (one_more {c} {d} {f = f} {fs} r rs) l u v zero (suc j) a b low =
      let x = began_first (waiters c) f fs u a in
      order_waited rs (rule_lined m ok notices r l) u v (ap (waiters d) (sym x.0) ∙ (flag_00 r).1 x.1) x.3 j
      (began_less r b)
  order_began (one_more r rs) l u v (suc i) zero a b low = absurd (omega arith)
  order_began (one_more r rs) l u v (suc i) (suc j) a b low =
      order_began rs (rule_lined m ok notices r l) u v i j (began_less r a) (began_less r b) (omega arith)

  order_iff :
      {c d : Config} {fs : List Frame} → Rules m notices c fs d → Lined m c.threads → (u v i j : ℕ)
      → BeganBy (Paused (waiters c)) fs u i → BeganBy (Paused (waiters c)) fs v j
      → (turn d.threads u < turn d.threads v) ↔ (i < j)
  order_iff {c} {d} rs l u v i j a b = (
    λ low. split (ltb i j) (ltb-true i j) (λ h. split_eq i j
        (λ e. absurd (omega (arith, low, ap (turn d.threads) (began_one (subst (BeganBy _ _ u) e a) b))))
        (λ e. absurd (omega (arith, low, order_began rs l v u j i b a (omega (arith, ltb-false i j h, e)))))),
    order_began rs l u v i j a b,
  )

pub in_order :
    (m : Monitor) → Checked m → (notices : Notices) (s : ℕ) (fs : List Frame) (c : Config)
    → Rules m notices (all_idle s) fs c → InOrder m fs c.threads
unfolding all_idle is_waiting Waiting
in_order m ok notices s fs c rs = record {
  began = λ u w. ⊎_elim (λ x. clash x.0 refl)
      (λ x. (x.0, began_told (λ l t. (paused_idle l t).1) x.1))
      (waited_or_began m ok notices rs u ((waiting_iff (c.threads.place u)).1 w));
  order = λ u v i j _ _ a b. order_iff m ok notices rs (idle_lined m) u v i j
      (began_told (λ l t. (paused_idle l t).0) a) (began_told (λ l t. (paused_idle l t).0) b);
}
