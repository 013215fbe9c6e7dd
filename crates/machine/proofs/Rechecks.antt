-- Wherever the rules allow a list of frames, a thread waits at its end exactly if the last frame that it sent had the
-- flag 00, so a recheck is a waiting thread's frame with 00: by induction over the list, for any machine.
use Prim.Native.Nat.{ℕ, suc}
use native.Mathlib.Omega.{arith}
use mathlib.Core.Path.{◌≡◌, refl, sym, subst, subst₂, ap, ◌∙◌}
use mathlib.Core.Bool.{Bool, true, false, not}
use mathlib.Core.Logic.{◌↔◌, inl, inr, ⊎_elim}
use mathlib.Core.List.{List, [], ◌∷◌, ◌++◌}
use borrow.Author.Tests.{not-true}
use lib.ListN.{length, take, drop}
use lib.Seq.{take_at, drop_at}
use Rattle.machine.specs.Monitor.{Threads, Monitor, Frame, Config}
use Rattle.machine.specs.Decide.Step.{is_waiting}
use Rattle.machine.specs.Rules.{Notices, Waiting, Rule, rule_1a, rule_1b, rule_2a, rule_2b, Rules, no_more}
use Rattle.machine.specs.Rules.{one_more}
use Rattle.logic.proofs.Bools.{clash, split_eq}
use Rattle.machine.specs.Recheck.{Absent, LastOf, Paused, Recheck, RecheckBy, RecheckFrom, SentLast00}

-- nobody waits at the beginning

pub paused_idle : (fs : List Frame) (t : ℕ) → Paused (λ _. false) fs t ↔ SentLast00 fs t
unfolding Paused
paused_idle fs t = (⊎_elim (λ x. x) (λ x. clash x.1 refl), inl)

pub recheck_iff : (fs : List Frame) (k : ℕ) → RecheckFrom (λ _. false) fs k ↔ Recheck fs k
recheck_iff fs k = (
  told (Paused (λ _. false)) SentLast00 (λ l t. (paused_idle l t).0),
  told SentLast00 (Paused (λ _. false)) (λ l t. (paused_idle l t).1),
)
  where
    told : (A B : List Frame → ℕ → Type 0) → ((l : List Frame) (t : ℕ) → A l t → B l t) → RecheckBy A fs k
        → RecheckBy B fs k
    told A B h r = record {
      front = r.front;
      frame = r.frame;
      more = r.more;
      splits = r.splits;
      place = r.place;
      flag = r.flag;
      so_before = h r.front r.frame.thread r.so_before;
    }

-- who waits at a point
abbrev pub waiters : Config → ℕ → Bool
waiters c u = is_waiting (c.threads.place u)

-- a waiting thread's frame with 00
pub recheck_now :
    (began : ℕ → Bool) (f : Frame) (fs : List Frame) → began f.thread ≡ true → f.flag ≡ false
    → RecheckFrom began (f ∷ fs) 0
unfolding Paused Absent
recheck_now began f fs w fl = record {
  front = [];
  frame = f;
  more = fs;
  splits = refl;
  place = refl;
  flag = fl;
  so_before = inr (tt, w);
}

pub paused_none : (began : ℕ → Bool) (u : ℕ) → Paused began [] u → began u ≡ true
unfolding Paused SentLast00
paused_none began u (inl x) = go x.1.earlier x.1.splits
  where
    go : (y : List Frame) → [] ≡ y ++ (x.0 ∷ x.1.later) → began u ≡ true
    go [] s = let k : ◌≡◌ {A = ℕ} 0 1 = cc in absurd (omega arith)
    go (z ∷ y) s = let k : ◌≡◌ {A = ℕ} 0 1 = cc in absurd (omega arith)
paused_none began u (inr x) = x.1

-- One frame more in front, which makes its thread wait exactly if its flag is 00
module _ (f : Frame) (began now : ℕ → Bool) (own : now f.thread ≡ not f.flag)
    (others : (u : ℕ) → (u ≡ f.thread → ⊥) → now u ≡ began u) where
  last_longer : (fs : List Frame) (u : ℕ) (e : Frame) → LastOf fs u e → LastOf (f ∷ fs) u e
  last_longer fs u e l = record {
    earlier = f ∷ l.earlier;
    later = l.later;
    splits = ap {B = List Frame} (λ x. f ∷ x) l.splits;
    sent = l.sent;
    none_later = l.none_later;
  }

  last_here : (fs : List Frame) (u : ℕ) → u ≡ f.thread → Absent u fs → LastOf (f ∷ fs) u f
  last_here fs u q a = record { earlier = []; later = fs; splits = refl; sent = sym q; none_later = a }

  longer : (fs : List Frame) (u : ℕ) → Paused now fs u → Paused began (f ∷ fs) u
  unfolding Paused SentLast00 Absent
  longer fs u (inl x) = inl (x.0, last_longer fs u x.0 x.1, x.2)
  longer fs u (inr x) = split_eq u f.thread
      (λ q. inl (f, last_here fs u q x.0, not-true f.flag (sym own ∙ ap now (sym q) ∙ x.1)))
      (λ q. inr ((λ y. q (sym y), x.0), sym (others u q) ∙ x.1))

  shorter : (fs : List Frame) (u : ℕ) → Paused began (f ∷ fs) u → Paused now fs u
  unfolding Paused SentLast00 Absent
  shorter fs u (inl (e, l, z)) = go l.earlier l.splits
    where
      go : (x : List Frame) → f ∷ fs ≡ x ++ (e ∷ l.later) → Paused now fs u
      go [] s =
          let h : f ≡ e = cc in
          let k : fs ≡ l.later = cc in
          let t : f.thread ≡ u = ap (λ (y : Frame). y.thread) h ∙ l.sent in
          let n : now u ≡ true = ap now (sym t) ∙ own ∙ ap not (ap (λ (y : Frame). y.flag) h ∙ z) in
          inr (subst (Absent u) (sym k) l.none_later, n)
      go (y ∷ x) s =
          inl (e, record { earlier = x; later = l.later; splits = cc; sent = l.sent; none_later = l.none_later }, z)
  shorter fs u (inr x) = inr (x.0.1, others u (λ q. x.0.0 (sym q)) ∙ x.1)

-- a list is split at a place in one way
pub same_split :
    (front front' : List Frame) (f f' : Frame) (more more' : List Frame)
    → front ++ (f ∷ more) ≡ front' ++ (f' ∷ more') → length front' ≡ length front → (front' ≡ front) × (f' ≡ f)
same_split front front' f f' more more' e n =
    let a : take (length front) (front ++ (f ∷ more)) ≡ front = take_at front (f ∷ more) (length front) refl in
    let b : take (length front) (front' ++ (f' ∷ more')) ≡ front' = take_at front' (f' ∷ more') (length front) n in
    let c : drop (length front) (front ++ (f ∷ more)) ≡ f ∷ more = drop_at front (f ∷ more) (length front) refl in
    let d : drop (length front) (front' ++ (f' ∷ more')) ≡ f' ∷ more' = drop_at front' (f' ∷ more') (length front) n in
    let x : f ∷ more ≡ f' ∷ more' = sym c ∙ ap (drop (length front)) e ∙ d in
    (sym b ∙ ap (take (length front)) (sym e) ∙ a, cc)

module _ (m : Monitor) (leaves : (r : ℕ) → is_waiting (m.follows r) ≡ false) (notices : Notices) where
  -- after a frame its thread waits exactly if the flag is 00
  pub rule_own : {c d : Config} {f : Frame} → Rule m notices c f d → waiters d f.thread ≡ not f.flag
  unfolding is_waiting Waiting
  rule_own {c} {d} {f} (rule_1a a fl g w s p n) = ap is_waiting p.own_place ∙ ap not (sym fl)
  rule_own {c} {d} {f} (rule_1b a fl g w k s p n) =
      ap (λ (q : Threads). is_waiting (q.place f.thread)) p ∙ ap is_waiting w.1 ∙ ap not (sym fl)
  rule_own {c} {d} {f} (rule_2a a fl g w b) = ap is_waiting b.places.own_place ∙ leaves f.region ∙ ap not (sym fl)
  rule_own {c} {d} {f} (rule_2b a fl g w k l b) = ap is_waiting b.places.own_place ∙ leaves f.region
      ∙ ap not (sym fl)

  pub rule_others : {c d : Config} {f : Frame} → Rule m notices c f d → (u : ℕ) → (u ≡ f.thread → ⊥)
      → waiters d u ≡ waiters c u
  rule_others (rule_1a a fl g w s p n) u q = ap is_waiting (p.others u q)
  rule_others (rule_1b a fl g w k s p n) u q = ap (λ (x : Threads). is_waiting (x.place u)) p
  rule_others (rule_2a a fl g w b) u q = ap is_waiting (b.places.others u q)
  rule_others (rule_2b a fl g w k l b) u q = ap is_waiting (b.places.others u q)

  -- so who has paused is told from one frame more in front
  pub paused_more : {c d : Config} {f : Frame} → Rule m notices c f d → (fs : List Frame) (u : ℕ)
      → Paused (waiters d) fs u ↔ Paused (waiters c) (f ∷ fs) u
  paused_more {c} {d} {f} r fs u = (
    longer f (waiters c) (waiters d) (rule_own r) (rule_others r) fs u,
    shorter f (waiters c) (waiters d) (rule_own r) (rule_others r) fs u,
  )

  pub waiting_paused :
      {c d : Config} {fs : List Frame} → Rules m notices c fs d → (u : ℕ) → waiters d u ≡ true → Paused (waiters c) fs u
  unfolding Paused Absent
  waiting_paused no_more u h = inr (tt, h)
  waiting_paused (one_more {fs} r rs) u h = (paused_more r fs u).0 (waiting_paused rs u h)

  pub paused_waiting :
      {c d : Config} {fs : List Frame} → Rules m notices c fs d → (u : ℕ) → Paused (waiters c) fs u → waiters d u ≡ true
  paused_waiting (no_more {c}) u h = paused_none (waiters c) u h
  paused_waiting (one_more {fs} r rs) u h = paused_waiting rs u ((paused_more r fs u).1 h)

  -- a recheck after one frame more
  pub recheck_later :
      {c d : Config} {f : Frame} {fs : List Frame} {k : ℕ} → Rule m notices c f d
      → RecheckFrom (waiters d) fs k → RecheckFrom (waiters c) (f ∷ fs) (suc k)
  recheck_later {c} {d} {f} {fs} {k} rule r = record {
    front = f ∷ r.front;
    frame = r.frame;
    more = r.more;
    splits = ap {B = List Frame} (λ x. f ∷ x) r.splits;
    place = ap suc r.place;
    flag = r.flag;
    so_before = (paused_more rule r.front r.frame.thread).0 r.so_before;
  }

  -- A frame after allowed ones is a recheck exactly if its flag is 00 and its thread waits
  pub recheck_waits :
      {c d : Config} {front : List Frame} → Rules m notices c front d → (f : Frame) (more : List Frame)
      → RecheckFrom (waiters c) (front ++ (f ∷ more)) (length front)
      ↔ ((f.flag ≡ false) × (waiters d f.thread ≡ true))
  recheck_waits {c} {d} {front} rs f more = (to, from)
    where
      to : RecheckFrom (waiters c) (front ++ (f ∷ more)) (length front)
          → (f.flag ≡ false) × (waiters d f.thread ≡ true)
      to r =
          let z = same_split front r.front f r.frame more r.more r.splits r.place in (
            ap (λ (x : Frame). x.flag) (sym z.1) ∙ r.flag,
            paused_waiting rs f.thread (subst₂ (λ (x : List Frame) (y : Frame). Paused (waiters c) x y.thread)
                z.0 z.1 r.so_before),
          )

      from : (f.flag ≡ false) × (waiters d f.thread ≡ true)
          → RecheckFrom (waiters c) (front ++ (f ∷ more)) (length front)
      from h = record {
        front = front;
        frame = f;
        more = more;
        splits = refl;
        place = refl;
        flag = h.0;
        so_before = waiting_paused rs f.thread h.1;
      }
