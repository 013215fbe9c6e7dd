-- The rules over states of another kind: where each number stands for such a state, where a guard is as true, and where
-- a body that may run leads exactly to the state of the number after it, the rules take the same frames and lead to the
-- same points. A rule at a time, then along a list.
use Prim.Native.Nat.{ℕ}
use mathlib.Core.Path.{◌≡◌, refl, sym, ap, subst, ◌∙◌}
use mathlib.Core.Logic.{inl, inr, ⊎_elim, ◌↔◌}
use mathlib.Core.List.{List}
use Rattle.machine.specs.Monitor.{Threads, Monitor, Frame, Point, Config, with_state}
use Rattle.machine.specs.Algorithm1.{MayRun, Holds}
use Rattle.machine.specs.Agreement.{Checked}
use Rattle.machine.specs.Rules.{Semantics, NoticesOver, Notices, NotifiedAre, BodyBy, RuleBy, RulesBy, RefusesBy}
use Rattle.machine.specs.Rules.{StopsBy, Body, Rule, Rules, Refuses, Stops, rule_1a, rule_1b, rule_2a, rule_2b}
use Rattle.machine.specs.Rules.{no_more, one_more, may_not, no_rule}
use Rattle.machine.proofs.Reached.{Reached, rule_reached, rules_reached}

-- each number stands for a state of another kind
pub record Views (m : Monitor) {S : Type 0} (sense : Semantics S) (view : ℕ → S) (notices : Notices)
    (others : NoticesOver S) : Type 0 where
  pub same_truth : (g s : ℕ) → sense.holds g (view s) ≡ m.holds g s
  pub same_runs : (r s : ℕ) → MayRun m r s → (x : S) → sense.runs r (view s) x ↔ (x ≡ view (m.after r s))
  pub same_notices : (s : ℕ) (p : Threads) (r u : ℕ) → others (view s) p r u ↔ notices s p r u

-- a point as it looks in states of the other kind
abbrev viewed : {S : Type 0} → (ℕ → S) → Config → Point S
viewed view c = with_state (view c.state) c

viewed_with : {S : Type 0} (view : ℕ → S) (d : Point S) (s : ℕ) → d.state ≡ view s → d ≡ viewed view (with_state s d)
viewed_with view d s e = λ i. with_state (e i) d

module _ (m : Monitor) (ok : Checked m) {S : Type 0} {sense : Semantics S} {view : ℕ → S} {notices : Notices}
    {others : NoticesOver S} (v : Views m sense view notices others) where
  truth : (c : Config) (f : Frame)
      → sense.holds (m.guard_of f.region) (view c.state) ≡ m.holds (m.guard_of f.region) c.state
  truth c f = v.same_truth (m.guard_of f.region) c.state

  to_body : {c c' : Config} {f : Frame} → MayRun m f.region c.state → Body m notices c f c'
      → BodyBy m sense others (viewed view c) f (viewed view c')
  unfolding NotifiedAre
  to_body {c} {c'} {f} r b =
      let told = v.same_notices c'.state c'.threads f.region in
      record {
        state = (v.same_runs f.region c.state r (view c'.state)).1 (ap view b.state);
        places = b.places;
        notified = λ u. (
          λ h. ⊎_elim inl (λ n. inr ((told u).1 n)) ((b.notified u).0 h),
          λ h. (b.notified u).1 (⊎_elim inl (λ n. inr ((told u).0 n)) h),
        );
      }

  from_body : {c : Config} {f : Frame} {d : Point S} → MayRun m f.region c.state
      → BodyBy m sense others (viewed view c) f d
      → (c' : Config) × Body m notices c f c' × (d ≡ viewed view c')
  unfolding NotifiedAre
  from_body {c} {f} {d} r b =
      let s = m.after f.region c.state in
      let e : d.state ≡ view s = (v.same_runs f.region c.state r d.state).0 b.state in
      let told : (u : ℕ) → others d.state d.threads f.region u ↔ notices s d.threads f.region u =
      λ u. rw e (v.same_notices s d.threads f.region u) in (
        with_state s d,
        record {
          state = refl;
          places = b.places;
          notified = λ u. (
            λ h. ⊎_elim inl (λ n. inr ((told u).0 n)) ((b.notified u).0 h),
            λ h. (b.notified u).1 (⊎_elim inl (λ n. inr ((told u).1 n)) h),
          );
        },
        viewed_with view d s e,
      )

  to_rule : {c c' : Config} {f : Frame} → Reached m c → Rule m notices c f c'
      → RuleBy m sense others (viewed view c) f (viewed view c')
  unfolding Holds
  to_rule {c} {c'} {f} x (rule_1a a fl g w s p n) =
      rule_1a a fl (truth c f ∙ g) w (ap view s) p n
  to_rule {c} {c'} {f} x (rule_1b a fl g w k s p n) =
      rule_1b a fl (truth c f ∙ g) w k (ap view s) p n
  to_rule {c} {c'} {f} x (rule_2a a fl g w b) =
      rule_2a a fl (truth c f ∙ g) w (to_body (record { is_kept = x.is_kept; guard = g }) b)
  to_rule {c} {c'} {f} x (rule_2b a fl g w k l b) =
      rule_2b a fl (truth c f ∙ g) w k l (to_body (record { is_kept = x.is_kept; guard = g }) b)

  from_rule : (c : Config) {f : Frame} {d : Point S} → Reached m c → RuleBy m sense others (viewed view c) f d
      → (c' : Config) × Rule m notices c f c' × (d ≡ viewed view c')
  unfolding Holds
  from_rule c {f} {d} x (rule_1a a fl g w s p n) = (
    with_state c.state d,
    rule_1a a fl (sym (truth c f) ∙ g) w refl p n,
    viewed_with view d c.state s,
  )
  from_rule c {f} {d} x (rule_1b a fl g w k s p n) = (
    with_state c.state d,
    rule_1b a fl (sym (truth c f) ∙ g) w k refl p n,
    viewed_with view d c.state s,
  )
  from_rule c {f} {d} x (rule_2a a fl g w b) =
      let h = sym (truth c f) ∙ g in
      let t = from_body (record { is_kept = x.is_kept; guard = h }) b in
      (t.0, rule_2a a fl h w t.1, t.2)
  from_rule c {f} {d} x (rule_2b a fl g w k l b) =
      let h = sym (truth c f) ∙ g in
      let t = from_body (record { is_kept = x.is_kept; guard = h }) b in
      (t.0, rule_2b a fl h w k l t.1, t.2)

  to_rules : {c c' : Config} {fs : List Frame} → Reached m c → Rules m notices c fs c'
      → RulesBy m sense others (viewed view c) fs (viewed view c')
  to_rules x no_more = no_more
  to_rules x (one_more r rs) = one_more (to_rule x r) (to_rules (rule_reached m ok notices r x) rs)

  from_rules : {b d : Point S} {fs : List Frame} → RulesBy m sense others b fs d → (c : Config) → b ≡ viewed view c
      → Reached m c → (c' : Config) × Rules m notices c fs c' × (d ≡ viewed view c')
  from_rules no_more c e x = (c, no_more, e)
  from_rules (one_more {d = d} {f = f} r rs) c e x =
      let s = from_rule c x (subst (λ (b : Point S). RuleBy m sense others b f d) e r) in
      let t = from_rules rs s.0 s.2 (rule_reached m ok notices s.1 x) in
      (t.0, one_more s.1 t.1, t.2)

  pub rules_viewed : {c : Config} → Reached m c → (fs : List Frame) (d : Point S)
      → ((c' : Config) × Rules m notices c fs c' × (d ≡ viewed view c')) ↔ RulesBy m sense others (viewed view c) fs d
  rules_viewed {c} x fs d = (
    λ t. subst (RulesBy m sense others (viewed view c) fs) (sym t.2) (to_rules x t.1),
    λ r. from_rules r c refl x,
  )

  to_refuses : {c : Config} {f : Frame} {a : ℕ} → Reached m c → Refuses m notices c f a
      → RefusesBy m sense others (viewed view c) f a
  to_refuses x (may_not h) = may_not h
  to_refuses {c} x (no_rule k h) = no_rule k (λ d r. let t = from_rule c x r in h t.0 t.1)

  from_refuses : {c : Config} {f : Frame} {a : ℕ} → Reached m c → RefusesBy m sense others (viewed view c) f a
      → Refuses m notices c f a
  from_refuses x (may_not h) = may_not h
  from_refuses x (no_rule k h) = no_rule k (λ c' r. h (viewed view c') (to_rule x r))

  pub stops_viewed : {c : Config} → Reached m c → (k : ℕ) (fs : List Frame) (a j : ℕ)
      → Stops m notices k c fs a j ↔ StopsBy m sense others k (viewed view c) fs a j
  stops_viewed {c} x k fs a j = (
    λ t. record {
      front = t.front;
      frame = t.frame;
      more = t.more;
      point = viewed view t.point;
      splits = t.splits;
      place = t.place;
      allow = to_rules x t.allow;
      refuse = to_refuses (rules_reached m ok notices t.allow x) t.refuse;
    },
    λ t.
        let (c', rs, e) = from_rules t.allow c refl x in
        record {
          front = t.front;
          frame = t.frame;
          more = t.more;
          point = c';
          splits = t.splits;
          place = t.place;
          allow = rs;
          refuse = from_refuses (rules_reached m ok notices rs x)
              (subst (λ (d : Point S). RefusesBy m sense others d t.frame a) e t.refuse);
        },
  )
