-- The step of `Decide/Step` decides the published rules, and its run their closure: each test says what the relation
-- says, a step that moves is a rule's and each rule's move is the step's. Shown once over whom a body notifies, then
-- for the two machines.
use Prim.Native.Nat.{ℕ, suc, ◌+◌, ◌≤◌}
use native.Mathlib.Omega.{arith}
use mathlib.Core.Path.{◌≡◌, refl, sym, subst, subst₂, ap, ap₂, ◌∙◌, fun_ext}
use mathlib.Core.Bool.{Bool, true, false, ◌&&◌, beq, and-eq-true_iff}
use mathlib.Core.Logic.Iff
use mathlib.Core.Logic.{◌⊎◌, inl, inr, ⊎_elim, ◌↔◌}
use mathlib.Core.List.{List, [], ◌∷◌, ◌++◌}
use lib.ListN.{length}
use Rattle.machine.specs.Monitor.{Place, waiting, Threads, Monitor, Frame, Config, accepted, stopped}
use Rattle.machine.specs.Decide.Step.{without, is_waiting, leave, Outcome, moved, refused, Told, first_notified}
use Rattle.machine.specs.Decide.Step.{plain_told, may, ran, waited, rechecked, allowed, act, judged, step, run}
use Rattle.machine.specs.Queue.{joined}
use Rattle.machine.specs.Algorithm1.{Entry}
use Rattle.machine.specs.Decide.Table.{table_told}
use Rattle.machine.specs.Rules.{Notices, PlainNotices, TableNotices, May, Waiting, Moved, NotifiedAre, OthersOf}
use Rattle.machine.specs.Rules.{Body, Rule, rule_1a, rule_1b, rule_2a, rule_2b, Rules, no_more, one_more}
use Rattle.logic.proofs.Bools.{clash, is_false, tests_equal, beq_equal, equal_beq, decides_or}
use Rattle.machine.proofs.Places.{without_iff}
use Rattle.machine.proofs.Tests.{may_iff, plain_notices, table_notices}
use Rattle.machine.proofs.Order.{began_moved, left_moved, moved_one, waiting_iff, first_notified_iff}
use Rattle.machine.specs.Rules.{Refuses, Stops, may_not, no_rule}

pub refuses_number : {m : Monitor} {notices : Notices} {c : Config} {f : Frame} {a : ℕ} → Refuses m notices c f a
    → (13 ≤ a) × (a ≤ 14)
refuses_number (may_not h) = (omega arith, omega arith)
refuses_number (no_rule k h) = (omega arith, omega arith)

-- A machine decides the rules over a set of notices
pub record Decides (m : Monitor) (told : Told) (notices : Notices) : Type 0 where
  pub moves : (c : Config) (f : Frame) (c' : Config) → (step m told c f ≡ moved c') ↔ Rule m notices c f c'
  pub one_move : (c : Config) (f : Frame) (c₁ c₂ : Config) → Rule m notices c f c₁ → Rule m notices c f c₂ → c₁ ≡ c₂
  pub refuses_as_13 : (c : Config) (f : Frame) → (step m told c f ≡ refused 13) ↔ (May m c.threads f → ⊥)
  pub refuses_as_14 :
      (c : Config) (f : Frame)
      → (step m told c f ≡ refused 14) ↔ (May m c.threads f × ((c' : Config) → Rule m notices c f c' → ⊥))
  pub nothing_else :
      (c : Config) (f : Frame)
      → ((c' : Config) × (step m told c f ≡ moved c')) ⊎ (step m told c f ≡ refused 13) ⊎ (step m told c f ≡ refused 14)
  pub accepts : (k : ℕ) (c : Config) (fs : List Frame) (c' : Config) → (run m told k c fs ≡ accepted c')
      ↔ Rules m notices c fs c'
  pub stops : (k : ℕ) (c : Config) (fs : List Frame) (a j : ℕ) → (run m told k c fs ≡ stopped a j)
      ↔ Stops m notices k c fs a j

pub refused_number :
    {m : Monitor} {told : Told} {notices : Notices} → Decides m told notices → (c : Config) (f : Frame) (a : ℕ)
    → step m told c f ≡ refused a → (13 ≤ a) × (a ≤ 14)
refused_number d c f a e = ⊎_elim (λ x. let q = x.1 in let z : ◌≡◌ {A = ℕ} 0 1 = cc in absurd (omega arith))
    (⊎_elim (λ x. let q : a ≡ 13 = cc in (omega arith, omega arith)) (λ x. let q : a ≡ 14 = cc in
    (omega arith, omega arith)))
    (d.nothing_else c f)

-- What the step's tests have found
data Verdict (m : Monitor) (notices : Notices) (c : Config) (f : Frame) : Outcome → Type 0 where
  by_rule : {c' : Config} → Rule m notices c f c' → Verdict m notices c f (moved c')
  not_there : (May m c.threads f → ⊥) → Verdict m notices c f (refused 13)
  not_allowed : May m c.threads f → Verdict m notices c f (refused 14)

-- A rule takes a frame that 13 passes, whose flag is the guard's truth
pub rule_takes : {m : Monitor} {notices : Notices} {c c' : Config} {f : Frame} → Rule m notices c f c'
    → May m c.threads f × (f.flag ≡ m.holds (m.guard_of f.region) c.state)
rule_takes (rule_1a a fl g w s p n) = (a, fl ∙ sym g)
rule_takes (rule_1b a fl g w k s p n) = (a, fl ∙ sym g)
rule_takes (rule_2a a fl g w b) = (a, fl ∙ sym g)
rule_takes (rule_2b a fl g w k l b) = (a, fl ∙ sym g)

-- A run by its first step

pub run_on :
    (m : Monitor) (told : Told) (k : ℕ) (c d : Config) (f : Frame) (fs : List Frame)
    → step m told c f ≡ moved d → run m told k c (f ∷ fs) ≡ run m told (suc k) d fs
unfolding run
run_on m told k c d f fs e = rw (e, run)

pub run_stop :
    (m : Monitor) (told : Told) (k : ℕ) (c : Config) (f : Frame) (fs : List Frame) (a : ℕ)
    → step m told c f ≡ refused a → run m told k c (f ∷ fs) ≡ stopped a k
unfolding run
run_stop m told k c f fs a e = rw (e, run)

-- Two points with equal parts are equal
config_equal :
    {c d : Config} → c.state ≡ d.state → c.threads ≡ d.threads
    → ((u : ℕ) → c.notified u ≡ d.notified u) → c ≡ d
config_equal s p n = λ i. record { state = s i; threads = p i; notified = fun_ext n i }

module _ (m : Monitor) (told : Told) (notices : Notices)
    (agree : (s : ℕ) (p : Threads) (r u : ℕ) → (told s p r u ≡ true) ↔ notices s p r u) where
  -- what each kind of frame leads to is what its rule says

  waited_moves :
      (c : Config) (f : Frame)
      → Moved m c.threads (waited m told c f).threads f.thread (waiting f.region)
      (joined c.threads.queue f.thread)
  unfolding waited
  waited_moves c f = began_moved m c.threads f.thread f.region

  ran_body : (c : Config) (f : Frame) → Body m notices c f (ran m told c f)
  unfolding ran NotifiedAre OthersOf
  ran_body c f =
      let t : ℕ = f.thread in
      let q : Place = m.follows f.region in
      let s' : ℕ = m.after f.region c.state in
      let p' : Threads = leave c.threads t q in
      record {
        state = refl;
        places = left_moved m c.threads t q;
        notified = λ u.
            decides_or (without c.notified t u) (told s' p' f.region u) (without_iff c.notified t u)
            (agree s' p' f.region u);
      }

  -- and nothing else is

  notified_only : (n₁ n₂ : ℕ → Bool) (who : ℕ → Type 0) → NotifiedAre m n₁ who → NotifiedAre m n₂ who → (u : ℕ)
      → n₁ u ≡ n₂ u
  unfolding NotifiedAre
  notified_only n₁ n₂ who a b u = tests_equal (n₁ u) (n₂ u) (λ h. (b u).1 ((a u).0 h)) (λ h. (a u).1 ((b u).0 h))

  body_only : {c c₁ c₂ : Config} {f : Frame} → Body m notices c f c₁ → Body m notices c f c₂ → c₁ ≡ c₂
  body_only {c} {c₁} {c₂} {f} a b =
      let s : c₁.state ≡ c₂.state = a.state ∙ sym b.state in
      let p : c₁.threads ≡ c₂.threads = moved_one m a.places b.places in
      let n : NotifiedAre m c₁.notified (who c₂.state c₂.threads) =
      subst₂ (λ (x : ℕ) (y : Threads). NotifiedAre m c₁.notified (who x y)) s p a.notified in
      config_equal s p (notified_only c₁.notified c₂.notified (who c₂.state c₂.threads) n b.notified)
    where
      who : ℕ → Threads → ℕ → Type 0
      who x y u = OthersOf m c.notified f.thread u ⊎ notices x y f.region u

  waited_only :
      (c : Config) (f : Frame) {c' : Config} → c'.state ≡ c.state
      → Moved m c.threads c'.threads f.thread (waiting f.region) (joined c.threads.queue f.thread)
      → NotifiedAre m c'.notified (λ u. c.notified u ≡ true) → waited m told c f ≡ c'
  unfolding waited NotifiedAre
  waited_only c f {c'} s p n = config_equal (sym s) (moved_one m (waited_moves c f) p)
      (notified_only c.notified c'.notified (λ u. c.notified u ≡ true) (λ u. (λ h. h, λ h. h)) n)

  rechecked_only : (c : Config) (f : Frame) {c' : Config} → c'.state ≡ c.state → c'.threads ≡ c.threads
      → NotifiedAre m c'.notified (OthersOf m c.notified f.thread) → rechecked m told c f ≡ c'
  unfolding rechecked NotifiedAre OthersOf
  rechecked_only c f {c'} s p n = config_equal (sym s) (sym p)
      (notified_only (without c.notified f.thread) c'.notified (OthersOf m c.notified f.thread)
      (without_iff c.notified f.thread) n)

  -- Every rule's move is the step's

  to_act : (c : Config) (f : Frame) → May m c.threads f → f.flag ≡ m.holds (m.guard_of f.region) c.state
      → step m told c f ≡ act m told c f (is_waiting (c.threads.place f.thread)) f.flag
  unfolding step judged
  to_act c f a b =
      ap₂ (judged m told c f) ((may_iff m c.threads f).1 a)
      (equal_beq f.flag (m.holds (m.guard_of f.region) c.state) b)

  rule_step : {c c' : Config} {f : Frame} → Rule m notices c f c' → step m told c f ≡ moved c'
  unfolding act allowed Waiting OthersOf
  rule_step {c} {c'} {f} (rule_1a a fl g w s p n) =
      to_act c f a (fl ∙ sym g)
      ∙ ap₂ (act m told c f) (is_false (λ h. w ((waiting_iff (c.threads.place f.thread)).0 h))) fl
      ∙ ap moved (waited_only c f s p n)
  rule_step {c} {c'} {f} (rule_1b a fl g w k s p n) =
      to_act c f a (fl ∙ sym g)
      ∙ ap₂ (act m told c f) ((waiting_iff (c.threads.place f.thread)).1 w) fl
      ∙ ap (λ (b : Bool). allowed m told b (rechecked m told c f)) k
      ∙ ap moved (rechecked_only c f s p n)
  rule_step {c} {c'} {f} (rule_2a a fl g w b) =
      to_act c f a (fl ∙ sym g)
      ∙ ap₂ (act m told c f) (is_false (λ h. w ((waiting_iff (c.threads.place f.thread)).0 h))) fl
      ∙ ap moved (body_only (ran_body c f) b)
  rule_step {c} {c'} {f} (rule_2b a fl g w k l b) =
      to_act c f a (fl ∙ sym g)
      ∙ ap₂ (act m told c f) ((waiting_iff (c.threads.place f.thread)).1 w) fl
      ∙ ap (λ (x : Bool). allowed m told x (ran m told c f))
      ((and-eq-true_iff (c.notified f.thread)
      (first_notified m c.threads c.notified (m.guard_of f.region) f.thread)).1
      (k, (first_notified_iff m c.threads c.notified (m.guard_of f.region) f.thread).1 l))
      ∙ ap moved (body_only (ran_body c f) b)

  -- Every step is a rule's, or 13, or 14

  verdict : (c : Config) (f : Frame) → Verdict m notices c f (step m told c f)
  unfolding step judged act allowed waited rechecked ran NotifiedAre OthersOf Waiting
  verdict c f = go (may m c.threads f) (beq f.flag (m.holds (m.guard_of f.region) c.state)) refl refl
    where
      t : ℕ
      t = f.thread

      g : ℕ
      g = m.guard_of f.region

      acted : May m c.threads f → f.flag ≡ m.holds g c.state → (w : Bool) → is_waiting (c.threads.place t) ≡ w
          → (b : Bool) → f.flag ≡ b → Verdict m notices c f (act m told c f w b)
      acted a e false w false fl =
          by_rule (rule_1a a fl (sym e ∙ fl) (λ x. clash ((waiting_iff (c.threads.place t)).1 x) w)
          refl (waited_moves c f) (λ u. (λ h. h, λ h. h)))
      acted a e false w true fl =
          by_rule (rule_2a a fl (sym e ∙ fl) (λ x. clash ((waiting_iff (c.threads.place t)).1 x) w) (ran_body c f))
      acted a e true w false fl = notice (c.notified t) refl
        where
          notice : (b : Bool) → c.notified t ≡ b → Verdict m notices c f (allowed m told b (rechecked m told c f))
          notice true k = by_rule (rule_1b a fl (sym e ∙ fl) ((waiting_iff (c.threads.place t)).0 w) k
              refl refl (without_iff c.notified t))
          notice false k = not_allowed a
      acted a e true w true fl = turn (c.notified t && first_notified m c.threads c.notified g t) refl
        where
          turn : (b : Bool) → c.notified t && first_notified m c.threads c.notified g t ≡ b
              → Verdict m notices c f (allowed m told b (ran m told c f))
          turn true k =
              let n = (and-eq-true_iff (c.notified t) (first_notified m c.threads c.notified g t)).0 k in
              by_rule (rule_2b a fl (sym e ∙ fl) ((waiting_iff (c.threads.place t)).0 w) n.0
              ((first_notified_iff m c.threads c.notified g t).0 n.1) (ran_body c f))
          turn false k = not_allowed a

      go : (a b : Bool) → may m c.threads f ≡ a → beq f.flag (m.holds g c.state) ≡ b
          → Verdict m notices c f (judged m told c f a b)
      go false b x y = not_there (λ h. clash ((may_iff m c.threads f).1 h) x)
      go true false x y = not_allowed ((may_iff m c.threads f).0 x)
      go true true x y =
          let e = beq_equal f.flag (m.holds g c.state) y in
          acted ((may_iff m c.threads f).0 x) e (is_waiting (c.threads.place t)) refl f.flag refl

  from_moved : {c c' : Config} {f : Frame} → Verdict m notices c f (moved c') → Rule m notices c f c'
  from_moved (by_rule r) = r

  from_refused :
      {c : Config} {f : Frame} {a : ℕ} → step m told c f ≡ refused a → Verdict m notices c f (refused a)
      → Refuses m notices c f a
  from_refused e (not_there h) = may_not h
  from_refused e (not_allowed h) = no_rule h (λ c' r. let z : ◌≡◌ {A = ℕ} 0 1 = cc (rule_step r) in omega arith)

  step_moved : (c : Config) (f : Frame) (c' : Config) → (step m told c f ≡ moved c') ↔ Rule m notices c f c'
  step_moved c f c' = (λ e. from_moved (subst (Verdict m notices c f) e (verdict c f)), rule_step)

  refuse_step : {c : Config} {f : Frame} {a : ℕ} → Refuses m notices c f a → step m told c f ≡ refused a
  refuse_step {c} {f} (may_not h) = go (step m told c f) (verdict c f)
    where
      go : (o : Outcome) → Verdict m notices c f o → o ≡ refused 13
      go o (by_rule r) = absurd (h (rule_takes r).0)
      go o (not_there k) = refl
      go o (not_allowed k) = absurd (h k)
  refuse_step {c} {f} (no_rule k h) = go (step m told c f) (verdict c f)
    where
      go : (o : Outcome) → Verdict m notices c f o → o ≡ refused 14
      go o (by_rule {c'} r) = absurd (h c' r)
      go o (not_there x) = absurd (x k)
      go o (not_allowed x) = refl

  step_refused : (c : Config) (f : Frame) (a : ℕ) → (step m told c f ≡ refused a) ↔ Refuses m notices c f a
  step_refused c f a = (λ e. from_refused e (subst (Verdict m notices c f) e (verdict c f)), refuse_step)

  -- Runs

  rules_of : (fs : List Frame) (k : ℕ) (c c' : Config) → run m told k c fs ≡ accepted c' → Rules m notices c fs c'
  unfolding run
  rules_of [] k c c' e = let z : c ≡ c' = cc in subst (λ (d : Config). Rules m notices c [] d) z no_more
  rules_of (f ∷ fs) k c c' e =
      go (step m told c f) refl (λ d q. rules_of fs (suc k) d c' (sym (run_on m told k c d f fs q) ∙ e))
    where
      go : (o : Outcome) → step m told c f ≡ o → ((d : Config) → step m told c f ≡ moved d → Rules m notices d fs c')
          → Rules m notices c (f ∷ fs) c'
      go (moved d) q rec = one_more ((step_moved c f d).0 q) (rec d q)
      go (refused a) q rec = let z : ◌≡◌ {A = ℕ} 0 1 = cc (run_stop m told k c f fs a q) in absurd (omega arith)

  run_of : {c c' : Config} {fs : List Frame} → Rules m notices c fs c' → (k : ℕ) → run m told k c fs ≡ accepted c'
  unfolding run
  run_of no_more k = refl
  run_of (one_more {c} {d} {c'} {f} {fs} r rs) k = run_on m told k c d f fs (rule_step r) ∙ run_of rs (suc k)

  run_accepted :
      (k : ℕ) (c : Config) (fs : List Frame) (c' : Config) → (run m told k c fs ≡ accepted c') ↔ Rules m notices c fs c'
  run_accepted k c fs c' = (rules_of fs k c c', λ r. run_of r k)

  stops_of : (fs : List Frame) (k : ℕ) (c : Config) (a j : ℕ) → run m told k c fs ≡ stopped a j
      → Stops m notices k c fs a j
  unfolding run
  stops_of [] k c a j e = let z : ◌≡◌ {A = ℕ} 0 1 = cc in absurd (omega arith)
  stops_of (f ∷ fs) k c a j e =
      go (step m told c f) refl (λ d q. stops_of fs (suc k) d a j (sym (run_on m told k c d f fs q) ∙ e))
    where
      go : (o : Outcome) → step m told c f ≡ o
          → ((d : Config) → step m told c f ≡ moved d → Stops m notices (suc k) d fs a j)
          → Stops m notices k c (f ∷ fs) a j
      go (moved d) q rec =
          let r = rec d q in
          record {
            front = f ∷ r.front;
            frame = r.frame;
            more = r.more;
            point = r.point;
            splits = ap {B = List Frame} (λ l. f ∷ l) r.splits;
            place = let z = r.place in omega arith;
            allow = one_more ((step_moved c f d).0 q) r.allow;
            refuse = r.refuse;
          }
      go (refused b) q rec =
          let x = run_stop m told k c f fs b q in
          let y : b ≡ a = cc in
          let z : k ≡ j = cc in
          record {
            front = [];
            frame = f;
            more = fs;
            point = c;
            splits = refl;
            place = omega arith;
            allow = no_more;
            refuse = (step_refused c f a).0 (q ∙ ap refused y);
          }

  stop_of : {c d : Config} {front : List Frame} → Rules m notices c front d
      → (k : ℕ) (f : Frame) (more : List Frame) (a : ℕ)
      → Refuses m notices d f a → run m told k c (front ++ (f ∷ more)) ≡ stopped a (k + length front)
  stop_of (no_more {c}) k f more a h = run_stop m told k c f more a (refuse_step h) ∙ ap (stopped a) (omega arith)
  stop_of (one_more {c} {d} {c'} {f = f₀} {fs} r rs) k f more a h =
      run_on m told k c d f₀ (fs ++ (f ∷ more)) (rule_step r) ∙ stop_of rs (suc k) f more a h
      ∙ ap (stopped a) (omega arith)

  run_stopped :
      (k : ℕ) (c : Config) (fs : List Frame) (a j : ℕ) → (run m told k c fs ≡ stopped a j) ↔ Stops m notices k c fs a j
  run_stopped k c fs a j = (
    stops_of fs k c a j,
    λ s. ap (run m told k c) s.splits ∙ stop_of s.allow k s.frame s.more a s.refuse
        ∙ ap (stopped a) (sym s.place),
  )

  pub decides : Decides m told notices
  decides = record {
    moves = step_moved;
    one_move = λ c f c₁ c₂ a b. let x = rule_step a in let y = rule_step b in cc;
    refuses_as_13 = λ c f. (λ e. refuses_13 ((step_refused c f 13).0 e) refl, λ h. refuse_step (may_not h));
    refuses_as_14 = λ c f. (λ e. refuses_14 ((step_refused c f 14).0 e) refl, λ h. refuse_step (no_rule h.0 h.1));
    nothing_else = λ c f. go c f (step m told c f) (verdict c f);
    accepts = run_accepted;
    stops = run_stopped;
  }
    where
      go : (c : Config) (f : Frame) (o : Outcome) → Verdict m notices c f o
          → ((c' : Config) × (o ≡ moved c')) ⊎ (o ≡ refused 13) ⊎ (o ≡ refused 14)
      go c f o (by_rule {c'} r) = inl (c', refl)
      go c f o (not_there k) = inr (inl refl)
      go c f o (not_allowed k) = inr (inr refl)

      refuses_13 : {c : Config} {f : Frame} {a : ℕ} → Refuses m notices c f a → a ≡ 13 → May m c.threads f → ⊥
      refuses_13 (may_not h) e = h
      refuses_13 (no_rule k h) e = absurd (omega arith)

      refuses_14 : {c : Config} {f : Frame} {a : ℕ} → Refuses m notices c f a → a ≡ 14
          → May m c.threads f × ((c' : Config) → Rule m notices c f c' → ⊥)
      refuses_14 (may_not h) e = absurd (omega arith)
      refuses_14 (no_rule k h) e = (k, h)

-- for any choice of whom a body notifies
pub told_decides : (m : Monitor) (told : Told) → Decides m told (λ s p r u. told s p r u ≡ true)
told_decides m told = decides m told (λ s p r u. told s p r u ≡ true) (λ s p r u. Iff.rfl)

pub plain_decides : (m : Monitor) → Decides m (plain_told m) (PlainNotices m)
plain_decides m = decides m (plain_told m) (PlainNotices m) (plain_notices m)

pub table_decides : (m : Monitor) (e : ℕ → ℕ → Entry) → Decides m (table_told m e) (TableNotices m e)
table_decides m e = decides m (table_told m e) (TableNotices m e) (table_notices m e)
