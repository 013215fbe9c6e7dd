-- The two machines, side by side: from any two points that agree, each frame is answered alike or is a recheck that the
-- table's machine refuses, and leads to points that agree. By induction over the list of frames, on `Points`.
use Prim.Native.Nat.{ℕ, suc, ◌+◌}
use native.Mathlib.Omega.{arith}
use mathlib.Core.Path.{◌≡◌, refl, sym, subst, ap, ◌∙◌}
use mathlib.Core.Bool.{Bool, true, false, ◌&&◌, beq, true≢false}
use mathlib.Core.List.{List, [], ◌∷◌}
use Rattle.machine.specs.Monitor.{Place, waiting, Threads, Monitor, Frame, Config, Run, accepted, stopped}
use Rattle.machine.specs.Decide.Step.{is_waiting, Outcome, moved, refused, first_notified, plain_told, may, ran}
use Rattle.machine.specs.Decide.Step.{waited, rechecked, allowed, act, judged, step, run}
use Rattle.machine.specs.Algorithm1.{Entry}
use Rattle.machine.specs.Decide.Table.{table_told}
use Rattle.machine.specs.Rules.{TableNotices, MayBeAt, May, Rule}
use Rattle.logic.proofs.Bools.{clash, beq_equal}
use Rattle.machine.proofs.Order.{waiting_iff, front_waits}
use Rattle.machine.proofs.Tests.{may_iff}
use Rattle.machine.proofs.RulesDecided.{run_on, run_stop, table_decides}
use Rattle.machine.proofs.Rechecks.{waiters, recheck_now, recheck_later}
use Rattle.machine.specs.Recheck.{RecheckFrom}
use Rattle.machine.specs.Agreement.{Checked}
use Rattle.machine.proofs.Points.{Placed, PlainPoint, Agree, resumes, ran_plain, ran_agree, waited_plain}
use Rattle.machine.proofs.Points.{waited_agree, rechecked_plain, rechecked_agree}

-- One frame

abbrev pub at : ℕ → Threads → (ℕ → Bool) → Config
at s p n = record { state = s; threads = p; notified = n }

-- a waiting thread names its own region
pub own_region :
    (m : Monitor) (p : Threads) (f : Frame) → May m p f → (w : ℕ) → p.place f.thread ≡ waiting w → w ≡ f.region
unfolding MayBeAt
own_region m p f a w z = subst (λ (q : Place). MayBeAt m q f.region) z a.at_region

waits_here :
    (m : Monitor) (p : Threads) (f : Frame) → May m p f → is_waiting (p.place f.thread) ≡ true
    → p.place f.thread ≡ waiting f.region
waits_here m p f a h =
    let w = (waiting_iff (p.place f.thread)).0 h in w.1 ∙ ap waiting (own_region m p f a w.0 w.1)

-- the plain machine's frame is refused, or leads to a point again
pub data PlainGoesOn (m : Monitor) : Outcome → Type 0 where
  ends : {a : ℕ} → PlainGoesOn m (refused a)
  goes_on : {s : ℕ} {p : Threads} {n : ℕ → Bool} → PlainPoint m s p n → PlainGoesOn m (moved (at s p n))

-- Both refuse alike; or the table's refuses a recheck; or both move to points that agree
pub data Match (m : Monitor) (bc : ℕ → Bool) (p : Threads) (f : Frame) : Outcome → Outcome → Type 0 where
  alike : {a : ℕ} → Match m bc p f (refused a) (refused a)
  lost : {o : Outcome} → is_waiting (p.place f.thread) ≡ true → f.flag ≡ false → Match m bc p f o (refused 14)
  both_move :
      {s : ℕ} {q : Threads} {nP n_t : ℕ → Bool} → Agree m bc s q nP n_t
      → Match m bc p f (moved (at s q nP)) (moved (at s q n_t))

module _ (m : Monitor) (ok : Checked m) (s : ℕ) (p : Threads) (f : Frame) where
  pub step_plain : (n : ℕ → Bool) → PlainPoint m s p n → PlainGoesOn m (step m (plain_told m) (at s p n) f)
  unfolding step judged act allowed ran waited rechecked
  step_plain n pt = go (may m p f) (beq f.flag (m.holds (m.guard_of f.region) s)) refl refl
    where
      t : ℕ
      t = f.thread

      r : ℕ
      r = f.region

      g : ℕ
      g = m.guard_of r

      now : (b : Bool) (c : Config) → PlainGoesOn m (moved c) → PlainGoesOn m (allowed m (plain_told m) b c)
      now true c h = h
      now false c h = ends

      acted : May m p f → f.flag ≡ m.holds g s → (w : Bool) → is_waiting (p.place t) ≡ w → (b : Bool) → f.flag ≡ b
          → PlainGoesOn m (act m (plain_told m) (at s p n) f w b)
      acted a e false w false fl = goes_on (waited_plain m s p t r (sym e ∙ fl) w n pt)
      acted a e false w true fl = goes_on (ran_plain m ok s p t r (sym e ∙ fl) n pt)
      acted a e true w false fl = now (n t) (rechecked m (plain_told m) (at s p n) f)
          (goes_on (rechecked_plain m s p t r (sym e ∙ fl) (waits_here m p f a w) n pt))
      acted a e true w true fl = now (n t && first_notified m p n g t) (ran m (plain_told m) (at s p n) f)
          (goes_on (ran_plain m ok s p t r (sym e ∙ fl) n pt))

      go : (a b : Bool) → may m p f ≡ a → beq f.flag (m.holds g s) ≡ b
          → PlainGoesOn m (judged m (plain_told m) (at s p n) f a b)
      go false b x y = ends
      go true false x y = ends
      go true true x y = acted ((may_iff m p f).0 x) (beq_equal f.flag (m.holds g s) y)
          (is_waiting (p.place t)) refl f.flag refl

  module _ (e : ℕ → ℕ → Entry) (bc : ℕ → Bool) (placed : Placed m e bc) (nP n_t : ℕ → Bool) (ag : Agree m bc s p nP n_t)
    where
      pub step_agree : Match m bc p f (step m (plain_told m) (at s p nP) f) (step m (table_told m e) (at s p n_t) f)
      unfolding step judged act allowed ran waited rechecked
      step_agree = go (may m p f) (beq f.flag (m.holds (m.guard_of f.region) s)) refl refl
        where
          t : ℕ
          t = f.thread

          r : ℕ
          r = f.region

          g : ℕ
          g = m.guard_of r

          acted : May m p f → f.flag ≡ m.holds g s → (w : Bool) → is_waiting (p.place t) ≡ w → (b : Bool)
              → f.flag ≡ b
              → Match m bc p f (act m (plain_told m) (at s p nP) f w b) (act m (table_told m e) (at s p n_t) f w b)
          acted a k false w false fl = both_move (waited_agree m s p t r (sym k ∙ fl) w bc nP n_t ag)
          acted a k false w true fl =
              both_move (ran_agree m ok s p t r (sym k ∙ fl) e bc placed nP n_t ag (own_region m p f a))
          acted a k true w false fl = notice (n_t t) refl (nP t) refl
            where
              notice : (b : Bool) → n_t t ≡ b → (d : Bool) → nP t ≡ d
                  → Match m bc p f (allowed m (plain_told m) d (rechecked m (plain_told m) (at s p nP) f))
                  (allowed m (table_told m e) b (rechecked m (table_told m e) (at s p n_t) f))
              notice false x d y = lost w fl
              notice true x false y = clash (ag.within t x) y
              notice true x true y =
                  both_move (rechecked_agree m s p t r (sym k ∙ fl) (waits_here m p f a w) bc nP n_t ag)
          acted a k true w true fl =
              turn (nP t && first_notified m p nP g t) (n_t t && first_notified m p n_t g t)
              (resumes m p nP g t (λ u x. ag.plain.all g u (front_waits m p g u x) holds)
              ∙ sym (resumes m p n_t g t (λ u x. ag.table.first g u holds x)))
            where
              holds : m.holds g s ≡ true
              holds = sym k ∙ fl

              turn : (a' b : Bool) → a' ≡ b
                  → Match m bc p f (allowed m (plain_told m) a' (ran m (plain_told m) (at s p nP) f))
                  (allowed m (table_told m e) b (ran m (table_told m e) (at s p n_t) f))
              turn true true z = both_move (ran_agree m ok s p t r holds e bc placed nP n_t ag (own_region m p f a))
              turn true false z = absurd (true≢false z)
              turn false true z = absurd (true≢false (sym z))
              turn false false z = alike

          go : (a b : Bool) → may m p f ≡ a → beq f.flag (m.holds g s) ≡ b
              → Match m bc p f (judged m (plain_told m) (at s p nP) f a b) (judged m (table_told m e) (at s p n_t) f a b)
          go false b x y = alike
          go true false x y = alike
          go true true x y = acted ((may_iff m p f).0 x) (beq_equal f.flag (m.holds g s) y)
              (is_waiting (p.place t)) refl f.flag refl

-- A list of frames, counted on from k

-- both stop alike; or the table's stops at a recheck; or both accept, at points that agree
pub data Result (m : Monitor) (bc : ℕ → Bool) (began : ℕ → Bool) (fs : List Frame) (k : ℕ) : Run → Run → Type 0 where
  same_refusal : {a j : ℕ} → Result m bc began fs k (stopped a j) (stopped a j)
  at_recheck : {o : Run} {j : ℕ} (i : ℕ) → j ≡ k + i → RecheckFrom began fs i → Result m bc began fs k o (stopped 14 j)
  same_point :
      {s : ℕ} {p : Threads} {nP n_t : ℕ → Bool} → Agree m bc s p nP n_t
      → Result m bc began fs k (accepted (at s p nP)) (accepted (at s p n_t))

module _ (m : Monitor) (ok : Checked m) where
  pub run_plain :
      (fs : List Frame) (k s : ℕ) (p : Threads) (n : ℕ → Bool) → PlainPoint m s p n
      → (d : Config) → run m (plain_told m) k (at s p n) fs ≡ accepted d
      → PlainPoint m d.state d.threads d.notified
  unfolding run
  run_plain [] k s p n pt d e =
      let z : at s p n ≡ d = cc in subst (λ (c : Config). PlainPoint m c.state c.threads c.notified) z pt
  run_plain (f ∷ fs) k s p n pt d e = go (step m (plain_told m) (at s p n) f) refl (step_plain m ok s p f n pt)
      (λ s₁ p₁ n₁ pt₁. run_plain fs (suc k) s₁ p₁ n₁ pt₁ d)
    where
      go : (o : Outcome) → step m (plain_told m) (at s p n) f ≡ o → PlainGoesOn m o
          → ((s₁ : ℕ) (p₁ : Threads) (n₁ : ℕ → Bool) → PlainPoint m s₁ p₁ n₁
          → run m (plain_told m) (suc k) (at s₁ p₁ n₁) fs ≡ accepted d
          → PlainPoint m d.state d.threads d.notified)
          → PlainPoint m d.state d.threads d.notified
      go o q (ends {a}) rec =
          let z : ◌≡◌ {A = ℕ} 0 1 = cc (run_stop m (plain_told m) k (at s p n) f fs a q) in absurd (omega arith)
      go o q (goes_on {s = s₁} {p = p₁} {n = n₁} pt₁) rec =
          rec s₁ p₁ n₁ pt₁ (sym (run_on m (plain_told m) k (at s p n) (at s₁ p₁ n₁) f fs q) ∙ e)

  module _ (e : ℕ → ℕ → Entry) (bc : ℕ → Bool) (placed : Placed m e bc) where
    later :
        (c d : Config) (f : Frame) (fs : List Frame) (k : ℕ) {x y : Run} → Rule m (TableNotices m e) c f d
        → Result m bc (waiters d) fs (suc k) x y → Result m bc (waiters c) (f ∷ fs) k x y
    later c d f fs k rule same_refusal = same_refusal
    later c d f fs k rule (at_recheck {j} i z r) =
        at_recheck {j = j} (suc i) (omega arith) (recheck_later m ok.leaves (TableNotices m e) rule r)
    later c d f fs k rule (same_point ag) = same_point ag

    pub run_agree :
        (fs : List Frame) (k s : ℕ) (p : Threads) (nP n_t : ℕ → Bool) → Agree m bc s p nP n_t
        → Result m bc (waiters (at s p n_t)) fs k (run m (plain_told m) k (at s p nP) fs)
        (run m (table_told m e) k (at s p n_t) fs)
    unfolding run
    run_agree [] k s p nP n_t ag = same_point ag
    run_agree (f ∷ fs) k s p nP n_t ag =
        go (step m (plain_told m) (at s p nP) f) (step m (table_told m e) (at s p n_t) f) refl
        (step_agree m ok s p f e bc placed nP n_t ag)
        (λ s₁ p₁ n_p₁ n_t₁ ag₁. run_agree fs (suc k) s₁ p₁ n_p₁ n_t₁ ag₁)
      where
        go : (o_p o_t : Outcome) → step m (table_told m e) (at s p n_t) f ≡ o_t → Match m bc p f o_p o_t
            → ((s₁ : ℕ) (p₁ : Threads) (n_p₁ n_t₁ : ℕ → Bool) → Agree m bc s₁ p₁ n_p₁ n_t₁
            → Result m bc (waiters (at s₁ p₁ n_t₁)) fs (suc k)
            (run m (plain_told m) (suc k) (at s₁ p₁ n_p₁) fs) (run m (table_told m e) (suc k) (at s₁ p₁ n_t₁) fs))
            → Result m bc (waiters (at s p n_t)) (f ∷ fs) k
            (elim o_p [ moved d ↦ run m (plain_told m) (suc k) d fs | refused a ↦ stopped a k ])
            (elim o_t [ moved d ↦ run m (table_told m e) (suc k) d fs | refused a ↦ stopped a k ])
        go o_p o_t q alike rec = same_refusal
        go o_p o_t q (lost w fl) rec = at_recheck {j = k} 0 (omega arith) (recheck_now (waiters (at s p n_t)) f fs w fl)
        go o_p o_t q (both_move {s = s₁} {q = p₁} {nP = n_p₁} {n_t = n_t₁} ag₁) rec =
            later (at s p n_t) (at s₁ p₁ n_t₁) f fs k (((table_decides m e).moves (at s p n_t) f (at s₁ p₁ n_t₁)).0 q)
            (rec s₁ p₁ n_p₁ n_t₁ ag₁)
