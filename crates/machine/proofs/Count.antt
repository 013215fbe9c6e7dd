-- The count (document 02, E4): where whoever is next in line on a guard that holds has a notice, nobody else resumes on
-- it, so those who do before thread t are the line up to t. By induction over the frames, on what each does to the
-- line; then for both machines, whose points are such.
use Prim.Native.Nat.{ℕ}
use mathlib.Core.Path.{◌≡◌, refl, sym, subst, ap, ap₂, ◌∙◌}
use mathlib.Core.Bool.{Bool, true, false, ◌&&◌}
use mathlib.Core.List.{List, [], ◌∷◌, ◌++◌, append-nil, append_assoc}
use lib.Dec.{eqb}
use borrow.Author.Tests.{eq-eqb}
use Rattle.machine.specs.Monitor.{Place, Threads, Monitor, Frame, Config, all_idle, waits_on, line}
use Rattle.machine.specs.Queue.{has, joined, left}
use Rattle.machine.specs.Decide.Step.{Outcome, moved, plain_told, begin_wait, step}
use Rattle.machine.specs.Algorithm1.{Entry}
use Rattle.machine.specs.Decide.Table.{entry_of, broadcast}
use Rattle.machine.specs.Rules.{Notices, PlainNotices, TableNotices, Front, Waits, Waiting, Body, Rule, rule_1a}
use Rattle.machine.specs.Rules.{rule_1b, rule_2a, rule_2b, Rules, no_more, one_more}
use Rattle.machine.specs.Arrival.{Once, Lined, Only00, Resumes, Resuming, no_frame, resumes, nobody_resumes}
use Rattle.machine.specs.Arrival.{ExactlyAhead, Listed, Counts}
use Rattle.machine.specs.Agreement.{Checked}
use Rattle.logic.proofs.Bools.{clash, split, split_eq, is_false, neither, both, and}
use Rattle.machine.proofs.Queue.{has_at, has_splits, left_absent, left_first}
use Rattle.machine.proofs.Order.{began_moved, left_moved, moved_one, waiting_iff, waits_iff, began_line}
use Rattle.machine.proofs.Order.{began_line_own, left_line, line_waits, front_waits, next_iff}
use Rattle.machine.proofs.Order.{first_notified_iff}
use Rattle.machine.proofs.RulesDecided.{plain_decides, table_decides}
use Rattle.machine.proofs.Points.{Placed, entries_placed, PlainPoint, Agree, idle_plain, idle_agree}
use Rattle.machine.proofs.Points.{resumes as may_resume}
use Rattle.machine.proofs.Reached.{idle_lined, rule_lined}
use Rattle.machine.proofs.Turns.{line_iff, line_once, line_ahead}
use Rattle.machine.proofs.Simulation.{own_region, at, PlainGoesOn, goes_on as plain_goes_on, Match}
use Rattle.machine.proofs.Simulation.{both_move, step_plain, step_agree}

-- What a frame does to the line on a guard

-- whoever is next in line on a guard that holds has a notice
abbrev pub FrontTold : Monitor → Config → Type 0
FrontTold m c = (g u : ℕ) → m.holds g c.state ≡ true → Front (line m c.threads g) u → c.notified u ≡ true

module _ (m : Monitor) (notices : Notices) where
  module _ {c d : Config} {f : Frame} (b : Body m notices c f d) (g : ℕ) where
    body_line : line m d.threads g ≡ left (line m c.threads g) f.thread
    body_line =
        let to : Place = m.follows f.region in
        ap (λ (p : Threads). line m p g) (moved_one m b.places (left_moved m c.threads f.thread to))
        ∙ left_line m c.threads f.thread to g

    -- of a thread that did not wait on the guard
    body_line_other : (Waits m c.threads g f.thread → ⊥) → line m d.threads g ≡ line m c.threads g
    body_line_other other =
        body_line ∙ left_absent (line m c.threads g) f.thread (is_false (λ h.
        other ((waits_iff m c.threads g f.thread).0 (line_waits m c.threads g f.thread h))))

  -- by a frame by which nobody resumes on a guard, its line stays, or gets one more behind it

  line_stays : {q q' : List ℕ} → q' ≡ q → (more : List ℕ) × (q' ≡ q ++ more)
  line_stays {q} e = ([], e ∙ sym (append-nil q))

  line_grows :
      {c d : Config} {f : Frame} → Rule m notices c f d → Lined m c.threads → (g : ℕ)
      → (Resumes m g c f → ⊥) → (more : List ℕ) × (line m d.threads g ≡ line m c.threads g ++ more)
  unfolding Resumes joined Waiting
  line_grows {c} {d} {f} (rule_1a a fl h w s p n) l g nobody = split_eq (m.guard_of r) g
      (λ e. (
        t ∷ [],
        subst (λ (k : ℕ). line m d.threads k ≡ line m c.threads k ++ (t ∷ [])) e
            (then (m.guard_of r) ∙ began_line_own m c.threads t r (is_false (λ q. w ((l.waits t).0 q)))),
      ))
      (λ e. line_stays (then g ∙ began_line m c.threads t r g
      (is_false (λ q. w ((waiting_iff (c.threads.place t)).0 q))) e))
    where
      t : ℕ
      t = f.thread

      r : ℕ
      r = f.region

      then : (k : ℕ) → line m d.threads k ≡ line m (begin_wait c.threads t r) k
      then k = ap (λ (q : Threads). line m q k) (moved_one m p (began_moved m c.threads t r))
  line_grows (rule_1b a fl h w k s p n) l g nobody = line_stays (ap (λ (q : Threads). line m q g) p)
  line_grows (rule_2a a fl h w b) l g nobody = line_stays (body_line_other b g (λ x. nobody (x, fl)))
  line_grows (rule_2b a fl h w k i b) l g nobody = line_stays (body_line_other b g (λ x. nobody (x, fl)))

  -- whoever resumes stood at the front, and leaves the others
  line_advances :
      {c d : Config} {f : Frame} → Rule m notices c f d → Lined m c.threads → FrontTold m c → (g : ℕ)
      → Resumes m g c f → line m c.threads g ≡ f.thread ∷ line m d.threads g
  unfolding Resumes Waits Waiting Front Once
  line_advances (rule_1a a fl h w s p n) l told g x = clash x.1 fl
  line_advances (rule_1b a fl h w k s p n) l told g x = clash x.1 fl
  line_advances (rule_2a a fl h w b) l told g x = absurd (w (x.0.0, x.0.1))
  line_advances {c} {d} {f} (rule_2b a fl h w k i b) l told g x =
      subst (λ (j : ℕ). line m c.threads j ≡ t ∷ line m d.threads j)
      (ap m.guard_of (sym (own_region m c.threads f a x.0.0 x.0.1)) ∙ x.0.2)
      (front.1 ∙ ap {B = List ℕ} (λ q. t ∷ q) (sym behind))
    where
      t : ℕ
      t = f.thread

      own : ℕ
      own = m.guard_of f.region

      front : Front (line m c.threads own) t
      front =
          (next_iff m c.threads own t).0
          (sym (may_resume m c.threads c.notified own t (λ u. told own u h))
          ∙ and k ((first_notified_iff m c.threads c.notified own t).1 i))

      behind : line m d.threads own ≡ front.0
      behind =
          body_line b own ∙ ap (λ (q : List ℕ). left q t) front.1
          ∙ left_first t front.0 t refl (subst Once front.1 (line_once m l own)).0

-- every run has a list of those who resume
pub listed : (m : Monitor) (notices : Notices) (c : Config) → Listed m notices c
unfolding Listed Resumes
listed m notices c g fs d no_more = ([], no_frame)
listed m notices c g (f ∷ fs) d (one_more {d = e} r rs) = split (waits_on m c.threads g f.thread && f.flag)
    (λ h.
    let b = both (waits_on m c.threads g f.thread) f.flag h in
    let x = listed m notices e g fs d rs in
    (f.thread ∷ x.0, resumes r ((waits_iff m c.threads g f.thread).0 b.0, b.1) x.1))
    (λ h.
    let x = listed m notices e g fs d rs in
    (x.0, nobody_resumes r (λ y. clash (and ((waits_iff m c.threads g f.thread).1 y.0) y.1) h) x.1))

-- Over the frames, for whatever holds at a point and stays

module _ (m : Monitor) (ok : Checked m) (notices : Notices) (Good : Config → Type 0)
    (stays : (c d : Config) (f : Frame) → Rule m notices c f d → Good c → Good d)
    (tells : (c : Config) → Good c → FrontTold m c) where
  -- who resume on the guard until t does are the line up to t
  resume_ahead :
      {g : ℕ} {c d : Config} {fs : List Frame} {us : List ℕ} → Resuming m notices g c fs d us → (t : ℕ) → Only00 t fs
      → Lined m c.threads → Good c → (ahead behind : List ℕ) → line m c.threads g ≡ ahead ++ (t ∷ behind)
      → has ahead t ≡ false
      → (Lined m d.threads → Good d → Waits m d.threads g t → Front (line m d.threads g) t) → us ≡ ahead
  unfolding Only00 Resumes Front has
  resume_ahead {g} (no_frame {c}) t o l x ahead behind e absent last = go ahead behind e absent
    where
      front : Front (line m c.threads g) t
      front = last l x ((line_iff m l g t).0 (ap (λ (k : List ℕ). has k t) e ∙ has_at ahead behind t))

      go : (ahead behind : List ℕ) → line m c.threads g ≡ ahead ++ (t ∷ behind) → has ahead t ≡ false → [] ≡ ahead
      go [] behind e absent = refl
      go (v ∷ ahead) behind e absent =
          let y = front.1 in
          let z : v ≡ t = cc in clash (eq-eqb v t z) (neither (eqb v t) (has ahead t) absent).0
  resume_ahead {g} (resumes {c} {d} {f} {fs} {us} r y rs) t o l x [] behind e absent last =
      let z = line_advances m notices r l (tells c x) g y in
      let own : f.thread ≡ t = cc in
      clash y.1 (o.0 own)
  resume_ahead {g} (resumes {c} {d} {f} {fs} {us} r y rs) t o l x (v ∷ ahead) behind e absent last =
      let z = line_advances m notices r l (tells c x) g y in
      let own : f.thread ≡ v = cc in
      let rest : line m d.threads g ≡ ahead ++ (t ∷ behind) = cc in
      ap₂ {C = List ℕ} (λ a b. a ∷ b) own
      (resume_ahead rs t o.1 (rule_lined m ok notices r l) (stays c d f r x) ahead behind rest
      (neither (eqb v t) (has ahead t) absent).1 last)
  resume_ahead {g} (nobody_resumes {c} {d} {f} {fs} {us} r y rs) t o l x ahead behind e absent last =
      let z = line_grows m notices r l g y in
      resume_ahead rs t o.1 (rule_lined m ok notices r l) (stays c d f r x) ahead (behind ++ z.0)
      (z.1 ∙ ap (λ (k : List ℕ). k ++ z.0) e ∙ append_assoc ahead (t ∷ behind) z.0) absent last

  pub counts : (c : Config) → Lined m c.threads → Good c → Counts m notices c
  unfolding Counts Front Resumes
  counts c l x t g w fs d us rs o f e r own fl =
      let s = has_splits (line m c.threads g) t ((line_iff m l g t).1 w) in
      subst (ExactlyAhead m g c.threads t)
      (sym (resume_ahead rs t o l x s.0 s.1 s.2 s.3 last))
      (line_ahead m l g t s.0 s.1 s.2)
    where
      last : Lined m d.threads → Good d → Waits m d.threads g t → Front (line m d.threads g) t
      last l₁ x₁ w₁ =
          let y : Resumes m g d f = (subst (Waits m d.threads g) (sym own) w₁, fl) in (
            line m e.threads g,
            line_advances m notices r l₁ (tells d x₁) g y
                ∙ ap (λ (v : ℕ). v ∷ line m e.threads g) own,
          )

  -- and so from every point to which the rules lead
  pub run_counts : {c d : Config} {fs : List Frame} → Rules m notices c fs d → Lined m c.threads → Good c
      → Counts m notices d
  run_counts (no_more {c}) l x = counts c l x
  run_counts (one_more {c} {d} {f = f} r rs) l x = run_counts rs (rule_lined m ok notices r l) (stays c d f r x)

-- Both machines

module _ (m : Monitor) (ok : Checked m) where
  abbrev PlainAt : Config → Type 0
  PlainAt c = PlainPoint m c.state c.threads c.notified

  plain_stays : (c d : Config) (f : Frame) → Rule m (PlainNotices m) c f d → PlainAt c → PlainAt d
  plain_stays c d f r pt =
      from (subst (PlainGoesOn m) (((plain_decides m).moves c f d).1 r)
      (step_plain m ok c.state c.threads f c.notified pt))
    where
      from : {d : Config} → PlainGoesOn m (moved d) → PlainAt d
      from (plain_goes_on x) = x

  plain_tells : (c : Config) → PlainAt c → FrontTold m c
  plain_tells c pt g u h x = pt.all g u (front_waits m c.threads g u x) h

  pub plain_run_counts :
      (s : ℕ) → m.kept s ≡ true → (fs : List Frame) (c : Config) → Rules m (PlainNotices m) (all_idle s) fs c
      → Counts m (PlainNotices m) c
  unfolding all_idle
  plain_run_counts s k fs c rs =
      run_counts m ok (PlainNotices m) PlainAt plain_stays plain_tells rs (idle_lined m) (idle_plain m s k)

  -- a point of the table's machine agrees with one of the plain machine
  module _ (e : ℕ → ℕ → Entry) (bc : ℕ → Bool) (placed : Placed m e bc) where
    abbrev TableAt : Config → Type 0
    TableAt c = (nP : ℕ → Bool) × Agree m bc c.state c.threads nP c.notified

    table_stays : (c d : Config) (f : Frame) → Rule m (TableNotices m e) c f d → TableAt c → TableAt d
    table_stays c d f r x =
        from (subst (Match m bc c.threads f (step m (plain_told m) (at c.state c.threads x.0) f))
        (((table_decides m e).moves c f d).1 r)
        (step_agree m ok c.state c.threads f e bc placed x.0 c.notified x.1))
      where
        from : {o : Outcome} {d : Config} → Match m bc c.threads f o (moved d) → TableAt d
        from (both_move {nP} ag) = (nP, ag)

    table_tells : (c : Config) → TableAt c → FrontTold m c
    table_tells c x = x.1.table.first

  pub table_run_counts :
      (s : ℕ) → m.kept s ≡ true → (fs : List Frame) (c : Config)
      → Rules m (TableNotices m (entry_of m)) (all_idle s) fs c → Counts m (TableNotices m (entry_of m)) c
  unfolding all_idle
  table_run_counts s k fs c rs =
      let e = entry_of m in
      let bc = broadcast m in
      let placed = entries_placed m ok in
      run_counts m ok (TableNotices m e) (TableAt e bc placed) (table_stays e bc placed) (table_tells e bc placed) rs
      (idle_lined m) (λ _. false, idle_agree m bc s k)
