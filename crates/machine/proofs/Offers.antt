-- The allowed frames read off the places: while a thread is due its frame alone; else each idle thread's entries, and
-- the waiters that are first on a guard that holds.
use Prim.Native.Nat.{ℕ, zero, suc, ◌+◌, ◌≤◌, ◌<◌}
use native.Mathlib.Omega.{arith}
use mathlib.Core.Path.{◌≡◌, refl, sym, ap, ap₂, ◌∙◌}
use mathlib.Core.Bool.{Bool, true, false, not, ◌&&◌, ◌||◌, and-false, and-true, beq}
use mathlib.Core.List.{List, [], ◌∷◌, ◌++◌, map, append-nil}
use lib.Dec.{eqb}
use borrow.Author.Tests.{lt-ltb, eq-eqb, ne_eqb}
use Rattle.logic.specs.Tests.{any}
use Rattle.logic.proofs.Any.{any_intro, any_false}
use Rattle.logic.proofs.Bools.{clash, split_eq, is_false, and, true_not, equal_beq}
use Rattle.machine.specs.Monitor.{Place, idle, waiting, due, Threads, Monitor, Config, Frame, threads}
use Rattle.machine.specs.Rules.{Notices, Rule, rule_1a, rule_1b, rule_2a, rule_2b}
use Rattle.machine.specs.Decide.Step.{is_due, is_waiting, plain_told, next, first_notified, may_be_at, may, allowed}
use Rattle.machine.specs.Decide.Step.{act, judged, step}
use Rattle.machine.specs.Decide.Load.{join_each, is_moved, is_recheck, frame_if, is_allowed, allowed_at}
use Rattle.machine.specs.Decide.Load.{allowed_of, allowed_frames}
use Rattle.machine.proofs.Order.{front_waits}
use Rattle.machine.proofs.Tests.{may_iff}
use Rattle.machine.proofs.RulesDecided.{rule_takes}
use Rattle.machine.proofs.Points.{PlainPoint, resumes}
use Rattle.machine.proofs.Reached.{PlaceWithin}

-- a number, where it passes a test
unfoldable pub number_if : Bool → ℕ → List ℕ
number_if true r = r ∷ []
number_if false r = []

-- the regions that begin a method, in order
unfoldable pub begun : Monitor → List ℕ
begun m = join_each m.regions 0 (λ r. number_if (m.begins r) r)

-- the frame of a thread at a region, with the one flag that can be allowed
unfoldable pub frame_at : Monitor → Config → ℕ → ℕ → Frame
frame_at m c t r = record { thread = t; region = r; flag = m.holds (m.guard_of r) c.state }

-- where nobody is due: an idle thread may enter each method, a waiter resume if it is next in line on a guard that
-- holds
unfoldable pub offers_at : Monitor → Config → ℕ → Place → List Frame
offers_at m c t idle = map (frame_at m c t) (begun m)
offers_at m c t (waiting w) =
    frame_if (m.holds (m.guard_of w) c.state && next m c.threads (m.guard_of w) t) (frame_at m c t w)
offers_at m c t (due w) = []

-- What a function gives for each number, joined: of two that give the same, of one that gives nothing, and of one that
-- gives something for one number alone

each_same : {A : Type 0} (n k : ℕ) (f g : ℕ → List A) → ((j : ℕ) → j < k + n → f j ≡ g j)
    → join_each n k f ≡ join_each n k g
unfolding join_each
each_same zero k f g e = refl
each_same {A} (suc n) k f g e =
    ap₂ (λ (x y : List A). x ++ y) (e k (omega arith)) (each_same n (k + 1) f g (λ j b. e j (omega arith)))

each_none : {A : Type 0} (n k : ℕ) (f : ℕ → List A) → ((j : ℕ) → k ≤ j → f j ≡ []) → join_each n k f ≡ []
unfolding join_each
each_none zero k f e = refl
each_none {A} (suc n) k f e =
    ap₂ (λ (x y : List A). x ++ y) (e k (omega arith)) (each_none n (k + 1) f (λ j b. e j (omega arith)))

each_one : {A : Type 0} (n k : ℕ) (f : ℕ → List A) (w : ℕ) → k ≤ w → w < k + n → ((j : ℕ) → (j ≡ w → ⊥) → f j ≡ [])
    → join_each n k f ≡ f w
unfolding join_each
each_one zero k f w a b e = absurd (omega arith)
each_one {A} (suc n) k f w a b e = split_eq k w
    (λ z. ap₂ (λ (x y : List A). x ++ y) (ap f z) (each_none n (k + 1) f (λ j l. e j (λ y. omega arith)))
    ∙ append-nil (f w))
    (λ d. ap₂ (λ (x y : List A). x ++ y) (e k d) (each_one n (k + 1) f w (omega arith) (omega arith) e))

-- the frames at the regions that pass a test
each_frames : (n k : ℕ) (b : ℕ → Bool) (f : ℕ → Frame)
    → join_each n k (λ r. frame_if (b r) (f r)) ≡ map f (join_each n k (λ r. number_if (b r) r))
unfolding join_each number_if frame_if
each_frames zero k b f = refl
each_frames (suc n) k b f = one (b k) _ _ (each_frames n (k + 1) b f)
  where
    one : (x : Bool) (fs : List Frame) (rs : List ℕ) → fs ≡ map f rs
        → frame_if x (f k) ++ fs ≡ map f (number_if x k ++ rs)
    one true fs rs e = ap {B = List Frame} (λ l. f k ∷ l) e
    one false fs rs e = e

module _ (m : Monitor) (c : Config) where
  -- of a region's guard
  abbrev truth : ℕ → Bool
  truth r = m.holds (m.guard_of r) c.state

  -- A frame is allowed where 13 passes it, its flag is the guard's truth, and a waiter may resume

  -- beside 13 and the flag: of a thread at a region, by whether it waits and by the flag
  unfoldable ready : ℕ → ℕ → Bool → Bool → Bool
  ready t r w b = not w || (b && (c.notified t && first_notified m c.threads c.notified (m.guard_of r) t))

  allowed_by : (f : Frame) → is_allowed m c f
      ≡ may m c.threads f && (beq f.flag (truth f.region)
      && ready f.thread f.region (is_waiting (c.threads.place f.thread)) f.flag)
  unfolding is_allowed step judged is_moved is_recheck act allowed ready
  allowed_by f = go (may m c.threads f) (beq f.flag (truth f.region))
    where
      w : Bool
      w = is_waiting (c.threads.place f.thread)

      moves : (a : Bool) (d : Config) → is_moved (allowed m (plain_told m) a d) ≡ a
      moves true d = refl
      moves false d = refl

      acts : (w b : Bool) → is_moved (act m (plain_told m) c f w b) && not (w && not b)
          ≡ ready f.thread f.region w b
      acts false false = refl
      acts false true = refl
      acts true false = and-false (is_moved (act m (plain_told m) c f true false))
      acts true true = and-true (is_moved (act m (plain_told m) c f true true)) ∙ moves _ _

      go : (a b : Bool) → is_moved (judged m (plain_told m) c f a b) && not (w && not f.flag)
          ≡ a && (b && ready f.thread f.region w f.flag)
      go false b = refl
      go true false = refl
      go true true = acts w f.flag

  -- one who is due keeps the others from their frames
  other_due : (f : Frame) (u : ℕ) → u < threads → (u ≡ f.thread → ⊥) → is_due (c.threads.place u) ≡ true
      → may m c.threads f ≡ false
  unfolding may
  other_due f u l d h =
      let other : any threads (λ v. not (eqb v f.thread) && is_due (c.threads.place v)) ≡ true =
      any_intro threads _ u l (and (true_not (ne_eqb u f.thread d)) h) in
      rw other

  -- and where nobody else is, the place says what is allowed
  nobody_else : (f : Frame) → ((u : ℕ) → u < threads → (u ≡ f.thread → ⊥) → is_due (c.threads.place u) ≡ false)
      → may m c.threads f ≡ may_be_at m (c.threads.place f.thread) f.region
  unfolding may
  nobody_else f h =
      let other : any threads (λ v. not (eqb v f.thread) && is_due (c.threads.place v)) ≡ false =
      any_false threads _ (λ u l. split_eq u f.thread (λ z. rw (eq-eqb u f.thread z))
      (λ d. rw (h u l d) (and-false (not (eqb u f.thread))))) in
      rw other

  -- At a region: one flag alone

  either_flag : (a : Bool → Bool) (f : Bool → Frame) (h : Bool) → ((b : Bool) → beq b h ≡ false → a b ≡ false)
      → frame_if (a false) (f false) ++ frame_if (a true) (f true) ≡ frame_if (a h) (f h)
  unfolding frame_if
  either_flag a f true k = rw (k false refl)
  either_flag a f false k = rw (k true refl) (append-nil (frame_if (a false) (f false)))

  at_region : (t r : ℕ) → allowed_at m c t r ≡ frame_if (
      may m c.threads (frame_at m c t r)
      && ready t r (is_waiting (c.threads.place t)) (truth r)) (frame_at m c t r)
  unfolding allowed_at frame_at
  at_region t r =
      either_flag (λ b. is_allowed m c (f b)) f (truth r)
      (λ b x. allowed_by (f b) ∙ rw x (and-false (may m c.threads (f b))))
      ∙ ap (λ (b : Bool). frame_if b (f (truth r))) (allowed_by (f (truth r)) ∙ rw (equal_beq (truth r) (truth r) refl))
    where
      f : Bool → Frame
      f b = record { thread = t; region = r; flag = b }

  -- Of a thread

  module _ (t : ℕ) (q : Place) (there : c.threads.place t ≡ q)
      (nobody : (u : ℕ) → u < threads → (u ≡ t → ⊥) → is_due (c.threads.place u) ≡ false) where
    by_place : (r : ℕ)
        → allowed_at m c t r ≡ frame_if (may_be_at m q r && ready t r (is_waiting q) (truth r)) (frame_at m c t r)
    unfolding frame_at
    by_place r =
        at_region t r
        ∙ ap₂ (λ (a : Bool) (p : Place). frame_if (a && ready t r (is_waiting p) (truth r))
        (frame_at m c t r)) (nobody_else (frame_at m c t r) nobody ∙ ap (λ (p : Place). may_be_at m p r) there) there

    -- one who waits or is due: at its own region alone
    own_region : (w : ℕ) → w < m.regions → ((r : ℕ) → may_be_at m q r ≡ eqb w r) → allowed_of m c t
        ≡ frame_if (ready t w (is_waiting q) (truth w)) (frame_at m c t w)
    unfolding allowed_of frame_if
    own_region w l e =
        each_one m.regions 0 (allowed_at m c t) w (omega arith) (omega arith)
        (λ r d. by_place r ∙ rw (e r ∙ ne_eqb w r (λ z. d (sym z))))
        ∙ by_place w ∙ rw (e w ∙ eq-eqb w w refl)

  module _ (point : PlainPoint m c.state c.threads c.notified)
      (within : (t : ℕ) → PlaceWithin m (c.threads.place t))
      (nobody : (u : ℕ) → u < threads → is_due (c.threads.place u) ≡ false) where
    -- a waiter resumes if it is next in line on a guard that holds
    resumes_next : (t w : ℕ) → ready t w true (truth w) ≡ truth w && next m c.threads (m.guard_of w) t
    unfolding ready
    resumes_next t w = go (truth w) refl
      where
        go : (h : Bool) → truth w ≡ h → ready t w true h ≡ h && next m c.threads (m.guard_of w) t
        go true e = resumes m c.threads c.notified (m.guard_of w) t
            (λ u x. point.all (m.guard_of w) u (front_waits m c.threads (m.guard_of w) u x) e)
        go false e = refl

    -- these are the allowed ones
    pub offers : (t : ℕ) → t < threads → allowed_of m c t ≡ offers_at m c t (c.threads.place t)
    unfolding offers_at begun allowed_of may_be_at is_waiting is_due ready PlaceWithin
    offers t l = go (c.threads.place t) refl
      where
        go : (q : Place) → c.threads.place t ≡ q → allowed_of m c t ≡ offers_at m c t q
        go idle z =
            each_same m.regions 0 (allowed_at m c t) (λ r. frame_if (m.begins r) (frame_at m c t r))
            (λ r k. by_place t idle z (λ u b d. nobody u b) r
            ∙ rw (lt-ltb r m.regions (omega arith), and-true (m.begins r)))
            ∙ each_frames m.regions 0 m.begins (frame_at m c t)
        go (waiting w) z =
            own_region t (waiting w) z (λ u b d. nobody u b) w ((within t).0 w z) (λ r. refl)
            ∙ ap (λ (b : Bool). frame_if b (frame_at m c t w)) (resumes_next t w)
        go (due w) z = clash (ap is_due z) (nobody t l)

    -- and so for the first n threads
    pub offers_all : (n : ℕ) → n ≤ threads
        → allowed_frames m n c ≡ join_each n 0 (λ t. offers_at m c t (c.threads.place t))
    unfolding allowed_frames
    offers_all n h = each_same n 0 (allowed_of m c) _ (λ t l. offers t (omega arith))

  -- while a thread is due only its frame is allowed
  pub due_alone : (n t w : ℕ) → n ≤ threads → t < n → c.threads.place t ≡ due w → w < m.regions
      → ((u : ℕ) → u < threads → is_due (c.threads.place u) ≡ true → u ≡ t)
      → allowed_frames m n c ≡ frame_at m c t w ∷ []
  unfolding allowed_frames allowed_of frame_at frame_if may_be_at is_waiting is_due ready
  due_alone n t w h l z k only =
      each_one n 0 (allowed_of m c) t (omega arith) (omega arith)
      (λ u d. each_none m.regions 0 (allowed_at m c u) (λ r _. at_region u r
      ∙ rw (other_due (frame_at m c u r) t (omega arith) (λ x. d (sym x)) (ap is_due z))))
      ∙ own_region t (due w) z (λ u b d. is_false (λ x. d (only u b x))) w k (λ r. refl)

-- only the thread of the last frame can be due
pub due_last : {m : Monitor} {notices : Notices} {c d : Config} {f : Frame} → Rule m notices c f d
    → (u : ℕ) → u < threads → is_due (d.threads.place u) ≡ true → u ≡ f.thread
due_last {m} {notices} {c} {d} {f} r u l h = split_eq u f.thread (λ z. z)
    (λ x. clash ((may_iff m c.threads f).1 (rule_takes r).0)
    (other_due m c f u l x (ap is_due (sym (stays r x)) ∙ h)))
  where
    stays : Rule m notices c f d → (u ≡ f.thread → ⊥) → d.threads.place u ≡ c.threads.place u
    stays (rule_1a a fl g w s p n) x = p.others u x
    stays (rule_1b a fl g w k s p n) x = ap (λ (q : Threads). q.place u) p
    stays (rule_2a a fl g w b) x = b.places.others u x
    stays (rule_2b a fl g w k o b) x = b.places.others u x
