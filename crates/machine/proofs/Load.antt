-- The computed load is the load in words, and no other list of frames is (document 02, E6): the allowed frames by thread
-- and region, the load by induction over the frames still wanted. Then what its frames are.
use Prim.Native.Nat.{ℕ, zero, suc, ◌+◌, ◌*◌, ◌%◌, ◌≤◌, ◌<◌}
use native.Mathlib.Nat.{mod-lt}
use native.Mathlib.Omega.{arith}
use mathlib.Core.Path.{◌≡◌, refl, sym, subst, ap, ◌∙◌}
use mathlib.Core.Bool.{Bool, true, false, not, false≢true}
use mathlib.Core.Logic.Iff
use mathlib.Core.Logic.{◌⊎◌, inl, inr, ⊎_elim, ◌↔◌}
use mathlib.Core.List.{List, [], ◌∷◌, ◌++◌}
use mathlib.Core.Option.{some}
use lib.ListN.{length, get_or, get_elem?, length-append}
use Rattle.logic.proofs.Bools.{split, split_eq, clash, no_some, not_true, true_not, decides_and, decides_not}
use Rattle.logic.proofs.Indices.{at_index, get_d_elem}
use Rattle.machine.specs.Monitor.{Monitor, Config, Frame, all_idle}
use Rattle.machine.specs.Rules.{Waiting, PlainNotices, Rule, Rules, no_more, one_more}
use Rattle.machine.specs.Recheck.{Paused, Recheck, RecheckBy, RecheckFrom}
use Rattle.machine.specs.Agreement.{Checked}
use Rattle.machine.specs.Decide.Step.{Outcome, moved, refused, step, plain_told, is_waiting}
use Rattle.machine.specs.Decide.Load.{join_each, is_moved, is_recheck, frame_if, is_allowed, allowed_at}
use Rattle.machine.specs.Decide.Load.{allowed_of, allowed_frames, behind, load_from}
use Rattle.machine.specs.Load.{Among, Before, Ordered, Rechecks, Takes, AllowedList, Loads, enough, none_allowed}
use Rattle.machine.specs.Load.{takes, drawn, upper}
use Rattle.machine.proofs.Order.{waiting_iff}
use Rattle.machine.proofs.RulesDecided.{plain_decides, rule_takes}
use Rattle.machine.proofs.Rechecks.{recheck_iff, waiters, paused_none, paused_more}
use Rattle.machine.proofs.Reached.{PlaceWithin, Reached, may_below, rule_reached}

-- The draws

-- "kept to 32 bits"
pub drawn_below : (x : ℕ) → drawn x < 4294967296
unfolding drawn
drawn_below x = omega arith

-- "its upper sixteen bits"
pub upper_bits : (x : ℕ) → x < 4294967296
    → (upper x < 65536) × ((low : ℕ) × (low < 65536) × (x ≡ upper x * 65536 + low))
unfolding upper
upper_bits x h = (omega arith, (x % 65536, omega arith, omega arith))

-- Frames of a list

among_join : (fs gs : List Frame) (g : Frame) → Among (fs ++ gs) g ↔ (Among fs g ⊎ Among gs g)
unfolding Among
among_join [] gs g = (inr, ⊎_elim (λ x. absurd x) (λ x. x))
among_join (f ∷ fs) gs g =
    let r = among_join fs gs g in (
      ⊎_elim (λ e. inl (inl e)) (λ x. ⊎_elim (λ y. inl (inr y)) inr (r.0 x)),
      ⊎_elim (⊎_elim inl (λ y. inr (r.1 (inl y)))) (λ y. inr (r.1 (inr y))),
    )

among_each : (n k : ℕ) (f : ℕ → List Frame) (g : Frame) → Among (join_each n k f) g
    ↔ ((j : ℕ) × (k ≤ j) × (j < k + n) × Among (f j) g)
unfolding join_each Among
among_each zero k f g = (λ x. absurd x, λ x. absurd (omega arith))
among_each (suc n) k f g =
    let r = among_each n (k + 1) f g in
    Iff.trans (among_join (f k) (join_each n (k + 1) f) g) (
      ⊎_elim (λ x. (k, omega arith, omega arith, x))
          (λ x. let y = r.0 x in (y.0, omega arith, omega arith, y.3)),
      λ x. split_eq x.0 k (λ e. inl (rw e at x.3)) (λ d. inr (r.1 (x.0, omega arith, omega arith, x.3))),
    )

among_if : (b : Bool) (f g : Frame) → Among (frame_if b f) g ↔ ((b ≡ true) × (f ≡ g))
unfolding frame_if Among
among_if true f g = (⊎_elim (λ e. (refl, e)) (λ x. absurd x), λ x. inl x.1)
among_if false f g = (λ x. absurd x, λ x. absurd (false≢true x.0))

among_at : (fs : List Frame) (k : ℕ) (f : Frame) → get_elem? fs k ≡ some f → Among fs f
unfolding Among
among_at [] k f e = no_some e
among_at (g ∷ fs) zero f e = inl (cc)
among_at (g ∷ fs) (suc k) f e = inr (among_at fs k f e)

-- Lists in order

ordered_join : (fs gs : List Frame) → Ordered fs → Ordered gs
    → ((f g : Frame) → Among fs f → Among gs g → Before f g) → Ordered (fs ++ gs)
unfolding Ordered Among
ordered_join [] gs p q h = q
ordered_join (f ∷ fs) gs p q h = (
  λ g x. ⊎_elim (p.0 g) (h f g (inl refl)) ((among_join fs gs g).0 x),
  ordered_join fs gs p.1 q (λ e g x. h e g (inr x)),
)

ordered_each : (n k : ℕ) (f : ℕ → List Frame) → ((j : ℕ) → Ordered (f j))
    → ((i j : ℕ) (g h : Frame) → i < j → Among (f i) g → Among (f j) h → Before g h) → Ordered (join_each n k f)
unfolding join_each Ordered
ordered_each zero k f p h = tt
ordered_each (suc n) k f p h =
    ordered_join (f k) (join_each n (k + 1) f) (p k) (ordered_each n (k + 1) f p h)
    (λ e g x y. let r = (among_each n (k + 1) f g).0 y in h k r.0 e g (omega arith) x r.3)

ordered_if : (b : Bool) (f : Frame) → Ordered (frame_if b f)
unfolding frame_if Ordered Among
ordered_if true f = (λ g x. absurd x, tt)
ordered_if false f = tt

before_not : (f g : Frame) → Before f g → Before g f → ⊥
unfolding Before
before_not f g (inl p) (inl q) = omega arith
before_not f g (inl p) (inr q) = omega arith
before_not f g (inr p) (inl q) = omega arith
before_not f g (inr p) (inr q) = omega arith

-- two lists in order with the same frames are one
same_lists : (fs gs : List Frame) → Ordered fs → Ordered gs → ((f : Frame) → Among fs f ↔ Among gs f) → fs ≡ gs
unfolding Ordered Among
same_lists [] [] p q e = refl
same_lists [] (g ∷ gs) p q e = absurd ((e g).1 (inl refl))
same_lists (f ∷ fs) [] p q e = absurd ((e f).0 (inl refl))
same_lists (f ∷ fs) (g ∷ gs) p q e =
    let head : f ≡ g =
    ⊎_elim sym (λ x. ⊎_elim (λ z. z) (λ y. absurd (before_not f g (p.0 g y) (q.0 f x))) ((e g).1 (inl refl)))
    ((e f).0 (inl refl)) in
    let once : (h : Frame) → f ≡ h → Before f h → ⊥ = λ h z b.
    let c : Before f f = rw (← z) at b in before_not f f c c in
    let rest : fs ≡ gs =
    same_lists fs gs p.1 q.1 (λ h. (
      λ x. ⊎_elim (λ z. absurd (once h (head ∙ z) (p.0 h x))) (λ y. y) ((e h).0 (inr x)),
      λ x. ⊎_elim (λ z. absurd (once h z (rw (← head) at (q.0 h x)))) (λ y. y) ((e h).1 (inr x)),
    )) in
    cc

-- so there is one list of the allowed frames
pub one_list : {m : Monitor} {n : ℕ} {c : Config} {fs gs : List Frame} → AllowedList m n c fs → AllowedList m n c gs
    → fs ≡ gs
one_list {fs} {gs} a b = same_lists fs gs a.in_order b.in_order
    (λ f. (λ x. (b.exactly f).1 ((a.exactly f).0 x), λ x. (a.exactly f).1 ((b.exactly f).0 x)))

module _ (m : Monitor) where
  -- What is allowed

  takes_iff : (c : Config) (f : Frame) → (is_moved (step m (plain_told m) c f) ≡ true) ↔ Takes m c f
  unfolding is_moved Takes
  takes_iff c f = (to (step m (plain_told m) c f) refl, λ t. ap is_moved (((plain_decides m).moves c f t.0).1 t.1))
    where
      to : (o : Outcome) → step m (plain_told m) c f ≡ o → is_moved o ≡ true → (d : Config) × Rule m (PlainNotices m) c f d
      to (moved d) e h = (d, ((plain_decides m).moves c f d).0 e)
      to (refused a) e h = absurd (false≢true h)

  rechecks_iff : (c : Config) (f : Frame) → (is_recheck c f ≡ true) ↔ Rechecks m c f
  unfolding is_recheck Rechecks Waiting
  rechecks_iff c f = let q = c.threads.place f.thread in
      decides_and (is_waiting q) (not f.flag) (waiting_iff q) (not_true, true_not)

  allowed_iff : (c : Config) (f : Frame) → (is_allowed m c f ≡ true) ↔ (Takes m c f × (Rechecks m c f → ⊥))
  unfolding is_allowed
  allowed_iff c f =
      decides_and (is_moved (step m (plain_told m) c f)) (not (is_recheck c f)) (takes_iff c f)
      (decides_not (is_recheck c f) (rechecks_iff c f))

  -- at a region of the file
  takes_below : (c : Config) (f : Frame) → PlaceWithin m (c.threads.place f.thread) → Takes m c f
      → f.region < m.regions
  unfolding Takes
  takes_below c f h t = may_below m c.threads f h (rule_takes t.1).0

  -- those of a thread at a region, of a thread, and of the first n threads

  at_iff : (c : Config) (t r : ℕ) (g : Frame) → Among (allowed_at m c t r) g
      ↔ ((g.thread ≡ t) × (g.region ≡ r) × (is_allowed m c g ≡ true))
  unfolding allowed_at
  at_iff c t r g = Iff.trans (among_join (one false) (one true) g) (
    ⊎_elim (to false) (to true),
    λ x. split g.flag (λ e. inr (from x true e)) (λ e. inl (from x false e)),
  )
    where
      f : Bool → Frame
      f b = record { thread = t; region = r; flag = b }

      one : Bool → List Frame
      one b = frame_if (is_allowed m c (f b)) (f b)

      to : (b : Bool) → Among (one b) g → (g.thread ≡ t) × (g.region ≡ r) × (is_allowed m c g ≡ true)
      to b x =
          let y = (among_if (is_allowed m c (f b)) (f b) g).0 x in
          (ap (λ (h : Frame). h.thread) (sym y.1), ap (λ (h : Frame). h.region) (sym y.1), rw (← y.1) y.0)

      from : (g.thread ≡ t) × (g.region ≡ r) × (is_allowed m c g ≡ true) → (b : Bool) → g.flag ≡ b → Among (one b) g
      from x b e =
          let same : f b ≡ g = λ i. record { thread = sym x.0 i; region = sym x.1 i; flag = sym e i } in
          (among_if (is_allowed m c (f b)) (f b) g).1 (rw same x.2, same)

  of_iff : (c : Config) (t : ℕ) (g : Frame) → Among (allowed_of m c t) g
      ↔ ((g.thread ≡ t) × (g.region < m.regions) × (is_allowed m c g ≡ true))
  unfolding allowed_of
  of_iff c t g = Iff.trans (among_each m.regions 0 (allowed_at m c t) g) (
    λ x. let y = (at_iff c t x.0 g).0 x.3 in (y.0, omega arith, y.2),
    λ x. (g.region, omega arith, omega arith, (at_iff c t g.region g).1 (x.0, refl, x.2)),
  )

  frames_iff : (n : ℕ) (c : Config) (g : Frame) → Among (allowed_frames m n c) g
      ↔ ((g.thread < n) × (g.region < m.regions) × (is_allowed m c g ≡ true))
  unfolding allowed_frames
  frames_iff n c g = Iff.trans (among_each n 0 (allowed_of m c) g) (
    λ x. let y = (of_iff c x.0 g).0 x.3 in (omega arith, y.1, y.2),
    λ x. (g.thread, omega arith, omega arith, (of_iff c g.thread g).1 (refl, x.1, x.2)),
  )

  -- a thread and a region have one flag that can be allowed: the guard's truth
  one_flag : (c : Config) (t r : ℕ) → is_allowed m c (record { thread = t; region = r; flag = false }) ≡ true
      → is_allowed m c (record { thread = t; region = r; flag = true }) ≡ true → ⊥
  unfolding Takes
  one_flag c t r x y =
      clash (sym (rule_takes ((allowed_iff c _).0 y).0.1).1) (sym (rule_takes ((allowed_iff c _).0 x).0.1).1)

  ordered_at : (c : Config) (t r : ℕ) → Ordered (allowed_at m c t r)
  unfolding allowed_at
  ordered_at c t r = ordered_join _ _ (ordered_if _ _) (ordered_if _ _)
      (λ f g x y. absurd (one_flag c t r ((among_if _ _ f).0 x).0 ((among_if _ _ g).0 y).0))

  ordered_of : (c : Config) (t : ℕ) → Ordered (allowed_of m c t)
  unfolding allowed_of Before
  ordered_of c t = ordered_each m.regions 0 (allowed_at m c t) (ordered_at c t) (λ i j g h l x y.
      let p = (at_iff c t i g).0 x in let q = (at_iff c t j h).0 y in inr (p.0 ∙ sym q.0, omega arith))

  ordered_frames : (n : ℕ) (c : Config) → Ordered (allowed_frames m n c)
  unfolding allowed_frames Before
  ordered_frames n c = ordered_each n 0 (allowed_of m c) (ordered_of c) (λ i j g h l x y.
      let p = (of_iff c i g).0 x in let q = (of_iff c j h).0 y in inl (omega arith))

  -- the computed list is the one in words
  pub allowed_list : (n : ℕ) (c : Config) → ((t : ℕ) → PlaceWithin m (c.threads.place t))
      → AllowedList m n c (allowed_frames m n c)
  allowed_list n c w = record {
    exactly = λ f. Iff.trans (frames_iff n c f) (
      λ x. let y = (allowed_iff c f).0 x.2 in (x.0, y.0, y.1),
      λ x. (x.0, takes_below c f (w f.thread) x.1, (allowed_iff c f).1 (x.1, x.2)),
    );
    in_order = ordered_frames n c;
  }

  -- The load: by its first frame, and so the only one in words

  pub load_none : (n k : ℕ) (c : Config) (x : ℕ) → allowed_frames m n c ≡ [] → load_from m n (suc k) c x ≡ []
  unfolding load_from
  load_none n k c x e = rw (e, load_from)

  pub load_takes : (n k : ℕ) (c d : Config) (x : ℕ) (f : Frame) (fs : List Frame) → allowed_frames m n c ≡ fs
      → get_elem? fs (upper (drawn x) % length fs) ≡ some f → Rule m (PlainNotices m) c f d
      → load_from m n (suc k) c x ≡ f ∷ load_from m n k d (drawn x)
  unfolding load_from behind
  load_takes n k c d x f [] e i r = no_some i
  load_takes n k c d x f (g ∷ fs) e i r =
      let place = upper (drawn x) % length (g ∷ fs) in
      let taken : get_or (g ∷ fs) place g ≡ f = get_d_elem (g ∷ fs) place f g i in
      let next : step m (plain_told m) c f ≡ moved d = ((plain_decides m).moves c f d).1 r in
      rw (e, load_from, taken, next)

  module _ (ok : Checked m) where
    pub one_load : {n k : ℕ} {c : Config} {x : ℕ} {gs : List Frame} → Reached m c → Loads m n k c x gs
        → gs ≡ load_from m n k c x
    unfolding load_from
    one_load h enough = refl
    one_load {n} h (none_allowed {k} {c} {x} a) =
        sym (load_none n k c x (one_list (allowed_list n c h.within) a))
    one_load {n} h (takes {k} {c} {d} {x} {f} {fs} {more} a i r l) =
        ap {B = List Frame} (λ y. f ∷ y) (one_load (rule_reached m ok (PlainNotices m) r h) l)
        ∙ sym (load_takes n k c d x f fs (one_list (allowed_list n c h.within) a) i r)

    some_load : (n k : ℕ) (c : Config) (x : ℕ) → Reached m c → (gs : List Frame) × Loads m n k c x gs
    unfolding Takes
    some_load n zero c x h = ([], enough)
    some_load n (suc k) c x h =
        go (allowed_frames m n c) (allowed_list n c h.within) (λ d. some_load n k d (drawn x))
      where
        go : (fs : List Frame) → AllowedList m n c fs
            → ((d : Config) → Reached m d → (gs : List Frame) × Loads m n k d (drawn x) gs)
            → (gs : List Frame) × Loads m n (suc k) c x gs
        go [] a more = ([], none_allowed a)
        go (f ∷ fs) a more =
            let i = upper (drawn x) % length (f ∷ fs) in
            let t = at_index (f ∷ fs) i (mod-lt (upper (drawn x)) (omega arith)) in
            let r = ((a.exactly t.0).0 (among_at (f ∷ fs) i t.0 t.1)).1 in
            let l = more r.0 (rule_reached m ok (PlainNotices m) r.1 h) in
            (t.0 ∷ l.0, takes a t.1 r.1 l.1)

    pub loads : (n k : ℕ) (c : Config) (x : ℕ) → Reached m c → Loads m n k c x (load_from m n k c x)
    loads n k c x h = let l = some_load n k c x h in rw (one_load h l.1) at l.1

  -- What its frames are

  -- "up to the wanted count"
  pub loads_most : {n k : ℕ} {c : Config} {x : ℕ} {fs : List Frame} → Loads m n k c x fs → length fs ≤ k
  loads_most enough = omega arith
  loads_most (none_allowed a) = omega arith
  loads_most (takes a i r l) = let h = loads_most l in omega arith

  -- the plain machine's rules take them one after the other
  pub loads_rules : {n k : ℕ} {c : Config} {x : ℕ} {fs : List Frame} → Loads m n k c x fs
      → (d : Config) × Rules m (PlainNotices m) c fs d
  loads_rules (enough {c}) = (c, no_more)
  loads_rules (none_allowed {c} a) = (c, no_more)
  loads_rules (takes a i r l) = let t = loads_rules l in (t.0, one_more r t.1)

  -- each is of one of the first n threads, at a region of the file
  pub loads_threads : Checked m → {n k : ℕ} {c : Config} {x : ℕ} {fs : List Frame} → Reached m c → Loads m n k c x fs
      → (f : Frame) → Among fs f → (f.thread < n) × (f.region < m.regions)
  unfolding Among
  loads_threads ok h enough g y = absurd y
  loads_threads ok h (none_allowed a) g y = absurd y
  loads_threads ok {n} h (takes {c} {f} {fs} a i r l) g (inl e) =
      let t = (a.exactly f).0 (among_at fs _ f i) in
      rw (← e) (t.0, takes_below c f (h.within f.thread) t.1)
  loads_threads ok h (takes a i r l) g (inr y) = loads_threads ok (rule_reached m ok (PlainNotices m) r h) l g y

  no_frames : {before : List Frame → ℕ → Type 0} {j : ℕ} → RecheckBy before [] j → ⊥
  no_frames y = omega (arith, length-append y.front (y.frame ∷ y.more), ap (length {A = Frame}) y.splits)

  -- none is a recheck, whoever waits at the beginning
  pub loads_recheck : Checked m → {n k : ℕ} {c : Config} {x : ℕ} {fs : List Frame} → Loads m n k c x fs
      → (j : ℕ) → RecheckFrom (waiters c) fs j → ⊥
  unfolding Rechecks Waiting
  loads_recheck ok enough j y = no_frames y
  loads_recheck ok (none_allowed a) j y = no_frames y
  loads_recheck ok (takes {c} {d} {f} {fs} {more} a i r l) j y =
      go y.front y.splits y.so_before (loads_recheck ok l)
    where
      go : (front : List Frame) → f ∷ more ≡ front ++ (y.frame ∷ y.more) → Paused (waiters c) front y.frame.thread
          → ((j : ℕ) → RecheckFrom (waiters d) more j → ⊥) → ⊥
      go [] s p later =
          let e : y.frame ≡ f = cc in
          ((a.exactly f).0 (among_at fs _ f i)).2
          (rw (← e) ((waiting_iff _).0 (paused_none (waiters c) y.frame.thread p), y.flag))
      go (g ∷ front) s p later =
          let e : g ≡ f = cc in
          later (length front) (record {
            front = front;
            frame = y.frame;
            more = y.more;
            splits = cc;
            place = refl;
            flag = y.flag;
            so_before = (paused_more m ok.leaves (PlainNotices m) r front y.frame.thread).1 (rw e at p);
          })

  -- so none is one told from the frames alone, where all begin idle
  pub loads_idle : Checked m → (s : ℕ) {n k x : ℕ} {fs : List Frame} → Loads m n k (all_idle s) x fs
      → (j : ℕ) → Recheck fs j → ⊥
  unfolding all_idle is_waiting
  loads_idle ok s {fs} l j y = loads_recheck ok l j ((recheck_iff fs j).1 y)

  -- where they are fewer than wanted, the plain machine allows these threads nothing but rechecks behind them
  pub loads_short : {n k : ℕ} {c : Config} {x : ℕ} {fs : List Frame} → Loads m n k c x fs → length fs < k
      → (d : Config) → Rules m (PlainNotices m) c fs d → (f : Frame) → f.thread < n → Takes m d f → Rechecks m d f
  unfolding Among
  loads_short enough h d rs f l t = absurd (omega arith)
  loads_short (none_allowed {c} a) h d no_more f l t = split (is_recheck c f) (λ q. (rechecks_iff c f).0 q)
      (λ q. absurd ((a.exactly f).1 (l, t, λ y. clash ((rechecks_iff c f).1 y) q)))
  loads_short (takes {c} {d} {f = e} a i r more) h last (one_more {d = d'} {fs} q rs) f l t =
      let same : d' ≡ d = (plain_decides m).one_move c e d' d q r in
      loads_short more (omega arith) last (subst (λ z. Rules m (PlainNotices m) z fs last) same rs) f l t
