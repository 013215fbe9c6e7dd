-- The frame that the code takes by a draw is the one of the allowed frames: each thread's are counted by its place, those of
-- the threads before it are passed over, and while a thread is due its frame alone is there.
use Prim.Native.Nat.{ℕ, zero, suc, ◌+◌, ◌-◌, ◌/◌, ◌%◌, ◌≤◌, ◌<◌}
use native.Mathlib.Omega.{arith}
use native.Mathlib.Decide.{dec_lt}
use native.Mathlib.Nat.{mod-eq_of_lt}
use mathlib.Core.Path.{◌≡◌, refl, sym, ap, ap₂, ◌∙◌, subst}
use mathlib.Core.Bool.{Bool, true, false, ◌&&◌, ◌||◌}
use mathlib.Core.List.{List, [], ◌∷◌, ◌++◌, map}
use lib.ListN.{length, get_or, length-append, length-map, get_or-append, get_or-map}
use lib.Seq.{get_or-append-add}
use Rattle.logic.specs.Tests.{bit}
use Rattle.logic.proofs.Bools.{is_false, clash, split_eq, different}
use Rattle.logic.proofs.Lists.{get_d_below}
use Rattle.sets.specs.Set.{member}
use Rattle.machine.specs.Monitor.{Place, idle, waiting, due, Threads, Monitor, Config, Frame, threads}
use Rattle.machine.specs.Queue.{has}
use Rattle.machine.specs.Decide.Step.{is_due, next}
use Rattle.machine.specs.Decide.Load.{join_each, frame_if, allowed_frames}
use Rattle.machine.specs.Held.{Held}
use Rattle.machine.proofs.Offers.{number_if, begun, frame_at, offers_at, offers_all, due_alone}
use Rattle.machine.proofs.Reached.{PlaceWithin}
use Rattle.queue.proofs.Lists.{queue_below}
use Rattle.threads.specs.Held.{places_of, threads_of}
use Rattle.waiters.specs.Slices.{guard_at, holds_at, guards_only}
use Rattle.waiters.specs.Told.{new_first, broadcast_at}
use lib.Dec.{eqb}
use Rattle.stepper.specs.Shown.{frame_of}
use Rattle.stepper.specs.declared.Run.{Run}
use Rattle.stepper.specs.declared.Frame as code
use Rattle.stepper.proofs.ByHeld.{guard_held, holds_held}
use Rattle.stepper.proofs.Agree.{next_same}
use Rattle.allowed.specs.declared.Methods.{Methods}
use Rattle.std.specs.Prelude.{Some, None}
use Rattle.allowed.specs.declared.Spot.{Spot}
use Rattle.allowed.proofs.Sums.{join_suc}
use Rattle.allowed.specs.Offered.{sum_each, offered_by, offered_at, region_by, PickedAt, HeldMethods, PlainAt, Chooses}

-- ---- lists that are joined, and their lengths added up

sum_same : (n : ℕ) (f g : ℕ → ℕ) → ((t : ℕ) → t < n → f t ≡ g t) → sum_each n f ≡ sum_each n g
unfolding sum_each
sum_same zero f g e = refl
sum_same (suc n) f g e =
    ap₂ (λ (x y : ℕ). x + y) (sum_same n f g (λ t h. e t (omega arith))) (e n (omega arith))

sum_below : (n t : ℕ) (f : ℕ → ℕ) → t < n → sum_each t f + f t ≤ sum_each n f
unfolding sum_each
sum_below zero t f h = absurd (omega arith)
sum_below (suc n) t f h = split_eq t n
    (λ e. subst (λ (k : ℕ). sum_each k f + f k ≤ sum_each n f + f n) (sym e) (omega arith))
    (λ e. let l = sum_below n t f (omega arith) in omega arith)

module _ {A : Type 0} (f : ℕ → List A) where
  abbrev lengths : ℕ → ℕ
  lengths t = length (f t)

  join_length : (n : ℕ) → length (join_each n 0 f) ≡ sum_each n lengths
  unfolding join_each sum_each
  join_length zero = refl
  join_length (suc n) =
      ap length (join_suc n f) ∙ length-append (join_each n 0 f) (f n) ∙ ap (λ (k : ℕ). k + length (f n)) (join_length n)

  -- what stands behind the lists of the first t is in the next one
  join_at : (n t i : ℕ) (d : A) → t < n → i < length (f t) → get_or (join_each n 0 f) (sum_each t lengths + i) d
      ≡ get_or (f t) i d
  join_at zero t i d h l = absurd (omega arith)
  join_at (suc n) t i d h l =
      ap (λ (r : List A). get_or r (sum_each t lengths + i) d) (join_suc n f)
      ∙ split_eq t n last
      (λ e.
      let b = sum_below n t lengths (omega arith) in
      let long = join_length n in
      get_or-append (join_each n 0 f) (f n) d (sum_each t lengths + i) (omega arith)
      ∙ join_at n t i d (omega arith) l)
    where
      last : t ≡ n → get_or (join_each n 0 f ++ f n) (sum_each t lengths + i) d ≡ get_or (f t) i d
      last e =
          ap (λ (k : ℕ). get_or (join_each n 0 f ++ f n) (sum_each k lengths + i) d) e
          ∙ ap (λ (k : ℕ). get_or (join_each n 0 f ++ f n) (k + i) d) (sym (join_length n))
          ∙ get_or-append-add (join_each n 0 f) (f n) i d ∙ ap (λ (k : ℕ). get_or (f k) i d) (sym e)

-- ---- the first regions of the methods are regions of the file

number_below : (b : Bool) (r i : ℕ) → i < length (number_if b r) → get_or (number_if b r) i 0 ≡ r
unfolding number_if
number_below true r zero h = refl
number_below true r (suc i) h = absurd (omega arith)
number_below false r i h = absurd (omega arith)

join_below : (n : ℕ) (b : ℕ → Bool) (i : ℕ) → i < length (join_each n 0 (λ r. number_if (b r) r))
    → get_or (join_each n 0 (λ r. number_if (b r) r)) i 0 < n
unfolding join_each
join_below zero b i h = absurd (omega arith)
join_below (suc n) b i h =
    subst (λ (l : List ℕ). get_or l i 0 < suc n) (sym (join_suc n f))
    (go (dec_lt i (length front)) (subst (λ (l : List ℕ). i < length l) (join_suc n f) h) (join_below n b i))
  where
    f : ℕ → List ℕ
    f r = number_if (b r) r

    front : List ℕ
    front = join_each n 0 f

    go : Dec (i < length front) → i < length (front ++ f n) → (i < length front → get_or front i 0 < n)
        → get_or (front ++ f n) i 0 < suc n
    go (yes h) l rec = let e = get_or-append front (f n) 0 i h in let k = rec h in omega arith
    go (no h) l rec =
        let e : length front + (i - length front) ≡ i = omega arith in
        let long = length-append front (f n) in
        let z = get_or-append-add front (f n) (i - length front) 0 ∙ number_below (b n) n (i - length front) (omega arith) in
        subst (λ (k : ℕ). get_or (front ++ f n) k 0 < suc n) e (omega arith)

begun_below : (m : Monitor) (i : ℕ) → i < length (begun m) → get_or (begun m) i 0 < m.regions
unfolding begun
begun_below m i h = join_below m.regions m.begins i h

-- ---- at a point

-- where no entry is a broadcast, told on the guards that hold is the first on each
pub front_told : (gs es hs : List ℕ) (p : Threads) (s u w : ℕ) → ((i : ℕ) → get_or es i 0 ≡ 0)
    → new_first gs es (member (get_or hs (s % 4096) 0)) p 0 u (waiting w)
    ≡ holds_at hs (guard_at gs w) s && next (guards_only gs) p (guard_at gs w) u
unfolding new_first broadcast_at holds_at
front_told gs es hs p s u w none =
    ap (λ (k : ℕ). holds_at hs (guard_at gs w) s && (eqb (k / 4 % 2) 1 || next (guards_only gs) p (guard_at gs w) u))
    (none _)

if_length : (b : Bool) (f : Frame) → length (frame_if b f) ≡ bit b
unfolding frame_if bit
if_length true f = refl
if_length false f = refl

if_at : (b : Bool) (f d : Frame) (i : ℕ) → i < length (frame_if b f) → get_or (frame_if b f) i d ≡ f
unfolding frame_if
if_at true f d zero h = refl
if_at true f d (suc i) h = absurd (omega arith)
if_at false f d i h = absurd (omega arith)

nothing : {A : Type 0} (l : List A) → length l ≡ 0 → l ≡ []
nothing [] h = refl
nothing (x ∷ l) h = absurd (omega arith)

module _ (m : Monitor) (c : Config) (kept hs as' gs : List ℕ) (held : Held m kept hs as' gs) (n last : ℕ) (run : Run)
    (few : n ≤ 16) (x : PlainAt m n run last c) where
  place_same : (u : ℕ) → u < 16 → places_of run.threads.each u ≡ c.threads.place u
  unfolding threads
  place_same u h = x.shows.threads.same_place u h

  waits_below : (u w : ℕ) → c.threads.place u ≡ waiting w → w < m.regions
  unfolding PlaceWithin
  waits_below u w e = (x.reached.within u).0 w e

  flag_held : (r : ℕ) → r < m.regions
      → holds_at hs (guard_at gs r) run.state ≡ m.holds (m.guard_of r) c.state
  flag_held r l =
      ap₂ (λ (g s : ℕ). holds_at hs g s) (guard_held m kept hs as' gs held r l) x.shows.state
      ∙ holds_held m kept hs as' gs held (m.guard_of r) c.state (held.guard_below r l)
      (held.kept_below c.state x.reached.is_kept)

  -- the code's frame of a thread at a region
  pub frame_same : (f : code.Frame) (t r : ℕ) → f.thread ≡ t → f.region ≡ r
      → f.flag ≡ holds_at hs (guard_at gs r) run.state → r < m.regions → frame_of f ≡ frame_at m c t r
  unfolding frame_of frame_at
  frame_same f t r e d b l = λ j. record { thread = e j; region = d j; flag = (b ∙ flag_held r l) j }

  -- while the thread of the last frame is due
  pub taken_due : is_due (places_of run.threads.each last) ≡ true → (first : List ℕ) (g : ℕ)
      → g ≡ region_by (places_of run.threads.each last) 0 first → (draw : ℕ) (f : code.Frame)
      → f.thread ≡ last → f.region ≡ g
      → f.flag ≡ holds_at hs (guard_at gs g) run.state → Chooses (allowed_frames m n c) draw (Some f)
  unfolding PlaceWithin threads is_due region_by
  taken_due d first g e draw f t q b =
      go (c.threads.place last) refl (ap is_due (sym same) ∙ d)
      (e ∙ ap (λ (p : Place). region_by p 0 first) same)
    where
      same : places_of run.threads.each last ≡ c.threads.place last
      same = let h = x.below in place_same last (omega arith)

      alone : (w : ℕ) → c.threads.place last ≡ due w → g ≡ w → Chooses (allowed_frames m n c) draw (Some f)
      alone w z k =
          let below = (x.reached.within last).1 w z in
          subst (λ (fs : List Frame). Chooses fs draw (Some f)) (sym (due_alone m c n last w few x.below z below x.due_last))
          (record {
            none = λ y. different (cc);
            some = λ _ _. omega arith;
            taken = λ h y d.
                let i : draw % 1 ≡ 0 = omega arith in
                let same : f ≡ h = cc in
                ap frame_of (sym same) ∙ frame_same f last w t (q ∙ k) (b ∙ ap (λ (j : ℕ). holds_at hs (guard_at gs j) run.state) k) below
                ∙ sym (ap (λ (k : ℕ). get_or (frame_at m c last w ∷ []) k d) i);
          })

      go : (p : Place) → c.threads.place last ≡ p → is_due p ≡ true → g ≡ region_by p 0 first
          → Chooses (allowed_frames m n c) draw (Some f)
      go idle z d k = clash d refl
      go (waiting w) z d k = clash d refl
      go (due w) z d k = alone w z k

  module _ (ms : Methods) (methods : HeldMethods m ms) (fronts : ℕ)
      (told : (u : ℕ) → u < 16 → (w : ℕ) → places_of run.threads.each u ≡ waiting w
      → member fronts u ≡ holds_at hs (guard_at gs w) run.state
      && next (guards_only gs) (threads_of run.threads) (guard_at gs w) u) (left : is_due (places_of run.threads.each last) ≡ false) where
    free : is_due (c.threads.place last) ≡ false
    free = let h = x.below in ap is_due (sym (place_same last (omega arith))) ∙ left

    -- the waiters that may resume
    front_held : (u w : ℕ) → u < 16 → c.threads.place u ≡ waiting w
        → member fronts u ≡ m.holds (m.guard_of w) c.state && next m c.threads (m.guard_of w) u
    front_held u w h e =
        let l = waits_below u w e in
        told u h w (place_same u h ∙ e)
        ∙ ap₂ (λ (a b : Bool). a && b) (flag_held w l)
        (ap (λ (g : ℕ). next (guards_only gs) (threads_of run.threads) g u) (guard_held m kept hs as' gs held w l)
        ∙ next_same (guards_only gs) m (threads_of run.threads) c.threads x.shows.threads
        (λ v k. queue_below run.threads.order run.threads.waiting v
        (ap (λ (q : List ℕ). has q v) x.shows.threads.same_queue ∙ k))
        (λ v q k z. guard_held m kept hs as' gs held q (waits_below v q z)) (m.guard_of w) u)

    abbrev list : ℕ → List Frame
    list t = offers_at m c t (c.threads.place t)

    abbrev counts : ℕ → ℕ
    counts = offered_at run.threads.each ms.count fronts

    -- how many a thread has
    list_length : (t : ℕ) → t < 16 → length (list t) ≡ counts t
    unfolding offers_at offered_at offered_by
    list_length t h =
        go (c.threads.place t) refl
        ∙ ap (λ (q : Place). offered_by q (member fronts t) ms.count) (sym (place_same t h))
      where
        go : (q : Place) → c.threads.place t ≡ q → length (offers_at m c t q)
            ≡ offered_by q (member fronts t) ms.count
        go idle e = length-map (begun m) (frame_at m c t) ∙ sym methods.count
        go (waiting w) e = if_length _ (frame_at m c t w) ∙ ap bit (sym (front_held t w h e))
        go (due w) e = refl

    -- and which
    list_at : (t i : ℕ) → t < 16 → i < length (list t) → (r : ℕ)
        → r ≡ region_by (places_of run.threads.each t) i ms.first → (d : Frame)
        → (r < m.regions) × (get_or (list t) i d ≡ frame_at m c t r)
    unfolding offers_at region_by
    list_at t i h l r e d =
        go (c.threads.place t) refl l (e ∙ ap (λ (q : Place). region_by q i ms.first) (place_same t h))
      where
        go : (q : Place) → c.threads.place t ≡ q → i < length (offers_at m c t q) → r ≡ region_by q i ms.first
            → (r < m.regions) × (get_or (offers_at m c t q) i d ≡ frame_at m c t r)
        go idle z l e =
            let k : i < length (begun m) = subst (λ (j : ℕ). i < j) (length-map (begun m) (frame_at m c t)) l in
            let s = methods.few in
            let low : i % 16 ≡ i = mod-eq_of_lt (omega arith) in
            let same : r ≡ get_or (begun m) i 0 =
            e ∙ ap (λ (j : ℕ). get_or ms.first j 0) low ∙ methods.each i k in
            let b = begun_below m i k in (
              omega arith,
              get_d_below (map (frame_at m c t) (begun m)) i d (frame_at m c t 0) l
                  ∙ get_or-map (frame_at m c t) (begun m) i 0 ∙ ap (frame_at m c t) (sym same),
            )
        go (waiting w) z l e = (
          subst (λ (k : ℕ). k < m.regions) (sym e) (waits_below t w z),
          if_at _ (frame_at m c t w) d i l ∙ ap (frame_at m c t) (sym e),
        )
        go (due w) z l e = absurd (omega arith)

    -- where nobody is due, the lists of the first n threads are joined
    joined : allowed_frames m n c ≡ join_each n 0 list
    unfolding threads
    joined = offers_all m c x.point x.reached.within
        (λ u h. is_false (λ d. clash (ap (λ (k : ℕ). is_due (c.threads.place k)) (sym (x.due_last u h d)) ∙ d) free)) n few

    total : length (allowed_frames m n c) ≡ sum_each n counts
    total =
        ap length joined ∙ join_length list n
        ∙ sum_same n (lengths list) counts (λ t h. list_length t (omega arith))

    pub taken_none : sum_each n counts ≡ 0 → (draw : ℕ) → Chooses (allowed_frames m n c) draw None
    taken_none z draw =
        record { none = λ _. nothing (allowed_frames m n c) (total ∙ z); some = λ f e. different (cc); taken = λ f e. different (cc) }

    pub taken_picked : (draw : ℕ) (spot : Spot) (f : code.Frame) → (sum_each n counts ≡ 0 → ⊥)
        → PickedAt run.threads.each n ms.count ms.first fronts (draw % sum_each n counts) spot
        → f.thread ≡ spot.thread → f.region ≡ spot.region
        → f.flag ≡ holds_at hs (guard_at gs spot.region) run.state → Chooses (allowed_frames m n c) draw (Some f)
    taken_picked draw spot f some p t g b = record {
      none = λ z. different (cc);
      some = λ _ _. let e = total in omega arith;
      taken = λ h z d. let same : f ≡ h = cc in ap frame_of (sym same) ∙ at d;
    }
      where
        u : ℕ
        u = spot.thread

        small : u < 16
        small = let h = p.below in omega arith

        passed : sum_each u (lengths list) ≡ sum_each u counts
        passed = sum_same u (lengths list) counts (λ v h. list_length v (omega arith))

        i : ℕ
        i = draw % sum_each n counts - sum_each u counts

        inside : i < length (list u)
        inside = let e = list_length u small in let h = p.from in let l = p.to in omega arith

        at : (d : Frame) → frame_of f ≡ get_or (allowed_frames m n c) (draw % length (allowed_frames m n c)) d
        at d =
            let found = list_at u i small inside spot.region p.region d in
            let place : sum_each u (lengths list) + i ≡ draw % length (allowed_frames m n c) =
            ap (λ (k : ℕ). k + i) passed ∙ omega (arith, p.from) ∙ ap (λ (k : ℕ). draw % k) (sym total) in
            frame_same f u spot.region t g b found.0
            ∙ sym found.1
            ∙ sym (join_at list n u i d p.below inside)
            ∙ ap (λ (fs : List Frame). get_or fs (sum_each u (lengths list) + i) d) (sym joined)
            ∙ ap (λ (k : ℕ). get_or (allowed_frames m n c) k d) place
