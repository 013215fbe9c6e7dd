-- What the check of a file gives its monitor freed from syntax: kept states stay kept, a guard's number stands for the
-- guard, and no body leaves its thread waiting.
use Prim.Native.Nat.{ℕ, zero, suc, ◌+◌, ◌≤◌, ◌<◌}
use native.Mathlib.Omega.{arith}
use mathlib.Core.Path.{◌≡◌, refl, sym, ap, subst, ◌∙◌}
use mathlib.Core.Bool.{Bool, true, false}
use mathlib.Core.Logic.{◌↔◌}
use mathlib.Core.List.{List, [], ◌∷◌, ◌++◌}
use mathlib.Core.Option.{some, some-injective}
use lib.ListN.{length, get_or, get_elem?, length-append, get_or-eq_default}
use lib.Dec.{ltb, eqb}
use lib.IntN.{ℤ}
use borrow.Author.Tests.{ltb-true, ltb-false, lt-ltb, le-ltb, eqb-true, eqb-false}
use Rattle.syntax.specs.Tree.{Cond, Region, Monitor, all, spell_cond}
use Rattle.machine.specs.Monitor as machine
use Rattle.machine.specs.Decide.Step.{is_waiting}
use Rattle.meaning.specs.Value.{cond_value, is_true, truth}
use Rattle.meaning.specs.State.{count, state_at, number_of}
use Rattle.meaning.specs.Kept.{kept_at}
use Rattle.meaning.specs.Model.{same_guard, place_in, guards_of, goes_on_in, no_guard, no_region, number_after, vars}
use Rattle.meaning.specs.Model.{regions, guards, region, guard_of, holds, kept, after, follows}
use Rattle.meaning.specs.Accepted.{Keeps, Meets, Sound}
use Rattle.meaning.specs.Runs.{State, IsRegion}
use Rattle.logic.proofs.Bools.{both, and, split, clash, no_some}
use Rattle.logic.proofs.Bools.{Decides, different}
use Rattle.meaning.proofs.SameGuards.{decides_lexemes}
use Rattle.meaning.proofs.MethodLaws.{goes_on_below}
use Rattle.meaning.proofs.StateLaws.{state_at_lem, number_below, state_at_number}
use Rattle.meaning.proofs.BodyLaws.{outcome_of_runs, block_runs_state}
use Rattle.meaning.specs.Calls.{Startable}

-- Guards in a list

decides_guard : (c d : Cond) → Decides (same_guard c d) (spell_cond c ≡ spell_cond d)
unfolding same_guard
decides_guard c d = decides_lexemes (spell_cond c) (spell_cond d)

pub place_here : (c d : Cond) (ds : List Cond) → same_guard c d ≡ true → place_in c (d ∷ ds) ≡ 0
unfolding place_in
place_here c d ds h = cc

pub place_later : (c d : Cond) (ds : List Cond) → same_guard c d ≡ false → place_in c (d ∷ ds) ≡ suc (place_in c ds)
unfolding place_in
place_later c d ds h = cc

-- a place depends on the lexemes alone
pub place_spells : (c d : Cond) (es : List Cond) → spell_cond c ≡ spell_cond d → place_in c es ≡ place_in d es
unfolding place_in same_guard
place_spells c d [] h = refl
place_spells c d (e ∷ es) h = cc (place_spells c d es h)

-- a guard is in a list
abbrev pub Found : Cond → List Cond → Type 0
Found c ds = place_in c ds < length ds

found_tail : (c d : Cond) (ds : List Cond) → same_guard c d ≡ false → Found c (d ∷ ds) → Found c ds
found_tail c d ds e h = let p = place_later c d ds e in omega arith

pub found_spells : (c : Cond) (ds : List Cond) → Found c ds → spell_cond c ≡ spell_cond (get_or ds (place_in c ds) no_guard)
found_spells c [] h = absurd (omega arith)
found_spells c (d ∷ ds) h =
    split (same_guard c d) (λ e. rw (place_here c d ds e) ((decides_guard c d).0 e))
    (λ e. rw (place_later c d ds e) (found_spells c ds (found_tail c d ds e h)))

-- more guards behind a list change no place in it
pub place_append : (c : Cond) (ds es : List Cond) → Found c ds → place_in c (ds ++ es) ≡ place_in c ds
place_append c [] es h = absurd (omega arith)
place_append c (d ∷ ds) es h =
    split (same_guard c d) (λ e. place_here c d (ds ++ es) e ∙ sym (place_here c d ds e))
    (λ e. place_later c d (ds ++ es) e ∙ ap suc (place_append c ds es (found_tail c d ds e h))
    ∙ sym (place_later c d ds e))

pub found_append : (c : Cond) (ds es : List Cond) → Found c ds → Found c (ds ++ es)
found_append c ds es h = let p = place_append c ds es h in let l = length-append ds es in omega arith

-- a guard that is not in a list takes the place behind it
pub place_last : (c : Cond) (ds : List Cond) → length ds ≤ place_in c ds → place_in c (ds ++ (c ∷ [])) ≡ length ds
place_last c [] h = place_here c c [] ((decides_guard c c).1 refl)
place_last c (d ∷ ds) h =
    split (same_guard c d) (λ e. let p = place_here c d ds e in absurd (omega arith))
    (λ e. let p = place_later c d ds e in
    place_later c d (ds ++ (c ∷ [])) e ∙ ap suc (place_last c ds (omega arith)))

-- The guards of some regions, behind those found before

pub known : (found : List Cond) (r : Region) (rs : List Region) → Found r.guard found → guards_of found (r ∷ rs)
    ≡ guards_of found rs
unfolding guards_of
known found r rs h = cc (lt-ltb (place_in r.guard found) (length found) h)

pub new : (found : List Cond) (r : Region) (rs : List Region) → length found ≤ place_in r.guard found
    → guards_of found (r ∷ rs) ≡ guards_of (found ++ (r.guard ∷ [])) rs
unfolding guards_of
new found r rs h = cc (le-ltb (place_in r.guard found) (length found) h)

pub known_or_new {ℓ} : {C : Type ℓ} (c : Cond) (ds : List Cond) → (Found c ds → C) → (length ds ≤ place_in c ds → C) → C
known_or_new c ds f g =
    split (ltb (place_in c ds) (length ds)) (λ h. f (ltb-true (place_in c ds) (length ds) h))
    (λ h. g (ltb-false (place_in c ds) (length ds) h))

-- the guards found before keep their places
place_kept : (c : Cond) (found : List Cond) (rs : List Region) → Found c found → place_in c (guards_of found rs)
    ≡ place_in c found
unfolding guards_of
place_kept c found [] h = refl
place_kept c found (r ∷ rs) h =
    known_or_new r.guard found (λ k. rw (known found r rs k) (place_kept c found rs h))
    (λ n. rw (new found r rs n)
    (place_kept c (found ++ (r.guard ∷ [])) rs (found_append c found (r.guard ∷ []) h)
    ∙ place_append c found (r.guard ∷ []) h))

found_kept : (c : Cond) (found : List Cond) (rs : List Region) → Found c found → Found c (guards_of found rs)
unfolding guards_of
found_kept c found [] h = h
found_kept c found (r ∷ rs) h =
    known_or_new r.guard found (λ k. rw (known found r rs k) (found_kept c found rs h))
    (λ n. rw (new found r rs n) (found_kept c (found ++ (r.guard ∷ [])) rs (found_append c found (r.guard ∷ []) h)))

pub found_last : (c : Cond) (ds : List Cond) → length ds ≤ place_in c ds → Found c (ds ++ (c ∷ []))
found_last c ds h = let p = place_last c ds h in let l = length-append ds (c ∷ []) in omega arith

-- a new guard takes the place behind those found before
place_new : (found : List Cond) (r : Region) (rs : List Region) → length found ≤ place_in r.guard found
    → place_in r.guard (guards_of found (r ∷ rs)) ≡ length found
place_new found r rs n =
    rw (new found r rs n)
    (place_kept r.guard (found ++ (r.guard ∷ [])) rs (found_last r.guard found n)
    ∙ place_last r.guard found n)

-- the guard of each region is found
found_region : (found : List Cond) (rs : List Region) (i : ℕ) (q : Region) → get_elem? rs i ≡ some q
    → Found q.guard (guards_of found rs)
found_region found [] i q e = no_some e
found_region found (r ∷ rs) zero q e =
    subst (λ (u : Region). Found u.guard (guards_of found (r ∷ rs))) (some-injective _ _ e)
    (known_or_new r.guard found (λ k. found_kept r.guard found (r ∷ rs) k)
    (λ n. rw (new found r rs n) (found_kept r.guard (found ++ (r.guard ∷ [])) rs (found_last r.guard found n))))
found_region found (r ∷ rs) (suc i) q e =
    known_or_new r.guard found (λ k. rw (known found r rs k) (found_region found rs i q e))
    (λ n. rw (new found r rs n) (found_region (found ++ (r.guard ∷ [])) rs i q e))

-- region j of a list has the guard with number g
abbrev Has : List Cond → List Region → ℕ → ℕ → Type 0
Has gs rs j g = (q : Region) × (get_elem? rs j ≡ some q) × (place_in q.guard gs ≡ g)

-- a guard past those found before is a region's
some_region : (found : List Cond) (rs : List Region) (g : ℕ) → length found ≤ g → g < length (guards_of found rs)
    → (j : ℕ) × Has (guards_of found rs) rs j g
unfolding guards_of
some_region found [] g low high = absurd (omega arith)
some_region found (r ∷ rs) g low high =
    known_or_new r.guard found
    (λ k. let t = some_region found rs g low (rw (known found r rs k) at high) in
    rw (known found r rs k) (suc t.0, t.1))
    (λ n. split (eqb g (length found))
    (λ e. (0, (r, refl, place_new found r rs n ∙ sym (eqb-true g (length found) e))))
    (λ e. let ne : (g ≡ length found → ⊥) = eqb-false g (length found) e in
    let l = length-append found (r.guard ∷ []) in
    let t = some_region (found ++ (r.guard ∷ [])) rs g (omega arith) (rw (new found r rs n) at high) in
    rw (new found r rs n) (suc t.0, t.1)))

-- and of a region before any that has a later one
first_place : (found : List Cond) (r : Region) (rs : List Region)
    → place_in r.guard (guards_of found (r ∷ rs)) ≤ length found
first_place found r rs =
    known_or_new r.guard found (λ k. let p = place_kept r.guard found (r ∷ rs) k in omega arith)
    (λ n. let p = place_new found r rs n in omega arith)

earlier : (found : List Cond) (rs : List Region) (i : ℕ) (q : Region) (g : ℕ) → get_elem? rs i ≡ some q
    → length found ≤ g
    → g < place_in q.guard (guards_of found rs) → (j : ℕ) × (j < i) × Has (guards_of found rs) rs j g
earlier found [] i q g e low high = no_some e
earlier found (r ∷ rs) zero q g e low high =
    let same : r ≡ q = some-injective _ _ e in
    let first = first_place found r rs in
    let late : g < place_in r.guard (guards_of found (r ∷ rs)) =
    subst (λ (u : Region). g < place_in u.guard (guards_of found (r ∷ rs))) (sym same) high in
    absurd (omega arith)
earlier found (r ∷ rs) (suc i) q g e low high =
    known_or_new r.guard found
    (λ k. let t = earlier found rs i q g e low (rw (known found r rs k) at high) in
    rw (known found r rs k) (suc t.0, omega arith, t.2))
    (λ n. split (eqb g (length found))
    (λ h. (0, omega arith, (r, refl, place_new found r rs n ∙ sym (eqb-true g (length found) h))))
    (λ h. let ne : (g ≡ length found → ⊥) = eqb-false g (length found) h in
    let l = length-append found (r.guard ∷ []) in
    let t = earlier (found ++ (r.guard ∷ [])) rs i q g e (omega arith) (rw (new found r rs n) at high) in
    rw (new found r rs n) (suc t.0, omega arith, t.2)))

-- The model of a tree

pub element : {A : Type 0} (as' : List A) (i : ℕ) (d : A) → i < length as' → get_elem? as' i ≡ some (get_or as' i d)
element [] i d h = absurd (omega arith)
element (a ∷ as') zero d h = refl
element (a ∷ as') (suc i) d h = element as' i d (omega arith)

pub element_below : {A : Type 0} (as' : List A) (i : ℕ) (a d : A) → get_elem? as' i ≡ some a
    → (i < length as') × (get_or as' i d ≡ a)
element_below [] i a d e = no_some e
element_below (b ∷ as') zero a d e = (omega arith, some-injective _ _ e)
element_below (b ∷ as') (suc i) a d e = let t = element_below as' i a d e in (omega arith, t.1)

leaves_place : (r : ℕ) (b : Bool) → is_waiting (elim b [ true ↦ machine.due (r + 1) | false ↦ machine.idle ]) ≡ false
unfolding is_waiting
leaves_place r true = refl
leaves_place r false = refl

module _ (m : Monitor) where
  pub region_numbered : (r : ℕ) → r < length (regions m) → IsRegion m r (region m r)
  unfolding regions region IsRegion
  region_numbered r h = element (regions m) r no_region h

  -- a region's guard has a number, which is that of a guard with its lexemes
  pub guard_below : (r : ℕ) → r < length (regions m) → guard_of m r < length (guards m)
  unfolding regions region guard_of guards
  guard_below r h = found_region [] (regions m) r (region m r) (element (regions m) r no_region h)

  pub guard_spells : (r : ℕ) → r < length (regions m) → spell_cond (get_or (guards m) (guard_of m r) no_guard)
      ≡ spell_cond (region m r).guard
  unfolding guard_of
  guard_spells r h = sym (found_spells (region m r).guard (guards m) (guard_below r h))

  -- "Two guards are one when their tokens are equal"
  pub one_guard_iff : (r q : ℕ) → r < length (regions m) → q < length (regions m)
      → (guard_of m r ≡ guard_of m q) ↔ (spell_cond (region m r).guard ≡ spell_cond (region m q).guard)
  unfolding guard_of
  one_guard_iff r q hr hq = (
    λ e. sym (guard_spells r hr) ∙ ap (λ (g : ℕ). spell_cond (get_or (guards m) g no_guard)) e ∙ guard_spells q hq,
    place_spells (region m r).guard (region m q).guard (guards m),
  )

  -- "guards are numbered from 0 by first appearance"
  pub each_guard : (g : ℕ) → g < length (guards m) → (r : ℕ) × (r < length (regions m)) × (guard_of m r ≡ g)
  unfolding guards guard_of region
  each_guard g h =
      let t = some_region [] (regions m) g (omega arith) h in
      let u = element_below (regions m) t.0 t.1.0 no_region t.1.1 in
      (t.0, u.0, rw u.1 t.1.2)

  pub first_appearance : (r g : ℕ) → r < length (regions m) → g < guard_of m r → (q : ℕ) × (q < r) × (guard_of m q ≡ g)
  unfolding guards guard_of region
  first_appearance r g h low =
      let t = earlier [] (regions m) r (region m r) g (element (regions m) r no_region h) (omega arith) low in
      let u = element_below (regions m) t.0 t.2.0 no_region t.2.1 in
      (t.0, t.1, rw u.1 t.2.2)

  -- a body leaves its thread due or idle
  pub leaves : (r : ℕ) → is_waiting (follows m r) ≡ false
  unfolding follows
  leaves r = leaves_place r (goes_on_in (all m.methods) r)

  -- and due at a region of the file
  pub follows_below : (r w : ℕ) → follows m r ≡ machine.due w → w < length (regions m)
  unfolding follows regions
  follows_below r w e = split (goes_on_in (all m.methods) r)
      (λ h. let same : w ≡ r + 1 = cc in omega (arith, same, goes_on_below (all m.methods) r h))
      (λ h. different (cc))

  pub kept_below : (s : ℕ) → kept m s ≡ true → s < count (vars m)
  unfolding kept
  kept_below s h = ltb-true s (count (vars m)) (both (ltb s (count (vars m))) (kept_at m (state_at (vars m) s)) h).0

  kept_truth : (s : ℕ) → kept m s ≡ true → kept_at m (state_at (vars m) s) ≡ true
  unfolding kept
  kept_truth s h = (both (ltb s (count (vars m))) (kept_at m (state_at (vars m) s)) h).1

  -- only a guard of the file holds
  pub holds_below : (g s : ℕ) → holds m g s ≡ true → g < length (guards m)
  unfolding holds no_guard truth cond_value is_true
  holds_below g s h =
      split (ltb g (length (guards m))) (ltb-true g (length (guards m)))
      (λ high. clash h (ap (λ (c : Cond). truth c (vars m) (state_at (vars m) s))
      (get_or-eq_default (guards m) no_guard (ltb-false g (length (guards m)) high))))

  no_region_lem : (r : ℕ) → length (regions m) ≤ r → region m r ≡ no_region
  unfolding region
  no_region_lem r h = get_or-eq_default (regions m) no_region h

  module _ (one_cond : (c d : Cond) → spell_cond c ≡ spell_cond d → c ≡ d) where
    guard_at : (c : Cond) (ds : List Cond) → (length ds ≤ place_in c ds → c ≡ no_guard) → get_or ds (place_in c ds) no_guard
        ≡ c
    guard_at c ds h =
        known_or_new c ds (λ k. sym (one_cond c (get_or ds (place_in c ds) no_guard) (found_spells c ds k)))
        (λ n. get_or-eq_default ds no_guard n ∙ sym (h n))

    -- a guard's number stands for the guard, also where there is no such region
    pub guard_of_region : (r : ℕ) → get_or (guards m) (guard_of m r) no_guard ≡ (region m r).guard
    unfolding guard_of no_region
    guard_of_region r =
        guard_at (region m r).guard (guards m) (λ past.
        split (ltb r (length (regions m)))
        (λ h. let low = guard_below r (ltb-true r (length (regions m)) h) in absurd (omega arith))
        (λ h. ap (λ (q : Region). q.guard) (no_region_lem r (ltb-false r (length (regions m)) h))))

    pub holds_guard : (r n : ℕ) → holds m (guard_of m r) n ≡ truth (region m r).guard (vars m) (state_at (vars m) n)
    unfolding holds
    holds_guard r n = ap (λ c. truth c (vars m) (state_at (vars m) n)) (guard_of_region r)

    pub outside : (r s : ℕ) → length (regions m) ≤ r → holds m (guard_of m r) s ≡ false
    unfolding no_region no_guard truth cond_value is_true
    outside r s h = holds_guard r s ∙ ap (λ (q : Region). truth q.guard (vars m) (state_at (vars m) s))
        (no_region_lem r h)

    -- only a region of the file has a guard that holds
    pub holds_region : (r s : ℕ) → holds m (guard_of m r) s ≡ true → r < length (regions m)
    holds_region r s h =
        split (ltb r (length (regions m))) (λ low. ltb-true r (length (regions m)) low)
        (λ high. clash h (outside r s (ltb-false r (length (regions m)) high)))

    module _ (ok : Sound m) where
      meets : (r s : ℕ) → kept m s ≡ true → holds m (guard_of m r) s ≡ true → Meets m (region m r) (state_at (vars m) s)
      meets r s k h =
          record {
            state = state_at_lem ok.ranges s (kept_below s k);
            kept = kept_truth s k;
            guard = sym (holds_guard r s) ∙ h;
          }

      -- a kept condition stays so, over every body that may run
      kept_number : (bs : List ℤ) → State (vars m) bs → kept_at m bs ≡ true → kept m (number_of (vars m) bs) ≡ true
      unfolding kept
      kept_number bs s t =
          and (lt-ltb (number_of (vars m) bs) (count (vars m)) (number_below ok.ranges s))
          (rw (state_at_number ok.ranges s) t)

      pub keeps : (r s : ℕ) → kept m s ≡ true → holds m (guard_of m r) s ≡ true → kept m (after m r s) ≡ true
      unfolding Keeps after number_after
      keeps r s k h =
          let q = meets r s k h in
          let t = ok.keeps r (region m r) (state_at (vars m) s) (region_numbered r (holds_region r s h)) q in
          rw (outcome_of_runs (region m r) t.1) (kept_number t.0 (block_runs_state t.1 q.state) t.2)

-- 11
pub startable_iff : (m : Monitor) (s : ℕ) → (kept m s ≡ true) ↔ Startable m s
unfolding kept
startable_iff m s = (
  λ h.
      let t = both (ltb s (count (vars m))) (kept_at m (state_at (vars m) s)) h in
      record { below = ltb-true s (count (vars m)) t.0; keeps = t.1 },
  λ h. and (lt-ltb s (count (vars m)) h.below) h.keeps,
)
