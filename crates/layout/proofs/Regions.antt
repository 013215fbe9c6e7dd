-- A layout that holds the regions so far: the number of a guard among them, and one region more.
use Prim.Native.Nat.{ℕ, suc, ◌+◌, ◌%◌, ◌≤◌, ◌<◌}
use native.Mathlib.Omega.{arith}
use native.Mathlib.Numerals.{add-one}
use mathlib.Core.Path.{◌≡◌, refl, sym, ap, ◌∙◌}
use mathlib.Core.Bool.{true, false}
use mathlib.Core.List.{List, [], ◌∷◌, ◌++◌, map-append}
use mathlib.Core.Logic.{◌⊎◌, ⊎_elim}
use lib.ListN.{length, drop, get_or, set, length-append, length-set, get_or-append, drop_of_length-le}
use lib.Seq.{drop-cons, get_or-append_seam, get_or-set_same, get_or-set_other}
use lib.Dec.{eqb}
use borrow.Author.Tests.{eqb-true, eqb-false}
use Rattle.syntax.specs.Token.{Lexeme}
use Rattle.syntax.specs.Tree.{Cond, Region, spell_cond}
use Rattle.meaning.specs.Model.{same_lexemes, same_guard, place_in, guards_of, no_guard}
use Rattle.meaning.proofs.ModelLaws.{Found, place_here, place_later, found_spells, place_append, found_append}
use Rattle.meaning.proofs.ModelLaws.{place_last, found_last, known, new, known_or_new}
use Rattle.logic.proofs.Bools.{split}
use Rattle.layout.specs.Laid.{RegionAt}
use Rattle.layout.specs.Promises.{GuardAt, Flagged, no_flagged, parts, found, Arrays, Room, Holds, with_guard}
use Rattle.layout.specs.Promises.{with_region}
use Rattle.layout.specs.declared.Layout.{Layout}

-- The number of a guard

module _ {ls : List Lexeme} {done : List Flagged} {l : Layout} (holds : Holds ls done l) (c : Cond) (g : ℕ) where
  first_of : ℕ → Cond
  first_of h = (get_or done (get_or l.firsts h 0) no_flagged).region.guard

  module _ (low : g < length (found done)) where
    -- a guard's first region has the guard
    first_guard : same_guard c (first_of g) ≡ same_guard c (get_or (found done) g no_guard)
    unfolding same_guard first_of
    first_guard =
        let has : place_in (first_of g) (found done) ≡ g = holds.first_has g low in
        let spells = found_spells (first_of g) (found done) (omega arith) in
        ap (same_lexemes (spell_cond c)) (spells ∙ ap (λ (i : ℕ). spell_cond (get_or (found done) i no_guard)) has)

    pub number_here : same_guard c (get_or done (get_or l.firsts g 0) no_flagged).region.guard ≡ true
        → g ≡ g + place_in c (drop g (found done))
    unfolding first_of
    number_here h =
        rw (drop-cons (found done) g no_guard low, place_here c _ (drop (suc g) (found done)) (sym first_guard ∙ h))
        (omega arith)

    pub number_later : same_guard c (get_or done (get_or l.firsts g 0) no_flagged).region.guard ≡ false
        → g + 1 + place_in c (drop (g + 1) (found done)) ≡ g + place_in c (drop g (found done))
    unfolding first_of
    number_later h =
        rw (
          add-one,
          drop-cons (found done) g no_guard low,
          place_later c _ (drop (suc g) (found done)) (sym first_guard ∙ h),
        ) (omega arith)

    -- where the guard stands
    pub first_stands : GuardAt ls (get_or l.guards_at (get_or l.firsts g 0) 0)
        (get_or done (get_or l.firsts g 0) no_flagged).region.guard
    first_stands =
        let at = holds.stand (get_or l.firsts g 0) (holds.first_below g low) in
        (at.behind_guard, at.guard_stands)

    pub first_small : Room l → get_or l.firsts g 0 % 16 ≡ get_or l.firsts g 0
    first_small room =
        let low = holds.first_below g low in let count = holds.count in let few = room.few_regions in omega arith

  pub number_over : length (found done) ≤ g → g ≡ g + place_in c (drop g (found done))
  unfolding place_in
  number_over h = rw (drop_of_length-le (found done) h) (omega arith)

-- One region more

pub guards_join : (fs : List Cond) (rs qs : List Region) → guards_of fs (rs ++ qs) ≡ guards_of (guards_of fs rs) qs
unfolding guards_of
guards_join fs [] qs = refl
guards_join fs (r ∷ rs) qs =
    known_or_new r.guard fs
    (λ h. rw (known fs r (rs ++ qs) h, known fs r rs h) (guards_join fs rs qs))
    (λ h. rw (new fs r (rs ++ qs) h, new fs r rs h) (guards_join (fs ++ (r.guard ∷ [])) rs qs))

module _ (done : List Flagged) (f : Flagged) where
  last_known : Found f.region.guard (found done) → found (done ++ (f ∷ [])) ≡ found done
  unfolding guards_of
  last_known h =
      ap (guards_of []) (map-append (λ (e : Flagged). e.region) done (f ∷ []))
      ∙ guards_join [] (parts done) (f.region ∷ [])
      ∙ known (found done) f.region [] h

  last_new : length (found done) ≤ place_in f.region.guard (found done)
      → found (done ++ (f ∷ [])) ≡ found done ++ (f.region.guard ∷ [])
  unfolding guards_of
  last_new h =
      ap (guards_of []) (map-append (λ (e : Flagged). e.region) done (f ∷ []))
      ∙ guards_join [] (parts done) (f.region ∷ [])
      ∙ new (found done) f.region [] h

  -- what holds of each region with what two arrays have at it, holds with one region more
  extended : (P : Flagged → ℕ → ℕ → Type 0) (xs ys : List ℕ) (x y n : ℕ) → n ≡ length done → n < length xs
      → n < length ys
      → ((r : ℕ) → r < length done → P (get_or done r no_flagged) (get_or xs r 0) (get_or ys r 0)) → P f x y
      → (r : ℕ) → r < length (done ++ (f ∷ []))
      → P (get_or (done ++ (f ∷ [])) r no_flagged) (get_or (set xs n x) r 0) (get_or (set ys n y) r 0)
  extended P xs ys x y n e p q before here r h =
      split (eqb r n)
      (λ t. let same : r ≡ n = eqb-true r n t in
      rw (same, get_or-set_same xs n x 0 p, get_or-set_same ys n y 0 q, e, get_or-append_seam done f [] no_flagged) here)
      (λ t. let other = eqb-false r n t in
      let sum = length-append done (f ∷ []) in
      let low : r < length done = apart other (omega arith) in
      rw (
        get_or-append done (f ∷ []) no_flagged r low,
        get_or-set_other xs n r x 0 other,
        get_or-set_other ys n r y 0 other,
      ) (before r low))
    where
      apart : (r ≡ n → ⊥) → r < length done + 1 → r < length done
      apart ne b = omega arith

module _ (ls : List Lexeme) (done : List Flagged) (f : Flagged) (l : Layout) (room : Room l) (holds : Holds ls done l)
    (low : l.regions < 16) (guard_at body_at number : ℕ) (stands : RegionAt ls f.region guard_at body_at)
    (numbered : number ≡ place_in f.region.guard (found done)) where
  -- with the guards that there are then, and a layout that differs in the guards at most
  grown : (fs : List Cond) → found (done ++ (f ∷ [])) ≡ fs
      → ((c : Cond) → Found c (found done) → (place_in c fs ≡ place_in c (found done)) × Found c fs)
      → place_in f.region.guard fs ≡ number → Found f.region.guard fs
      → (guards : ℕ) (firsts : List ℕ) → guards ≡ length fs
      → ((g : ℕ) → g < length fs → get_or firsts g 0 < length (done ++ (f ∷ [])))
      → ((g : ℕ) → g < length fs → place_in (get_or (done ++ (f ∷ [])) (get_or firsts g 0) no_flagged).region.guard fs ≡ g)
      → Holds ls (done ++ (f ∷ [])) (with_region
      record {
        keep = l.keep;
        regions = l.regions;
        guards = guards;
        guards_at = l.guards_at;
        bodies_at = l.bodies_at;
        guard_of = l.guard_of;
        begins = l.begins;
        goes_on = l.goes_on;
        firsts = firsts;
      } guard_at body_at number f.begins f.goes_on)
  grown fs are kept here found_Here guards firsts many below has =
      record {
        count = let e = holds.count in let sum = length-append done (f ∷ []) in omega arith;
        guard_count = rw are many;
        stand =
            extended done f (λ e x y. RegionAt ls e.region x y) l.guards_at l.bodies_at guard_at body_at
            l.regions
            holds.count (omega (arith, room.arrays.guards_whole)) (omega (arith, room.arrays.bodies_whole))
            holds.stand stands;
        numbers =
            rw are (extended done f (λ e x y. x ≡ place_in e.region.guard fs) l.guard_of
            l.guard_of number number l.regions
            holds.count (omega (arith, room.arrays.numbers_whole)) (omega (arith, room.arrays.numbers_whole))
            (λ r h. holds.numbers r h ∙ sym (kept _ (holds.all_found r h)).0) (sym here));
        all_found =
            rw are (extended done f (λ e x y. Found e.region.guard fs) l.guard_of l.guard_of number number
            l.regions
            holds.count (omega (arith, room.arrays.numbers_whole)) (omega (arith, room.arrays.numbers_whole))
            (λ r h. (kept _ (holds.all_found r h)).1) found_Here);
        first_below = rw are below;
        first_has = rw are has;
        begin_flags =
            extended done f (λ e x y. x ≡ e.begins) l.begins l.begins f.begins f.begins l.regions
            holds.count
            (omega (arith, room.arrays.begins_whole)) (omega (arith, room.arrays.begins_whole))
            holds.begin_flags refl;
        follow_flags =
            extended done f (λ e x y. x ≡ e.goes_on) l.goes_on l.goes_on f.goes_on f.goes_on l.regions
            holds.count
            (omega (arith, room.arrays.goes_on_whole)) (omega (arith, room.arrays.goes_on_whole))
            holds.follow_flags refl;
      }

  -- a region before keeps its place
  kept_place : (r : ℕ) → r < length done → get_or (done ++ (f ∷ [])) r no_flagged ≡ get_or done r no_flagged
  kept_place r h = get_or-append done (f ∷ []) no_flagged r h

  pub with_known : number < l.guards
      → Holds ls (done ++ (f ∷ [])) (with_region l guard_at body_at number f.begins f.goes_on)
  with_known h =
      let sum = length-append done (f ∷ []) in
      let count = holds.guard_count in
      let inside : Found f.region.guard (found done) = omega arith in
      grown (found done) (last_known done f inside) (λ c k. (refl, k)) (sym numbered) inside l.guards
      l.firsts count
      (λ g k. let b = holds.first_below g k in omega arith)
      (λ g k. rw (kept_place _ (holds.first_below g k)) (holds.first_has g k))

  pub with_new : number ≡ l.guards
      → Holds ls (done ++ (f ∷ [])) (with_region (with_guard l) guard_at body_at number f.begins f.goes_on)
  with_new h =
      let sum = length-append done (f ∷ []) in
      let count = holds.guard_count in
      let c = f.region.guard in
      let longer = length-append (found done) (c ∷ []) in
      let outside : length (found done) ≤ place_in c (found done) = omega arith in
      let few = room.few_guards in
      let whole = room.arrays.firsts_whole in
      let regions_are = holds.count in
      let room_there : l.guards < length l.firsts = omega arith in
      grown (found done ++ (c ∷ [])) (last_new done f outside)
      (λ d k. (place_append d (found done) (c ∷ []) k, found_append d (found done) (c ∷ []) k))
      (place_last c (found done) outside ∙ sym count ∙ sym h) (found_last c (found done) outside)
      (l.guards + 1) (set l.firsts l.guards l.regions) (omega arith)
      (λ g k. split (eqb g l.guards)
      (λ t. let same : g ≡ l.guards = eqb-true g l.guards t in
      rw (same, get_or-set_same l.firsts l.guards l.regions 0 room_there) (omega arith))
      (λ t. let other = eqb-false g l.guards t in
      rw (get_or-set_other l.firsts l.guards g l.regions 0 other)
      (let b = holds.first_below g (apart g other (omega arith)) in omega arith)))
      (λ g k. split (eqb g l.guards)
      (λ t. let same : g ≡ l.guards = eqb-true g l.guards t in
      rw (
        same,
        get_or-set_same l.firsts l.guards l.regions 0 room_there,
        regions_are,
        get_or-append_seam done f [] no_flagged,
      )
      (place_last c (found done) outside ∙ sym count))
      (λ t. let other = eqb-false g l.guards t in
      let inside = apart g other (omega arith) in
      let b = holds.first_below g inside in
      let has = holds.first_has g inside in
      rw (get_or-set_other l.firsts l.guards g l.regions 0 other, kept_place _ b)
      (place_append _ (found done) (c ∷ []) (omega arith) ∙ has)))
    where
      apart : (g : ℕ) → (g ≡ l.guards → ⊥) → g < length (found done) + 1 → g < length (found done)
      apart g n b = let count = holds.guard_count in omega arith

-- A layout to which a guard of that number was added where there was none
abbrev pub Numbered : Layout → ℕ → Layout → Type 0
Numbered l n k = ((n ≡ l.guards) × (k ≡ with_guard l)) ⊎ ((n ≡ l.guards → ⊥) × (k ≡ l))

guard_arrays : (l : Layout) → Arrays l → Arrays (with_guard l)
guard_arrays l a =
    record {
      guards_whole = a.guards_whole;
      bodies_whole = a.bodies_whole;
      numbers_whole = a.numbers_whole;
      begins_whole = a.begins_whole;
      goes_on_whole = a.goes_on_whole;
      firsts_whole = length-set l.firsts l.guards l.regions ∙ a.firsts_whole;
    }

room_region : (l : Layout) → Arrays l → l.regions < 16 → l.guards ≤ l.regions + 1
    → (guard_at body_at number begins going_on : ℕ)
    → Room (with_region l guard_at body_at number begins going_on)
room_region l a low few guard_at body_at number begins going_on =
    record {
      few_regions = omega arith;
      few_guards = few;
      arrays = record {
        guards_whole = length-set l.guards_at l.regions guard_at ∙ a.guards_whole;
        bodies_whole = length-set l.bodies_at l.regions body_at ∙ a.bodies_whole;
        numbers_whole = length-set l.guard_of l.regions number ∙ a.numbers_whole;
        begins_whole = length-set l.begins l.regions begins ∙ a.begins_whole;
        goes_on_whole = length-set l.goes_on l.regions going_on ∙ a.goes_on_whole;
        firsts_whole = a.firsts_whole;
      };
    }

module _ (l k : Layout) (n : ℕ) (numbered : Numbered l n k) where
  pub numbered_same : (k.regions ≡ l.regions) × (k.keep ≡ l.keep)
  numbered_same = ⊎_elim (λ w. rw w.1 (refl, refl)) (λ w. rw w.1 (refl, refl)) numbered

  pub numbered_room : Room l → l.regions < 16 → (guard_at body_at number begins going_on : ℕ)
      → Room (with_region k guard_at body_at number begins going_on)
  numbered_room room low guard_at body_at number begins going_on =
      let few = room.few_guards in
      ⊎_elim
      (λ w. rw w.1 (room_region (with_guard l) (guard_arrays l room.arrays) low
      (omega arith) guard_at body_at number begins going_on))
      (λ w. rw w.1 (room_region l room.arrays low (omega arith) guard_at body_at number begins going_on))
      numbered

  pub numbered_holds : (ls : List Lexeme) (done : List Flagged) (f : Flagged) → Room l → Holds ls done l
      → l.regions < 16
      → (guard_at body_at : ℕ) → RegionAt ls f.region guard_at body_at → n ≡ place_in f.region.guard (found done)
      → n ≤ l.guards
      → Holds ls (done ++ (f ∷ [])) (with_region k guard_at body_at n f.begins f.goes_on)
  numbered_holds ls done f room holds low guard_at body_at stands place few =
      ⊎_elim
      (λ w. rw w.1 (with_new ls done f l room holds low guard_at body_at n stands place w.0))
      (λ w. rw w.1 (with_known ls done f l room holds low guard_at body_at n stands place (below w.0)))
      numbered
    where
      below : (n ≡ l.guards → ⊥) → n < l.guards
      below ne = omega arith
