-- The choice among a file's tries is the largest set that will do. Sets that will do are closed under union; a pass drops
-- no try that is in such a set; and what no pass drops will do. What becomes of each try is told by the pass that drops it.
use Prim.Native.Nat.{ℕ, zero, suc, ◌+◌, ◌-◌, ◌^◌, ◌≤◌, ◌<◌}
use native.Mathlib.Omega.{arith}
use mathlib.Core.Path.{◌≡◌, refl, sym, ap, subst, ◌∙◌}
use mathlib.Core.Bool.{Bool, true, false, not, ◌&&◌, ◌||◌, false≢true}
use mathlib.Core.Logic.{◌⊎◌, inl, inr, ⊎_elim, ◌↔◌}
use mathlib.Core.List.{List, []}
use mathlib.Core.Option.{Option, none, some, some-injective}
use lib.ListN.{length, get_elem?}
use lib.Dec.{ltb}
use lib.IntN.{ℤ}
use borrow.Author.Tests.{ltb-true, ltb-false, le-leb, lt-leb}
use Rattle.syntax.specs.Tree.{Cond, Region, Var, Monitor, all}
use Rattle.logic.proofs.Any.{any_intro, any_false}
use Rattle.logic.proofs.Bools.{both, and, split, clash, either, or_left, or_right, not_true, true_not, is_false, no_some}
use Rattle.logic.proofs.Bools.{different, tests_equal}
use Rattle.meaning.specs.Value.{truth}
use Rattle.meaning.specs.State.{state_at, number_of, starts}
use Rattle.meaning.specs.Accepted.{GoodRanges}
use Rattle.meaning.specs.Runs.{State, BlockRuns, IsRegion, regions_of}
use Rattle.meaning.specs.Bits.{each_from, bits, ones}
use Rattle.sets.specs.Set.{member}
use Rattle.syntax.specs.Limits.{most_tries}
use Rattle.meaning.specs.Choice.{TrySet, IsTry, AllHold, Binds, WillDo, Within, Largest}
use Rattle.meaning.specs.Choice.{false_at_start, broken, is_chosen, lasts, Breaks, standing, BrokenIn, AreFates}
use Rattle.meaning.specs.Kept.{kept_at}
use Rattle.meaning.specs.Decide.Bodies.{outcome}
use Rattle.meaning.specs.Decide.Choice.{no_try, ends_false, is_none, in_set, try_at, each_try, all_hold, binds}
use Rattle.meaning.specs.Decide.Choice.{breaks_try, first_break, pass, passes, true_at_start, chosen_tries, fate_from}
use Rattle.meaning.specs.Decide.Choice.{fate_of, chosen_bits}
use Rattle.meaning.proofs.StateLaws.{state_at_lem, number_below, state_at_number}
use Rattle.meaning.proofs.BodyLaws.{runs_of_outcome, outcome_of_runs}
use Rattle.meaning.proofs.Searching.{where_none_iff, where_some_iff}
use Rattle.meaning.proofs.Each.{each_length, each_first, each_past, ones_few, same_or_fewer, bits_none}
use Rattle.meaning.proofs.Each.{bits_member, bits_small}
use Rattle.meaning.proofs.ModelLaws.{element, element_below}

-- both sets together
unfoldable pub union : TrySet → TrySet → TrySet
union X Y i = X i || Y i

-- Sets that will do are closed under union: where both together hold, each of them does, and so does each behind the body
pub union_will_do : (m : Monitor) (X Y : TrySet) → WillDo m X → WillDo m Y → WillDo m (union X Y)
unfolding union AllHold
union_will_do m X Y p q = record {
  at_start = λ i c e u. ⊎_elim (p.at_start i c e) (q.at_start i c e) (either (X i) (Y i) u);
  after = λ k r as' bs e b runs i c t u.
      ⊎_elim (p.after k r as' bs e (part X (λ j x. or_left (X j) (Y j) x) r as' b) runs i c t)
      (q.after k r as' bs e (part Y (λ j x. or_right (X j) (Y j) x) r as' b) runs i c t) (either (X i) (Y i) u);
}
  where
    part : (Z : TrySet) → ((j : ℕ) → Z j ≡ true → (X j || Y j) ≡ true) → (r : Region) (as' : List ℤ)
        → Binds m (λ i. X i || Y i) r as' → Binds m Z r as'
    part Z h r as' b = record {
      state = b.state;
      keep = b.keep;
      tries = λ j c e z. b.tries j c e (h j z);
      guard = b.guard;
    }

-- so the largest is the only one
pub one_largest : (m : Monitor) (X Y : TrySet) → Largest m X → Largest m Y → (i : ℕ) → X i ≡ Y i
unfolding Within
one_largest m X Y p q i =
    tests_equal (X i) (Y i) (λ x. q.largest X p.will_do i (p.of_these i x) x)
    (λ y. p.largest Y q.will_do i (q.of_these i y) y)

-- sets that agree on the tries will both do
same_will_do : (m : Monitor) (X Y : TrySet) → ((i : ℕ) → i < length m.tries → X i ≡ Y i) → WillDo m X → WillDo m Y
unfolding AllHold IsTry
same_will_do m X Y same p = record {
  at_start = λ i c e y. p.at_start i c e (back i c e y);
  after = λ k r as' bs e b runs i c t y.
      p.after k r as' bs e
      (record {
        state = b.state;
        keep = b.keep;
        tries = λ j d u x. b.tries j d u (sym (same j (element_below m.tries j d no_try u).0) ∙ x);
        guard = b.guard;
      }) runs i c t (back i c t y);
}
  where
    back : (i : ℕ) (c : Cond) → get_elem? m.tries i ≡ some c → Y i ≡ true → X i ≡ true
    back i c e y = same i (element_below m.tries i c no_try e).0 ∙ y

none_is : is_none none ≡ true
unfolding is_none
none_is = refl

some_is_not : (rn : ℕ × ℕ) → is_none (some rn) ≡ false
unfolding is_none
some_is_not rn = refl

is_none_lem : (o : Option (ℕ × ℕ)) → is_none o ≡ true → o ≡ none
unfolding is_none
is_none_lem none h = refl
is_none_lem (some rn) h = absurd (false≢true h)

ends_false_lem : (vs : List Var) (c : Cond) (o : Option (List ℤ)) → ends_false vs c o ≡ true
    → (bs : List ℤ) × (o ≡ some bs) × (truth c vs bs ≡ false)
unfolding ends_false
ends_false_lem vs c none h = absurd (false≢true h)
ends_false_lem vs c (some bs) h = (bs, refl, not_true h)

module _ (m : Monitor) where
  -- Tests and what they decide

  try_is : (i : ℕ) → i < length m.tries → IsTry m i (try_at m i)
  unfolding IsTry try_at
  try_is i low = element m.tries i no_try low

  try_below : (i : ℕ) (c : Cond) → IsTry m i c → i < length m.tries
  unfolding IsTry
  try_below i c e = (element_below m.tries i c no_try e).0

  try_at_lem : (i : ℕ) (c : Cond) → IsTry m i c → try_at m i ≡ c
  unfolding IsTry try_at
  try_at_lem i c e = (element_below m.tries i c no_try e).1

  -- every member of a set, by number
  all_at : (X : TrySet) (as' : List ℤ) → AllHold m X as' → (i : ℕ) → i < length m.tries → X i ≡ true
      → truth (try_at m i) (all m.vars) as' ≡ true
  unfolding AllHold
  all_at X as' h i low x = h i (try_at m i) (try_is i low) x

  all_within : (Y : TrySet) (xs : List Bool) → Within m Y (in_set xs) → (as' : List ℤ) → AllHold m (in_set xs) as'
      → AllHold m Y as'
  unfolding AllHold Within
  all_within Y xs w as' h i c e y = h i c e (w i (try_below i c e) y)

  pub all_hold_iff : (xs : List Bool) (as' : List ℤ) → (all_hold m xs as' ≡ true) ↔ AllHold m (in_set xs) as'
  unfolding all_hold AllHold
  all_hold_iff xs as' = (
    λ h i c e x. split (truth c (all m.vars) as') (λ t. t) (λ f.
        clash
        (any_intro (length m.tries) _ i (try_below i c e)
        (and x (true_not (ap (λ (d : Cond). truth d (all m.vars) as') (try_at_lem i c e) ∙ f)))) (not_true h)),
    λ h. true_not (any_false (length m.tries) _ (λ k low. is_false (λ t.
        let p = both (in_set xs k) (not (truth (try_at m k) (all m.vars) as')) t in
        clash (h k (try_at m k) (try_is k low) p.0) (not_true p.1)))),
  )

  breaks_of : (xs : List Bool) (c : Cond) (r : Region) (as' : List ℤ) → State (all m.vars) as'
      → breaks_try m xs c r as' ≡ true
      → Binds m (in_set xs) r as'
      × ((bs : List ℤ) × BlockRuns (all m.vars) r.body as' bs × (truth c (all m.vars) bs ≡ false))
  unfolding breaks_try binds
  breaks_of xs c r as' s h =
      let vs = all m.vars in
      let t = both (truth m.keep vs as' && all_hold m xs as' && truth r.guard vs as')
      (ends_false vs c (outcome r vs as')) h in
      let u = both (truth m.keep vs as' && all_hold m xs as') (truth r.guard vs as') t.0 in
      let v = both (truth m.keep vs as') (all_hold m xs as') u.0 in
      let e = ends_false_lem vs c (outcome r vs as') t.1 in (
        record { state = s; keep = v.0; tries = (all_hold_iff xs as').0 v.1; guard = u.1 },
        (e.0, runs_of_outcome r as' e.1, e.2),
      )

  of_breaks : (xs : List Bool) (c : Cond) (r : Region) (as' bs : List ℤ) → Binds m (in_set xs) r as'
      → BlockRuns (all m.vars) r.body as' bs → truth c (all m.vars) bs ≡ false
      → breaks_try m xs c r as' ≡ true
  unfolding breaks_try binds ends_false
  of_breaks xs c r as' bs b runs f =
      and (and (and b.keep ((all_hold_iff xs as').1 b.tries)) b.guard)
      (ap (ends_false (all m.vars) c) (outcome_of_runs r runs) ∙ true_not f)

  -- One pass

  pub pass_at : (xs : List Bool) (i : ℕ) → i < length m.tries
      → in_set (pass m xs) i ≡ in_set xs i && is_none (first_break m xs (try_at m i))
  unfolding pass each_try in_set
  pass_at xs i low = each_first (length m.tries) _ i false low

  pub pass_past : (xs : List Bool) (i : ℕ) → length m.tries ≤ i → in_set (pass m xs) i ≡ false
  unfolding pass each_try in_set
  pass_past xs i high = each_past (length m.tries) 0 _ i false high

  pub pass_long : (xs : List Bool) → length (pass m xs) ≡ length m.tries
  unfolding pass each_try
  pass_long xs = each_length (length m.tries) 0 _

  below_or_past : (i : ℕ) → (i < length m.tries) ⊎ (length m.tries ≤ i)
  below_or_past i = split (ltb i (length m.tries)) (λ h. inl (ltb-true i _ h)) (λ h. inr (ltb-false i _ h))

  pub pass_within : (xs : List Bool) (i : ℕ) → in_set (pass m xs) i ≡ true → in_set xs i ≡ true
  pass_within xs i h =
      ⊎_elim (λ low. (both (in_set xs i) (is_none (first_break m xs (try_at m i))) (sym (pass_at xs i low) ∙ h)).0)
      (λ high. clash h (pass_past xs i high)) (below_or_past i)

  passes_none : (xs : List Bool) → length (passes m 0 xs) ≡ length xs
  unfolding passes
  passes_none xs = refl

  passes_one : (k : ℕ) (xs : List Bool) → length (passes m (suc k) xs) ≡ length (passes m k (pass m xs))
  unfolding passes
  passes_one k xs = refl

  pub passes_within : (n : ℕ) (xs : List Bool) (i : ℕ) → in_set (passes m n xs) i ≡ true → in_set xs i ≡ true
  unfolding passes
  passes_within zero xs i h = h
  passes_within (suc n) xs i h = pass_within xs i (passes_within n (pass m xs) i h)

  -- where nothing is dropped, nothing more is
  pub still : (n : ℕ) (xs : List Bool) → pass m xs ≡ xs → passes m n xs ≡ xs
  unfolding passes
  still zero xs e = refl
  still (suc n) xs e = ap (passes m n) e ∙ still n xs e

  -- each pass drops one, or is the last
  stable : (n : ℕ) (xs : List Bool) → length xs ≡ length m.tries → ones xs ≤ n
      → pass m (passes m n xs) ≡ passes m n xs
  unfolding passes in_set
  stable zero xs l few =
      ⊎_elim (λ e. e) (λ h. absurd (omega arith))
      (same_or_fewer xs (pass m xs) (pass_long xs ∙ sym l) (λ i. pass_within xs i))
  stable (suc n) xs l few =
      ⊎_elim (λ e. let s = ap (passes m n) e ∙ still n xs e in ap (pass m) s ∙ e ∙ sym s)
      (λ h. stable n (pass m xs) (pass_long xs) (omega arith))
      (same_or_fewer xs (pass m xs) (pass_long xs ∙ sym l) (λ i. pass_within xs i))

  pub start_long : length (true_at_start m) ≡ length m.tries
  unfolding true_at_start each_try
  start_long = each_length (length m.tries) 0 _

  pub start_at : (i : ℕ) → i < length m.tries
      → in_set (true_at_start m) i ≡ truth (try_at m i) (all m.vars) (starts (all m.vars))
  unfolding true_at_start each_try in_set
  start_at i low = each_first (length m.tries) _ i false low

  pub start_past : (i : ℕ) → length m.tries ≤ i → in_set (true_at_start m) i ≡ false
  unfolding true_at_start each_try in_set
  start_past i high = each_past (length m.tries) 0 _ i false high

  pub chosen_stable : pass m (chosen_tries m) ≡ chosen_tries m
  unfolding chosen_tries
  chosen_stable =
      stable (length m.tries) (true_at_start m) start_long (omega (arith, ones_few (true_at_start m), start_long))

  chosen_at_start : AllHold m (in_set (chosen_tries m)) (starts (all m.vars))
  unfolding AllHold chosen_tries
  chosen_at_start i c e x =
      ap (λ (d : Cond). truth d (all m.vars) (starts (all m.vars))) (sym (try_at_lem i c e))
      ∙ sym (start_at i (try_below i c e)) ∙ passes_within (length m.tries) (true_at_start m) i x

  -- The kept condition

  -- "keep and the chosen ones together"
  pub kept_iff : (as' : List ℤ) → (kept_at m as' ≡ true)
      ↔ ((truth m.keep (all m.vars) as' ≡ true) × AllHold m (in_set (chosen_tries m)) as')
  unfolding kept_at
  kept_iff as' = (
    λ h.
        let t = both (truth m.keep (all m.vars) as') (all_hold m (chosen_tries m) as') h in
        (t.0, (all_hold_iff (chosen_tries m) as').0 t.1),
    λ t. and t.0 ((all_hold_iff (chosen_tries m) as').1 t.1),
  )

  -- at the start values it is keep alone, since the chosen ones hold there
  pub start_kept : kept_at m (starts (all m.vars)) ≡ truth m.keep (all m.vars) (starts (all m.vars))
  start_kept =
      tests_equal _ _ (λ h. ((kept_iff _).0 h).0) (λ h. (kept_iff (starts (all m.vars))).1 (h, chosen_at_start))

  pub chosen_below : (i : ℕ) → in_set (chosen_tries m) i ≡ true → i < length m.tries
  unfolding chosen_tries
  chosen_below i x =
      ⊎_elim (λ low. low)
      (λ high. clash (passes_within (length m.tries) (true_at_start m) i x) (start_past i high)) (below_or_past i)

  -- a file without tries: the kept condition is keep, and none is chosen
  pub no_tries : m.tries ≡ [] → (as' : List ℤ) → kept_at m as' ≡ truth m.keep (all m.vars) as'
  unfolding AllHold IsTry
  no_tries e as' =
      tests_equal _ _ (λ h. ((kept_iff as').0 h).0)
      (λ h. (kept_iff as').1 (h, λ i c t x. no_some (ap (λ (cs : List Cond). get_elem? cs i) (sym e) ∙ t)))

  pub none_chosen : m.tries ≡ [] → chosen_bits m ≡ 0
  unfolding chosen_bits
  none_chosen e =
      bits_none _ (λ i. is_false (λ h.
      let low = chosen_below i (⊎_elim (λ few. sym (each_first most_tries (in_set (chosen_tries m)) i false few) ∙ h)
      (λ many. clash h (each_past most_tries 0 (in_set (chosen_tries m)) i false many)) (low_or_high i)) in
      omega (arith, ap length e)))
    where
      low_or_high : (i : ℕ) → (i < most_tries) ⊎ (most_tries ≤ i)
      low_or_high i = split (ltb i most_tries) (λ h. inl (ltb-true i _ h)) (λ h. inr (ltb-false i _ h))

  -- the reported number has the chosen tries as its members
  pub chosen_members : (i : ℕ) → i < most_tries → member (chosen_bits m) i ≡ in_set (chosen_tries m) i
  unfolding chosen_bits
  chosen_members i low = bits_member _ i ∙ each_first most_tries (in_set (chosen_tries m)) i false low

  pub chosen_small : chosen_bits m < 2 ^ 16
  unfolding chosen_bits
  chosen_small =
      let xs = each_from most_tries 0 (in_set (chosen_tries m)) in
      subst (λ (n : ℕ). bits xs < 2 ^ n) (each_length most_tries 0 (in_set (chosen_tries m))) (bits_small xs)

  -- States by number stand for all states, in good ranges

  module _ (good : GoodRanges (all m.vars)) where
    unbroken : (xs : List Bool) (c : Cond) → first_break m xs c ≡ none → (k : ℕ) (r : Region) (as' bs : List ℤ)
        → IsRegion m k r → Binds m (in_set xs) r as' → BlockRuns (all m.vars) r.body as' bs
        → truth c (all m.vars) bs ≡ true
    unfolding first_break IsRegion
    unbroken xs c e k r as' bs q b runs =
        let quiet = (where_none_iff (all m.vars) (breaks_try m xs c) (regions_of (all m.methods))).0 e k r q
        (number_of (all m.vars) as') (number_below good b.state) in
        split (truth c (all m.vars) bs) (λ t. t)
        (λ f. clash (of_breaks xs c r as' bs b runs f) (rw (state_at_number good b.state) at quiet))

    broken_at : (xs : List Bool) (c : Cond) (k n : ℕ) → first_break m xs c ≡ some (k, n)
        → Breaks m (in_set xs) c k n
    unfolding first_break IsRegion
    broken_at xs c k n e =
        let (r, q, f, h) =
        (where_some_iff (all m.vars) (breaks_try m xs c) (regions_of (all m.methods)) k n).0 e in
        let (b, (bs, runs, g)) = breaks_of xs c r (state_at (all m.vars) n) (state_at_lem good n f.0) f.1 in
        record { region = r; numbered = q; below = f.0; binds = b; values = bs; runs = runs; false_after = g }

    -- The chosen set

    -- a pass drops no try of a set that will do
    pass_keeps : (Y : TrySet) → WillDo m Y → (xs : List Bool) → Within m Y (in_set xs) → Within m Y (in_set (pass m xs))
    unfolding Within
    pass_keeps Y will xs w i low y =
        pass_at xs i low ∙ and (w i low y) (go (first_break m xs (try_at m i)) refl)
      where
        go : (o : Option (ℕ × ℕ)) → first_break m xs (try_at m i) ≡ o → is_none (first_break m xs (try_at m i)) ≡ true
        go none e = ap is_none e ∙ none_is
        go (some (k, n)) e =
            let t = broken_at xs (try_at m i) k n e in
            clash
            (all_at Y t.values
            (will.after k t.region (state_at (all m.vars) n) t.values t.numbered
            (record {
              state = t.binds.state;
              keep = t.binds.keep;
              tries = all_within Y xs w _ t.binds.tries;
              guard = t.binds.guard;
            }) t.runs) i low y) t.false_after

    passes_keep : (Y : TrySet) → WillDo m Y → (n : ℕ) (xs : List Bool) → Within m Y (in_set xs)
        → Within m Y (in_set (passes m n xs))
    unfolding passes
    passes_keep Y will zero xs w = w
    passes_keep Y will (suc n) xs w = passes_keep Y will n (pass m xs) (pass_keeps Y will xs w)

    start_keeps : (Y : TrySet) → WillDo m Y → Within m Y (in_set (true_at_start m))
    unfolding Within
    start_keeps Y will i low y = start_at i low ∙ all_at Y _ will.at_start i low y

    chosen_will_do : WillDo m (in_set (chosen_tries m))
    unfolding AllHold
    chosen_will_do = record {
      at_start = chosen_at_start;
      after = λ k r as' bs q b runs i c e x.
          let low = try_below i c e in
          let kept : in_set (pass m (chosen_tries m)) i ≡ true = rw chosen_stable x in
          let free = (both (in_set (chosen_tries m) i) (is_none (first_break m (chosen_tries m) (try_at m i)))
          (sym (pass_at (chosen_tries m) i low) ∙ kept)).1 in
          ap (λ (d : Cond). truth d (all m.vars) bs) (sym (try_at_lem i c e))
          ∙ unbroken (chosen_tries m) (try_at m i) (is_none_lem _ free) k r as' bs q b runs;
    }

    -- the chosen set is the largest that will do
    pub chosen_largest : Largest m (in_set (chosen_tries m))
    unfolding chosen_tries
    chosen_largest = record {
      of_these = chosen_below;
      will_do = chosen_will_do;
      largest = λ Y will. passes_keep Y will (length m.tries) (true_at_start m) (start_keeps Y will);
    }

  -- What becomes of each try

  fate_none : (n q : ℕ) (xs : List Bool) (i : ℕ) → first_break m xs (try_at m i) ≡ none
      → fate_from m (suc n) q xs i ≡ fate_from m n (q + 1) (pass m xs) i
  unfolding fate_from
  fate_none n q xs i e = rw (e, fate_from)

  fate_some : (n q : ℕ) (xs : List Bool) (i k s : ℕ) → first_break m xs (try_at m i) ≡ some (k, s)
      → fate_from m (suc n) q xs i ≡ broken q k s
  unfolding fate_from
  fate_some n q xs i k s e = rw (e, fate_from)

  -- by cases of what breaks it first
  pub by_break : {C : Type 0} (xs : List Bool) (i : ℕ) → (first_break m xs (try_at m i) ≡ none → C)
      → ((k s : ℕ) → first_break m xs (try_at m i) ≡ some (k, s) → C) → C
  by_break {C} xs i f g = go (first_break m xs (try_at m i)) refl
    where
      go : (o : Option (ℕ × ℕ)) → first_break m xs (try_at m i) ≡ o → C
      go none e = f e
      go (some (k, s)) e = g k s e

  pub stays_in : (xs : List Bool) (i : ℕ) → i < length m.tries → in_set xs i ≡ true → first_break m xs (try_at m i) ≡ none
      → in_set (pass m xs) i ≡ true
  stays_in xs i low x e = pass_at xs i low ∙ and x (ap is_none e ∙ none_is)

  pub falls_out : (xs : List Bool) (i : ℕ) → i < length m.tries → {k s : ℕ} → first_break m xs (try_at m i) ≡ some (k, s)
      → in_set (pass m xs) i ≡ false
  falls_out xs i low e = is_false (λ h.
      clash (both (in_set xs i) (is_none (first_break m xs (try_at m i))) (sym (pass_at xs i low) ∙ h)).1
      (ap is_none e ∙ some_is_not _))

  -- a fate from pass q on is no drop before q
  fate_late : (n q : ℕ) (xs : List Bool) (i p : ℕ) → p ≤ q → lasts p (fate_from m n q xs i) ≡ true
  unfolding lasts fate_from
  fate_late zero q xs i p h = refl
  fate_late (suc n) q xs i p h =
      by_break xs i (λ e. ap (lasts p) (fate_none n q xs i e) ∙ fate_late n (q + 1) (pass m xs) i p (omega arith))
      (λ k s e. ap (lasts p) (fate_some n q xs i k s e) ∙ le-leb p q h)

  -- the tries dropped no earlier than d passes on are those of the set then
  fate_lasts : (n q : ℕ) (xs : List Bool) (d j : ℕ) → j < length m.tries → in_set xs j ≡ true → d ≤ n
      → lasts (q + d) (fate_from m n q xs j) ≡ in_set (passes m d xs) j
  unfolding passes lasts
  fate_lasts n q xs zero j low x few = fate_late n q xs j (q + 0) (omega arith) ∙ sym x
  fate_lasts zero q xs (suc d) j low x few = absurd (omega arith)
  fate_lasts (suc n) q xs (suc d) j low x few =
      let sums : q + suc d ≡ q + 1 + d = omega arith in
      by_break xs j
      (λ e. ap (lasts (q + suc d)) (fate_none n q xs j e)
      ∙ ap (λ (p : ℕ). lasts p (fate_from m n (q + 1) (pass m xs) j)) sums
      ∙ fate_lasts n (q + 1) (pass m xs) d j low (stays_in xs j low x e) (omega arith))
      (λ k s e. ap (lasts (q + suc d)) (fate_some n q xs j k s e) ∙ lt-leb (q + suc d) q (omega arith)
      ∙ sym (is_false (λ h. clash (passes_within d (pass m xs) j h) (falls_out xs j low e))))

  -- one that is broken in a pass is broken from the set then, and from no set before
  record From (n q : ℕ) (xs : List Bool) (i p k s : ℕ) : Type 0 where
    passed : ℕ
    sum : p ≡ q + passed
    few : passed < n
    breaks : first_break m (passes m passed xs) (try_at m i) ≡ some (k, s)
    none_before : (e : ℕ) → e < passed → first_break m (passes m e xs) (try_at m i) ≡ none

  one_later : (n q : ℕ) (xs : List Bool) (i p k s : ℕ) → first_break m xs (try_at m i) ≡ none
      → From n (q + 1) (pass m xs) i p k s → From (suc n) q xs i p k s
  unfolding passes
  one_later n q xs i p k s e t = record {
    passed = suc t.passed;
    sum = omega (arith, t.sum);
    few = omega (arith, t.few);
    breaks = t.breaks;
    none_before = λ j. elim j as (λ k. k < suc t.passed → first_break m (passes m k xs) (try_at m i) ≡ none) [ zero ↦ λ low. e | suc j ↦ λ low. t.none_before j (omega arith) ];
  }

  fate_broken : (n q : ℕ) (xs : List Bool) (i p k s : ℕ) → fate_from m n q xs i ≡ broken p k s → From n q xs i p k s
  unfolding passes fate_from
  fate_broken zero q xs i p k s h = different (cc)
  fate_broken (suc n) q xs i p k s h =
      by_break xs i
      (λ e. one_later n q xs i p k s e (fate_broken n (q + 1) (pass m xs) i p k s (sym (fate_none n q xs i e) ∙ h)))
      (λ k' s' e.
      let b : broken q k' s' ≡ broken p k s = sym (fate_some n q xs i k' s' e) ∙ h in
      let f : q ≡ p = cc in
      record {
        passed = 0;
        sum = omega arith;
        few = omega arith;
        breaks = e ∙ cc;
        none_before = λ j low. absurd (omega arith);
      })

  -- one that the set then breaks is broken in that pass
  fate_drops : (n q : ℕ) (xs : List Bool) (d i k s : ℕ) → i < length m.tries → d < n
      → in_set (passes m d xs) i ≡ true → first_break m (passes m d xs) (try_at m i) ≡ some (k, s)
      → fate_from m n q xs i ≡ broken (q + d) k s
  unfolding passes
  fate_drops zero q xs d i k s low few x b = absurd (omega arith)
  fate_drops (suc n) q xs zero i k s low few x b =
      let same : q ≡ q + 0 = omega arith in fate_some n q xs i k s b ∙ ap (λ (p : ℕ). broken p k s) same
  fate_drops (suc n) q xs (suc d) i k s low few x b =
      let sums : q + 1 + d ≡ q + suc d = omega arith in
      by_break xs i
      (λ e. fate_none n q xs i e ∙ fate_drops n (q + 1) (pass m xs) d i k s low (omega arith) x b
      ∙ ap (λ (p : ℕ). broken p k s) sums)
      (λ k' s' e. clash (passes_within d (pass m xs) i x) (falls_out xs i low e))

  pub passes_add : (k n : ℕ) (xs : List Bool) → passes m (k + n) xs ≡ passes m n (passes m k xs)
  unfolding passes
  passes_add zero n xs = let e : 0 + n ≡ n = omega arith in ap (λ (j : ℕ). passes m j xs) e
  passes_add (suc k) n xs =
      let e : suc k + n ≡ suc (k + n) = omega arith in
      ap (λ (j : ℕ). passes m j xs) e ∙ passes_add k n (pass m xs)

  pub passes_next : (k : ℕ) (xs : List Bool) → passes m (k + 1) xs ≡ pass m (passes m k xs)
  unfolding passes
  passes_next k xs = passes_add k 1 xs

  pub passes_long : (k : ℕ) → length (passes m k (true_at_start m)) ≡ length m.tries
  passes_long k = go k (true_at_start m) start_long
    where
      go : (k : ℕ) (xs : List Bool) → length xs ≡ length m.tries → length (passes m k xs) ≡ length m.tries
      go zero xs e = passes_none xs ∙ e
      go (suc k) xs e = passes_one k xs ∙ go k (pass m xs) (pass_long xs)

  fate_not_start : (n q : ℕ) (xs : List Bool) (i : ℕ) → fate_from m n q xs i ≡ false_at_start → ⊥
  unfolding fate_from
  fate_not_start zero q xs i h = different (cc)
  fate_not_start (suc n) q xs i h =
      by_break xs i (λ e. fate_not_start n (q + 1) (pass m xs) i (sym (fate_none n q xs i e) ∙ h))
      (λ k s e. let b : broken q k s ≡ false_at_start = sym (fate_some n q xs i k s e) ∙ h in different (cc))

  fate_chosen : (n q : ℕ) (xs : List Bool) (i : ℕ) → i < length m.tries → in_set xs i ≡ true
      → is_chosen (fate_from m n q xs i) ≡ in_set (passes m n xs) i
  unfolding passes fate_from is_chosen
  fate_chosen zero q xs i low x = sym x
  fate_chosen (suc n) q xs i low x =
      by_break xs i
      (λ e. ap is_chosen (fate_none n q xs i e) ∙ fate_chosen n (q + 1) (pass m xs) i low (stays_in xs i low x e))
      (λ k s e. ap is_chosen (fate_some n q xs i k s e)
      ∙ sym (is_false (λ h. clash (passes_within n (pass m xs) i h) (falls_out xs i low e))))

  -- by whether it holds at the start values
  pub fate_on : (i : ℕ) → in_set (true_at_start m) i ≡ true
      → fate_of m i ≡ fate_from m (length m.tries) 1 (true_at_start m) i
  unfolding fate_of
  fate_on i h = rw (h, fate_of)

  pub fate_off : (i : ℕ) → in_set (true_at_start m) i ≡ false → fate_of m i ≡ false_at_start
  unfolding fate_of
  fate_off i h = rw (h, fate_of)

  pub fate_in_pass : (d i k s : ℕ) → i < length m.tries → d < length m.tries
      → in_set (passes m d (true_at_start m)) i ≡ true
      → first_break m (passes m d (true_at_start m)) (try_at m i) ≡ some (k, s) → fate_of m i ≡ broken (1 + d) k s
  fate_in_pass d i k s low few x b =
      fate_on i (passes_within d (true_at_start m) i x)
      ∙ fate_drops (length m.tries) 1 (true_at_start m) d i k s low few x b

  pub chosen_fate : (i : ℕ) → in_set (chosen_tries m) i ≡ is_chosen (fate_of m i)
  unfolding chosen_tries is_chosen
  chosen_fate i =
      split (in_set (true_at_start m) i)
      (λ h. ⊎_elim
      (λ low. sym (ap is_chosen (fate_on i h) ∙ fate_chosen (length m.tries) 1 (true_at_start m) i low h))
      (λ high. clash h (start_past i high)) (below_or_past i))
      (λ h. is_false (λ x. clash (passes_within (length m.tries) (true_at_start m) i x) h)
      ∙ sym (ap is_chosen (fate_off i h)))

  -- the tries that stand in a pass
  stand : (d i : ℕ) → d ≤ length m.tries
      → standing m (fate_of m) (1 + d) i ≡ in_set (passes m d (true_at_start m)) i
  unfolding standing lasts
  stand d i few =
      split (in_set (true_at_start m) i)
      (λ h. ⊎_elim
      (λ low. ap (lasts (1 + d)) (fate_on i h) ∙ fate_lasts (length m.tries) 1 (true_at_start m) d i low h few)
      (λ high. clash h (start_past i high)) (below_or_past i))
      (λ h. ap (lasts (1 + d)) (fate_off i h) ∙ sym (is_false (λ x. clash (passes_within d (true_at_start m) i x) h)))

  -- of sets that agree
  breaks_same : (X Y : TrySet) → ((i : ℕ) → X i ≡ Y i) → (c d : Cond) → c ≡ d → (k n : ℕ) → Breaks m X c k n
      → Breaks m Y d k n
  unfolding AllHold
  breaks_same X Y same c d e k n t = record {
    region = t.region;
    numbered = t.numbered;
    below = t.below;
    binds =
        record {
          state = t.binds.state;
          keep = t.binds.keep;
          tries = λ i b u y. t.binds.tries i b u (same i ∙ y);
          guard = t.binds.guard;
        };
    values = t.values;
    runs = t.runs;
    false_after = ap (λ (x : Cond). truth x (all m.vars) t.values) (sym e) ∙ t.false_after;
  }

  module _ (good : GoodRanges (all m.vars)) where
    -- nothing breaks a try where none is found, and nothing lower than what is found
    none_breaks : (xs : List Bool) (c : Cond) → first_break m xs c ≡ none → (j s : ℕ) → Breaks m (in_set xs) c j s → ⊥
    none_breaks xs c e j s t =
        clash (unbroken good xs c e j t.region _ t.values t.numbered t.binds t.runs) t.false_after

    none_lower : (xs : List Bool) (c : Cond) (k n : ℕ) → first_break m xs c ≡ some (k, n) → (j s : ℕ)
        → (j < k) ⊎ ((j ≡ k) × (s < n)) → Breaks m (in_set xs) c j s → ⊥
    unfolding first_break IsRegion
    none_lower xs c k n e j s o t =
        let (r, q, f, h) =
        (where_some_iff (all m.vars) (breaks_try m xs c) (regions_of (all m.methods)) k n).0 e in
        let b = of_breaks xs c t.region _ t.values t.binds t.runs t.false_after in
        ⊎_elim (λ low. clash b (h j t.region low t.numbered s t.below))
        (λ u.
        let same : t.region ≡ r = some-injective _ _ (sym t.numbered ∙ rw u.0 q) in
        clash (rw same at b) (f.2 s u.1)) o

    -- the fates of all tries
    pub fates : AreFates m (fate_of m)
    unfolding Within
    fates = record {
      chosen_ones = record {
        of_these = λ i x. (chosen_largest good).of_these i (chosen_fate i ∙ x);
        will_do = same_will_do m (in_set (chosen_tries m)) _ (λ i low. chosen_fate i) (chosen_largest good).will_do;
        largest = λ Y will i low y. sym (chosen_fate i) ∙ (chosen_largest good).largest Y will i low y;
      };
      false_ones = λ i c e. (
        λ f. split (in_set (true_at_start m) i)
            (λ h. absurd (fate_not_start (length m.tries) 1 (true_at_start m) i (sym (fate_on i h) ∙ f)))
            (λ h. start_truth i c e ∙ h),
        λ f. fate_off i (sym (start_truth i c e) ∙ f),
      );
      broken_ones = λ i c p k n e f. split (in_set (true_at_start m) i)
          (λ h. in_pass i c p k n e
          (fate_broken (length m.tries) 1 (true_at_start m) i p k n (sym (fate_on i h) ∙ f)))
          (λ h. let b : broken p k n ≡ false_at_start = sym f ∙ fate_off i h in different (cc));
    }
      where
        start_truth : (i : ℕ) (c : Cond) → IsTry m i c
            → truth c (all m.vars) (starts (all m.vars)) ≡ in_set (true_at_start m) i
        start_truth i c e =
            ap (λ (d : Cond). truth d (all m.vars) (starts (all m.vars))) (sym (try_at_lem i c e))
            ∙ sym (start_at i (try_below i c e))

        in_pass : (i : ℕ) (c : Cond) (p k n : ℕ) → IsTry m i c
            → From (length m.tries) 1 (true_at_start m) i p k n → BrokenIn m (fate_of m) c p k n
        in_pass i c p k n e t =
            let set : (d : ℕ) → List Bool = λ d. passes m d (true_at_start m) in
            record {
              breaks =
                  rw t.sum (breaks_same (in_set (set t.passed)) _
                  (λ j. sym (stand t.passed j (omega (arith, t.few)))) (try_at m i) c (try_at_lem i c e) k n
                  (broken_at good (set t.passed) (try_at m i) k n t.breaks));
              lower = λ j s o b.
                  none_lower (set t.passed) (try_at m i) k n t.breaks j s o
                  (breaks_same (standing m (fate_of m) p) _
                  (λ u. ap (λ (x : ℕ). standing m (fate_of m) x u) t.sum ∙ stand t.passed u (omega (arith, t.few))) c
                  (try_at m i) (sym (try_at_lem i c e)) j s b);
              earlier = λ q j s from to b.
                  let sum : q ≡ 1 + (q - 1) = omega arith in
                  none_breaks (set (q - 1)) (try_at m i) (t.none_before (q - 1) (omega (arith, t.sum))) j s
                  (breaks_same (standing m (fate_of m) q) _
                  (λ u. ap (λ (x : ℕ). standing m (fate_of m) x u) sum
                  ∙ stand (q - 1) u (omega (arith, t.sum, t.few))) c (try_at m i) (sym (try_at_lem i c e)) j s b);
            }
