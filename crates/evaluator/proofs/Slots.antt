-- A variable's value and an assignment to it go by its slot.
use Prim.Native.Nat.{ℕ, zero, suc, ◌+◌, ◌-◌, ◌%◌, ◌≤◌, ◌<◌}
use native.Mathlib.Omega.{arith}
use native.Mathlib.Decide.{dec_lt}
use mathlib.Core.Path.{◌≡◌, refl, sym, ap, ◌∙◌}
use mathlib.Core.Bool.{Bool, true, false, not, ◌&&◌, ◌||◌, and-false, cond}
use mathlib.Core.List.{List, [], ◌∷◌}
use mathlib.Core.Option.{Option, none, some}
use lib.ListN.{length, get_or, set, get_elem?, length-set, get_or-eq_default}
use lib.Seq.{get_or-set_same, get_or-set_other, set-get_or}
use lib.Dec.{ltb, eqb}
use lib.IntN.{ℤ, pos, ◌-ℤ◌}
use borrow.Author.Tests.{le-ltb, lt-ltb, ltb-true, ltb-false, eqb-true, eqb-false}
use Rattle.syntax.specs.Bytes.{same_bytes}
use Rattle.syntax.specs.Tree.{Var}
use Rattle.meaning.specs.Value.{int_of, value_of, in_range}
use Rattle.meaning.specs.Decide.Bodies.{assigned}
use Rattle.evaluator.specs.Coding.{slot_of, RunAs, lane}
use Rattle.meaning.specs.Held.{Offset, Biased, Ranges}
use Rattle.evaluator.specs.Promises.{operand, worth, Stored}
use Rattle.evaluator.proofs.Numbers.{less_parts, same_difference}

found : (b : Bool) (a v : ℤ) (as' : List ℤ) (k : ℕ) → v ≡ get_or as' k (pos 0)
    → (elim b [ true ↦ a | false ↦ v ]) ≡ get_or (a ∷ as') (elim b [ true ↦ 0 | false ↦ suc k ]) (pos 0)
found true a v as' k h = refl
found false a v as' k h = h

pub slot_value : (vs : List Var) (as' : List ℤ) (x : List ℕ) → length as' ≡ length vs
    → value_of vs as' x ≡ get_or as' (slot_of vs x) (pos 0)
unfolding value_of slot_of
slot_value [] [] x e = refl
slot_value [] (a ∷ as') x e = absurd (omega arith)
slot_value (v ∷ vs) [] x e = absurd (omega arith)
slot_value (v ∷ vs) (a ∷ as') x e =
    found (same_bytes v.title x) a (value_of vs as' x) as' (slot_of vs x) (slot_value vs as' x (omega arith))

-- an assignment by slot
assign_at : List Var → List ℤ → ℕ → ℤ → Option (List ℤ)
assign_at [] as' k b = none
assign_at (v ∷ vs) [] k b = none
assign_at (v ∷ vs) (a ∷ as') zero b = elim (in_range v b) [ true ↦ some (b ∷ as') | false ↦ none ]
assign_at (v ∷ vs) (a ∷ as') (suc k) b = elim (assign_at vs as' k b) [ none ↦ none | some bs ↦ some (a ∷ bs) ]

chosen : (t : Bool) (v : Var) (vs : List Var) (a : ℤ) (as' : List ℤ) (b : ℤ) (k : ℕ) (o : Option (List ℤ))
    → o ≡ assign_at vs as' k b
    → (elim t [
      | true ↦ elim (in_range v b) [ true ↦ some (b ∷ as') | false ↦ none ]
      | false ↦ elim o [ none ↦ none | some bs ↦ some (a ∷ bs) ]
    ])
    ≡ assign_at (v ∷ vs) (a ∷ as') (elim t [ true ↦ 0 | false ↦ suc k ]) b
unfolding assign_at
chosen true v vs a as' b k o h = refl
chosen false v vs a as' b k o h = rw h

assigned_slot : (vs : List Var) (as' : List ℤ) (x : List ℕ) (b : ℤ) → assigned vs as' x b
    ≡ assign_at vs as' (slot_of vs x) b
unfolding assigned slot_of assign_at
assigned_slot [] as' x b = refl
assigned_slot (v ∷ vs) [] x b = refl
assigned_slot (v ∷ vs) (a ∷ as') x b =
    chosen (same_bytes v.title x) v vs a as' b (slot_of vs x) (assigned vs as' x b) (assigned_slot vs as' x b)

kept_none : (a : ℤ) (o : Option (List ℤ)) → o ≡ none
    → ◌≡◌ {A = Option (List ℤ)} (elim o [ none ↦ none | some bs ↦ some (a ∷ bs) ]) none
kept_none a o h = rw h

kept_some : (a : ℤ) (o : Option (List ℤ)) (cs : List ℤ) → o ≡ some cs
    → ◌≡◌ {A = Option (List ℤ)} (elim o [ none ↦ none | some bs ↦ some (a ∷ bs) ]) (some (a ∷ cs))
kept_some a o cs h = rw h

tested : (t : Bool) (o : Option (List ℤ)) (u : Bool) → t ≡ u
    → ◌≡◌ {A = Option (List ℤ)} (elim t [ true ↦ o | false ↦ none ]) (elim u [ true ↦ o | false ↦ none ])
tested t o u h = rw h

assign_past : (vs : List Var) (as' : List ℤ) (k : ℕ) (b : ℤ) → length vs ≤ k → assign_at vs as' k b ≡ none
unfolding assign_at
assign_past [] as' k b h = refl
assign_past (v ∷ vs) [] k b h = refl
assign_past (v ∷ vs) (a ∷ as') zero b h = absurd (omega arith)
assign_past (v ∷ vs) (a ∷ as') (suc k) b h = kept_none a (assign_at vs as' k b) (assign_past vs as' k b (omega arith))

some_inj : {v w : Var} → some v ≡ some w → v ≡ w
some_inj e = cc

assign_out : (vs : List Var) (as' : List ℤ) (k : ℕ) (b : ℤ) (v : Var) → get_elem? vs k ≡ some v → in_range v b ≡ false
    → assign_at vs as' k b ≡ none
unfolding assign_at
assign_out [] as' k b v e h = refl
assign_out (w ∷ vs) [] k b v e h = refl
assign_out (w ∷ vs) (a ∷ as') zero b v e h =
    tested (in_range w b) (some (b ∷ as')) false (ap (λ (u : Var). in_range u b) (some_inj e) ∙ h)
assign_out (w ∷ vs) (a ∷ as') (suc k) b v e h = kept_none a (assign_at vs as' k b) (assign_out vs as' k b v e h)

assign_in : (vs : List Var) (as' : List ℤ) (k : ℕ) (b : ℤ) (v : Var) → length as' ≡ length vs → get_elem? vs k ≡ some v
    → in_range v b ≡ true → assign_at vs as' k b ≡ some (set as' k b)
unfolding assign_at
assign_in [] as' k b v l e h = let z : ◌≡◌ {A = ℕ} 0 1 = cc in absurd (omega arith)
assign_in (w ∷ vs) [] k b v l e h = absurd (omega arith)
assign_in (w ∷ vs) (a ∷ as') zero b v l e h =
    tested (in_range w b) (some (b ∷ as')) true (ap (λ (u : Var). in_range u b) (some_inj e) ∙ h)
assign_in (w ∷ vs) (a ∷ as') (suc k) b v l e h =
    kept_some a (assign_at vs as' k b) (set as' k b) (assign_in vs as' k b v (omega arith) e h)

var_at : (vs : List Var) (k : ℕ) → k < length vs → (v : Var) × (get_elem? vs k ≡ some v)
var_at [] k h = absurd (omega arith)
var_at (v ∷ vs) zero h = (v, refl)
var_at (v ∷ vs) (suc k) h = var_at vs k (omega arith)

-- a range held as numbers, for a value p less m
range_parts : (v : Var) (lo hi p m : ℕ) → Offset (int_of v.low) lo → Offset (int_of v.high) hi
    → in_range v (pos p -ℤ pos m) ≡ (not (ltb (p + 128) (lo + m)) && not (ltb (hi + m) (p + 128)))
unfolding in_range Offset
range_parts v lo hi p m l h = rw (l, h, less_parts p m lo 128, less_parts hi 128 p m)

module _ {vs : List Var} {as' : List ℤ} {vars : List ℕ} (biased : Biased vs as' vars) where
  -- what a slot holds is the value of its variable, and 0 where it has none
  pub slot_held : (k : ℕ) → get_or as' k (pos 0) ≡ pos (operand vars k 128) -ℤ pos 128
  unfolding Offset operand
  slot_held k = elim (dec_lt k (length vs)) [
    | yes i ↦ biased.held k i ∙ ap (λ b. pos (cond b (get_or vars k 0) 128) -ℤ pos 128)
        (sym (lt-ltb k 6 (omega (arith, biased.few))))
    | no o ↦ get_or-eq_default as' (pos 0) (omega (arith, biased.each_value))
        ∙ ap (λ (n : ℕ). pos n -ℤ pos 128) (sym (past (ltb k 6) refl (omega arith)))
  ]
    where
      past : (b : Bool) → ltb k 6 ≡ b → length vs ≤ k → cond b (get_or vars k 0) 128 ≡ 128
      past true e u = biased.unused k (ltb-true k 6 e) u
      past false e u = refl

  -- a value in range is stored
  module _ {lows highs : List ℕ} (ranges : Ranges vs lows highs) (k p m : ℕ) (x : List ℕ) (slot : k ≡ slot_of vs x) where
    by_slot : assigned vs as' x (pos p -ℤ pos m) ≡ assign_at vs as' k (pos p -ℤ pos m)
    by_slot = assigned_slot vs as' x (pos p -ℤ pos m) ∙ ap (λ (n : ℕ). assign_at vs as' n (pos p -ℤ pos m)) (sym slot)

    no_slot : (ok : Bool) (held : List ℕ) → ok ≡ false → length vs ≤ k
        → RunAs vs ok held (assigned vs as' x (pos p -ℤ pos m))
    unfolding RunAs
    no_slot ok held f h = rw (by_slot ∙ assign_past vs as' k (pos p -ℤ pos m) h) f

    out : (v : Var) → get_elem? vs k ≡ some v → (t : Bool) → in_range v (pos p -ℤ pos m) ≡ t → t ≡ false
        → (ok : Bool) (held : List ℕ) → ok ≡ false
        → RunAs vs ok held (assigned vs as' x (pos p -ℤ pos m))
    unfolding RunAs
    out v e t h f ok held g = rw (by_slot ∙ assign_out vs as' k (pos p -ℤ pos m) v e (h ∙ f)) g

    in_parts : (v : Var) → get_elem? vs k ≡ some v
        → in_range v (pos p -ℤ pos m)
        ≡ (not (ltb (p + 128) (get_or lows k 0 + m)) && not (ltb (get_or highs k 0 + m) (p + 128)))
    in_parts v e = range_parts v (get_or lows k 0) (get_or highs k 0) p m (ranges.lows_held k v e)
        (ranges.highs_held k v e)

    too_low : p + 128 < get_or lows k 0 + m → (ok : Bool) (held : List ℕ) → ok ≡ false
        → RunAs vs ok held (assigned vs as' x (pos p -ℤ pos m))
    too_low h ok held f = elim (dec_lt k (length vs)) [
      | yes i ↦ let t = var_at vs k i in
          out t.0 t.1 _ (in_parts t.0 t.1) (rw (lt-ltb (p + 128) (get_or lows k 0 + m) h)) ok held f
      | no o ↦ no_slot ok held f (omega arith)
    ]

    too_high : get_or highs k 0 + m < p + 128 → (ok : Bool) (held : List ℕ) → ok ≡ false
        → RunAs vs ok held (assigned vs as' x (pos p -ℤ pos m))
    too_high h ok held f = elim (dec_lt k (length vs)) [
      | yes i ↦ let t = var_at vs k i in
          out t.0 t.1 _ (in_parts t.0 t.1)
          (rw (lt-ltb (get_or highs k 0 + m) (p + 128) h) (and-false (not (ltb (p + 128) (get_or lows k 0 + m))))) ok held f
      | no o ↦ no_slot ok held f (omega arith)
    ]

    -- the values held with the new one in its slot
    module _ (i : k < length vs) (high : p + 128 ≤ get_or highs k 0 + m) (low : m ≤ p + 128) where
      new_held : get_or (set as' k (pos p -ℤ pos m)) k (pos 0) ≡ pos (get_or (set vars k (p + 128 - m)) k 0) -ℤ pos 128
      new_held =
          get_or-set_same as' k (pos p -ℤ pos m) (pos 0) (omega (arith, biased.each_value))
          ∙ same_difference p m (p + 128 - m) 128 (omega arith)
          ∙ ap (λ (n : ℕ). pos n -ℤ pos 128)
          (sym (get_or-set_same vars k (p + 128 - m) 0 (omega (arith, biased.slots, biased.few))))

      held_after : (j : ℕ) → j < length vs → (t : Bool) → eqb j k ≡ t
          → Offset (get_or (set as' k (pos p -ℤ pos m)) j (pos 0)) (get_or (set vars k (p + 128 - m)) j 0)
      unfolding Offset
      held_after j h true e = rw (eqb-true j k e) new_held
      held_after j h false e =
          rw (
            get_or-set_other as' k j (pos p -ℤ pos m) (pos 0) (eqb-false j k e),
            get_or-set_other vars k j (p + 128 - m) 0 (eqb-false j k e),
          )
          (biased.held j h)

      small_after : (j : ℕ) (t : Bool) → eqb j k ≡ t → get_or (set vars k (p + 128 - m)) j 0 ≤ 255
      small_after j true e =
          rw (eqb-true j k e, get_or-set_same vars k (p + 128 - m) 0 (omega (arith, biased.slots, biased.few)))
          (omega (arith, ranges.highs_small k))
      small_after j false e = rw (get_or-set_other vars k j (p + 128 - m) 0 (eqb-false j k e)) (biased.small j)

      stored : Biased vs (set as' k (pos p -ℤ pos m)) (set vars k (p + 128 - m))
      stored = record {
        few = biased.few;
        each_value = length-set as' k (pos p -ℤ pos m) ∙ biased.each_value;
        slots = length-set vars k (p + 128 - m) ∙ biased.slots;
        held = λ j h. held_after j h (eqb j k) refl;
        small = λ j. small_after j (eqb j k) refl;
        unused = λ j h u. get_or-set_other vars k j (p + 128 - m) 0 (λ e. omega arith) ∙ biased.unused j h u;
      }

    in_range_lem : k < 6 → get_or lows k 0 + m ≤ p + 128 → p + 128 ≤ get_or highs k 0 + m
        → RunAs vs true (set vars k (p + 128 - m)) (assigned vs as' x (pos p -ℤ pos m))
    unfolding RunAs
    in_range_lem s low high = elim (dec_lt k (length vs)) [
      | yes i ↦ let t = var_at vs k i in
          rw (by_slot
          ∙ assign_in vs as' k (pos p -ℤ pos m) t.0 biased.each_value t.1
          (in_parts t.0 t.1 ∙ rw (
            le-ltb (p + 128) (get_or lows k 0 + m) low,
            le-ltb (get_or highs k 0 + m) (p + 128) high,
          )))
          (refl, stored i high (omega arith))
      | no o ↦ absurd (omega (arith, ranges.unused_range k s (omega arith)))
    ]

-- An assignment of sums, in lanes that are on or off

module _ {lows highs : List ℕ} {slot : ℕ} where
  stored_in : slot < 6 → {vs : List Var} {as' : List ℤ} {vars : List ℕ} (p : ℕ) → Biased vs as' vars
      → Ranges vs lows highs
      → (x : List ℕ) → slot ≡ slot_of vs x → (on low high : Bool)
      → ltb p (get_or lows slot 0 + 1073741696) ≡ low → ltb (get_or highs slot 0 + 1073741696) p ≡ high
      → RunAs vs (not (on && (low || high))) (set vars slot (cond on (p + 128) (get_or vars slot 0) % 65536))
      (cond on (assigned vs as' x (worth p)) (some as'))
  unfolding RunAs
  stored_in s {vars = vars} p biased ranges x at false low high l h =
      let e : get_or vars slot 0 % 65536 ≡ get_or vars slot 0 = omega (arith, biased.small slot) in
      (refl, rw (e, set-get_or vars slot 0) biased)
  stored_in s p biased ranges x at true true high l h =
      too_low biased ranges slot p 1073741824 x at (omega (arith, ltb-true p (get_or lows slot 0 + 1073741696) l)) false _
      refl
  stored_in s p biased ranges x at true false true l h =
      too_high biased ranges slot p 1073741824 x at (omega (arith, ltb-true (get_or highs slot 0 + 1073741696) p h)) false
      _ refl
  stored_in s p biased ranges x at true false false l h =
      let low = ltb-false p (get_or lows slot 0 + 1073741696) l in
      let high = ltb-false (get_or highs slot 0 + 1073741696) p h in
      let e : (p + 128) % 65536 ≡ p + 128 - 1073741824 = omega (arith, low, high, ranges.highs_small slot) in
      rw e (in_range_lem biased ranges slot p 1073741824 x at s (omega arith) (omega arith))

  module _ {vars sums : List ℕ} {on ok : List Bool} where
    pub in_slot : {held : List ℕ} → slot < 6 → length held ≡ 96
        → ((j : ℕ) → j < 16 → get_or ok j false ≡ not (get_or on j false
        && (ltb (get_or sums j 0) (get_or lows slot 0 + 1073741696) || ltb (get_or highs slot 0 + 1073741696)
        (get_or sums j 0))))
        → ((j : ℕ) → j < 16
        → lane held j
        ≡ set (lane vars j) slot (cond (get_or on j false) (get_or sums j 0 + 128) (get_or (lane vars j) slot 0) % 65536))
        → Stored lows highs vars on slot sums ok held
    in_slot s long right new = record {
      long = long;
      stores =
          λ j l vs as' x biased ranges at. rw (right j l, new j l)
          (stored_in s (get_or sums j 0) biased ranges x at (get_or on j false) _ _ refl refl);
    }

    pub past_slots : 6 ≤ slot → length vars ≡ 96 → ((j : ℕ) → j < 16 → get_or ok j false ≡ not (get_or on j false))
        → Stored lows highs vars on slot sums ok vars
    unfolding RunAs
    past_slots s long right = record {
      long = long;
      stores =
          λ j l vs as' x biased ranges at. rw (right j l) (go (get_or sums j 0) biased ranges x at (get_or on j false));
    }
      where
        go : {vs : List Var} {as' : List ℤ} {held : List ℕ} (p : ℕ) → Biased vs as' held → Ranges vs lows highs
            → (x : List ℕ) → slot ≡ slot_of vs x
            → (b : Bool) → RunAs vs (not b) held (cond b (assigned vs as' x (worth p)) (some as'))
        go {held = held} p biased ranges x at true = no_slot biased ranges slot p 1073741824 x at false held refl
            (omega (arith, biased.few))
        go p biased ranges x at false = (refl, biased)
