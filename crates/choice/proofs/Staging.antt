-- Stage by stage: behind k passes each slot is as its try's fate says, or its try stands. From the tries at the start, by one
-- pass to the next stage, to the choice.
use Prim.Native.Nat.{ℕ, ◌+◌, ◌-◌, ◌^◌, ◌≤◌, ◌<◌}
use native.Mathlib.Omega.{arith}
use mathlib.Core.Path.{◌≡◌, refl, sym, ap, ◌∙◌}
use mathlib.Core.Bool.{Bool, true, false, ◌&&◌, and-false, and-true}
use mathlib.Core.Logic.{◌⊎◌, inl, inr, ⊎_elim}
use mathlib.Core.List.{List}
use lib.ListN.{length, get_or}
use lib.Seq.{ext_get_or}
use lib.Dec.{ltb}
use borrow.Author.Tests.{ltb-true, ltb-false, lt-ltb, le-ltb}
use Rattle.logic.proofs.Bools.{split, clash, is_false}
use Rattle.sets.specs.Set.{member}
use Rattle.sets.proofs.SetLaws.{same_members, member_past}
use Rattle.syntax.specs.Tree.{Monitor}
use Rattle.meaning.specs.Value.{truth}
use Rattle.meaning.specs.State.{count, state_at, starts}
use Rattle.meaning.specs.Model.{vars}
use Rattle.meaning.specs.Choice.{Fate, chosen, false_at_start, broken, is_chosen}
use Rattle.meaning.specs.Decide.Choice.{in_set, try_at, pass, passes, true_at_start, chosen_tries, chosen_bits}
use Rattle.meaning.specs.Decide.Choice.{fate_of}
use Rattle.meaning.proofs.StateLaws.{starts_state, number_below, state_at_number}
use Rattle.meaning.proofs.Choosing.{by_break, stays_in, falls_out, start_at, start_past, pass_within, passes_within}
use Rattle.meaning.proofs.Choosing.{passes_next}
use Rattle.meaning.proofs.Choosing.{passes_add, passes_long, still, fate_off, fate_in_pass, chosen_fate, chosen_members}
use Rattle.meaning.proofs.Choosing.{chosen_small}
use Rattle.choice.specs.declared.Choice.{Choice}
use Rattle.choice.specs.Slots.{breaks_by, Slot, slot_of, mark_slot, rows_slot}
use Rattle.choice.specs.Chosen.{Tried, slot_for, Chooses}
use Rattle.choice.proofs.Passing.{SetIs, try_truth, slot_off, slot_quiet, slot_broken}

-- behind k passes
pub record Stage (m : Monitor) (k : ℕ) (c : Choice) : Type 0 where
  pub standing : (u : ℕ) → u < 16 → in_set (passes m k (true_at_start m)) u ≡ true → slot_of c u ≡ slot_for chosen
  pub fallen : (u : ℕ) → u < 16 → in_set (passes m k (true_at_start m)) u ≡ false → slot_of c u ≡ slot_for (fate_of m u)

slot_stands : (f : Fate) → (slot_for f).stands ≡ is_chosen f
unfolding slot_for is_chosen
slot_stands chosen = refl
slot_stands false_at_start = refl
slot_stands (broken p k n) = refl

is_chosen_lem : (f : Fate) → is_chosen f ≡ true → f ≡ chosen
unfolding is_chosen
is_chosen_lem chosen h = refl
is_chosen_lem false_at_start h = clash h refl
is_chosen_lem (broken p k n) h = clash h refl

member_slot : (c : Choice) (u : ℕ) → member c.chosen u ≡ (slot_of c u).stands
unfolding slot_of
member_slot c u = refl

one_more : (k : ℕ) → k + 1 ≡ 1 + k
one_more k = omega arith

-- where a pass drops nothing, no later one does
last_of : (m : Monitor) (k : ℕ) → k ≤ length m.tries
    → pass m (passes m k (true_at_start m)) ≡ passes m k (true_at_start m) → passes m k (true_at_start m) ≡ chosen_tries m
unfolding chosen_tries
last_of m k few e =
    let rest = length m.tries - k in
    let sum : length m.tries ≡ k + rest = omega arith in
    sym (ap (λ (n : ℕ). passes m n (true_at_start m)) sum ∙ passes_add m k rest (true_at_start m)
    ∙ still m rest (passes m k (true_at_start m)) e)

-- as many passes as there are tries are all
pub all_passes : (m : Monitor) (k : ℕ) → k ≡ length m.tries → passes m k (true_at_start m) ≡ chosen_tries m
unfolding chosen_tries
all_passes m k e = ap (λ (n : ℕ). passes m n (true_at_start m)) e

module _ (m : Monitor) where
  chosen_stays : (k u : ℕ) → k ≤ length m.tries → in_set (chosen_tries m) u ≡ true
      → in_set (passes m k (true_at_start m)) u ≡ true
  unfolding chosen_tries
  chosen_stays k u few x =
      let rest = length m.tries - k in
      let sum : length m.tries ≡ k + rest = omega arith in
      passes_within m rest (passes m k (true_at_start m)) u
      (ap (λ (xs : List Bool). in_set xs u) (sym (ap (λ (n : ℕ). passes m n (true_at_start m)) sum
      ∙ passes_add m k rest (true_at_start m))) ∙ x)

  past_none : (k u : ℕ) → length m.tries ≤ u → in_set (passes m k (true_at_start m)) u ≡ false
  past_none k u high = is_false (λ x. clash (passes_within m k (true_at_start m) u x) (start_past m u high))

  -- the set of a stage
  pub stage_set : (k : ℕ) (c : Choice) → k ≤ length m.tries → Stage m k c
      → SetIs m c.chosen (passes m k (true_at_start m))
  unfolding slot_for
  stage_set k c few t = record {
    members = λ u low. split (in_set (passes m k (true_at_start m)) u)
        (λ on. member_slot c u ∙ ap (λ (x : Slot). x.stands) (t.standing u low on) ∙ sym on)
        (λ off. member_slot c u ∙ ap (λ (x : Slot). x.stands) (t.fallen u low off) ∙ slot_stands (fate_of m u)
        ∙ sym (chosen_fate m u)
        ∙ is_false (λ x. clash (chosen_stays k u few x) off) ∙ sym off);
    none_past = past_none k;
  }

  -- the last
  pub stage_last : (k : ℕ) (c : Choice) → passes m k (true_at_start m) ≡ chosen_tries m → c.chosen < 2 ^ 16
      → k ≤ length m.tries → Stage m k c → Chooses m c
  stage_last k c e fits few t = record {
    bits = same_members 16 c.chosen (chosen_bits m) fits (chosen_small m) (λ u. split (ltb u 16)
        (λ h.
        let low = ltb-true u 16 h in
        (stage_set k c few t).members u low ∙ ap (λ (xs : List Bool). in_set xs u) e ∙ sym (chosen_members m u low))
        (λ h.
        let high = ltb-false u 16 h in
        member_past 16 c.chosen u fits high ∙ sym (member_past 16 (chosen_bits m) u (chosen_small m) high)));
    slots = λ u low. split (in_set (passes m k (true_at_start m)) u)
        (λ on. t.standing u low on
        ∙ ap slot_for (sym (is_chosen_lem (fate_of m u)
        (sym (chosen_fate m u) ∙ ap (λ (xs : List Bool). in_set xs u) (sym e) ∙ on))))
        (t.fallen u low);
  }

  module _ {states : ℕ} {guard_of : List ℕ} {regions_of start tries : ℕ} {keep holds after tried : List ℕ}
      (held : Tried m states guard_of regions_of start tries keep holds after tried) where
    -- the first: those that hold at the start values
    start_member : (set : ℕ) → ((u : ℕ) → u < 16 → member set u ≡ member (get_or tried start 0) u && ltb u tries)
        → (u : ℕ) → u < 16 → member set u ≡ in_set (true_at_start m) u
    start_member set is u low = split (ltb u (length m.tries))
        (λ h.
        let below = ltb-true u (length m.tries) h in
        let st = starts_state held.good in
        let at : state_at (vars m) start ≡ starts (vars m) =
        ap (state_at (vars m)) held.starts ∙ state_at_number held.good st in
        let few : start < count (vars m) = omega (arith, held.starts, number_below held.good st) in
        is u low ∙ ap (λ (b : Bool). member (get_or tried start 0) u && b) (lt-ltb u tries (omega (arith, held.tries_counted)))
        ∙ and-true (member (get_or tried start 0) u) ∙ try_truth m tried held.by_tries u start below few
        ∙ ap (truth (try_at m u) (vars m)) at ∙ sym (start_at m u below))
        (λ h.
        let high = ltb-false u (length m.tries) h in
        is u low ∙ ap (λ (b : Bool). member (get_or tried start 0) u && b) (le-ltb u tries (omega (arith, held.tries_counted)))
        ∙ and-false (member (get_or tried start 0) u) ∙ sym (start_past m u high))

    pub stage_first : (set : ℕ) (c : Choice)
        → ((u : ℕ) → u < 16 → member set u ≡ member (get_or tried start 0) u && ltb u tries)
        → ((u : ℕ) → u < 16 → slot_of c u ≡ record { stands = member set u; pass = 0; region = 0; state = 0 })
        → Stage m 0 c
    unfolding passes slot_for
    stage_first set c is slots = record {
      standing = λ u low on. slots u low
          ∙ ap (λ (b : Bool). record { stands = b; pass = 0; region = 0; state = 0 }) (start_member set is u low ∙ on);
      fallen = λ u low off. slots u low
          ∙ ap (λ (b : Bool). record { stands = b; pass = 0; region = 0; state = 0 }) (start_member set is u low ∙ off)
          ∙ sym (ap slot_for (fate_off m u off));
    }

    -- one pass on
    module _ (k : ℕ) (c d : Choice) (few : k < length m.tries) (t : Stage m k c) (p : ℕ) (is_p : p ≡ k + 1)
        (slots : (u : ℕ) → u < 16
        → slot_of d u ≡ rows_slot regions_of states (breaks_by after guard_of keep holds tried c.chosen u) p (slot_of c u)) where
      on_set : SetIs m c.chosen (passes m k (true_at_start m))
      on_set = stage_set k c (omega arith) t

      below : (u : ℕ) → in_set (passes m k (true_at_start m)) u ≡ true → u < length m.tries
      below u x = split (ltb u (length m.tries)) (λ h. ltb-true u _ h)
          (λ h. clash x (past_none k u (ltb-false u _ h)))

      -- one that stood: it stands on, or it falls now
      stood : (u : ℕ) → u < 16 → in_set (passes m k (true_at_start m)) u ≡ true
          → ((in_set (pass m (passes m k (true_at_start m))) u ≡ true) × (slot_of d u ≡ slot_for chosen))
          ⊎ ((in_set (pass m (passes m k (true_at_start m))) u ≡ false) × (slot_of d u ≡ slot_for (fate_of m u)))
      unfolding slot_for
      stood u low x =
          let here = below u x in
          by_break m (passes m k (true_at_start m)) u
          (λ e. inl (
            stays_in m (passes m k (true_at_start m)) u here x e,
            slots u low ∙ slot_quiet held c.chosen (passes m k (true_at_start m)) on_set u p (slot_of c u) here e
                ∙ t.standing u low x,
          ))
          (λ r s e. inr (
            falls_out m (passes m k (true_at_start m)) u here e,
            slots u low
                ∙ slot_broken held c.chosen (passes m k (true_at_start m)) on_set u p (slot_of c u) r s here
                (ap (λ (z : Slot). z.stands) (t.standing u low x)) e
                ∙ ap (λ (q : ℕ). mark_slot q r s) (is_p ∙ one_more k)
                ∙ sym (ap slot_for (fate_in_pass m k u r s here few x e)),
          ))

      -- one that had fallen stays so
      fell : (u : ℕ) → u < 16 → in_set (passes m k (true_at_start m)) u ≡ false → slot_of d u ≡ slot_for (fate_of m u)
      fell u low x =
          slots u low
          ∙ slot_off held c.chosen (passes m k (true_at_start m)) on_set u p (slot_of c u)
          (sym (member_slot c u) ∙ on_set.members u low ∙ x)
          ∙ t.fallen u low x

      pub stage_next : Stage m (k + 1) d
      stage_next = record {
        standing = λ u low on.
            let now = ap (λ (ys : List Bool). in_set ys u) (sym (passes_next m k (true_at_start m))) ∙ on in
            split (in_set (passes m k (true_at_start m)) u)
            (λ x. ⊎_elim (λ w. w.1) (λ w. clash now w.0) (stood u low x))
            (λ x. clash (pass_within m (passes m k (true_at_start m)) u now) x);
        fallen = λ u low off.
            let now = ap (λ (ys : List Bool). in_set ys u) (sym (passes_next m k (true_at_start m))) ∙ off in
            split (in_set (passes m k (true_at_start m)) u)
            (λ x. ⊎_elim (λ w. clash w.0 now) (λ w. w.1) (stood u low x)) (fell u low);
      }

      -- where nothing is dropped, this stage was the last
      pub stage_still : d.chosen ≡ c.chosen → passes m k (true_at_start m) ≡ chosen_tries m
      unfolding in_set
      stage_still e = last_of m k (omega arith)
          (ext_get_or false (pass m (passes m k (true_at_start m))) (passes m k (true_at_start m))
          (ap length (sym (passes_next m k (true_at_start m))) ∙ passes_long m (k + 1) ∙ sym (passes_long m k))
          (λ u low.
          let few_tries : u < 16 =
          omega (arith, ap length (passes_next m k (true_at_start m)), passes_long m (k + 1), held.tries_counted, held.few_tries) in
          ap (λ (ys : List Bool). in_set ys u) (sym (passes_next m k (true_at_start m)))
          ∙ sym ((stage_set (k + 1) d (omega arith) stage_next).members u few_tries)
          ∙ ap (λ (z : ℕ). member z u) e ∙ on_set.members u few_tries))
