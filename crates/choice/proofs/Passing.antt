-- A pass over the slices is a pass of the choice: the tests by the slices are those of the file, and a slot is marked with
-- what breaks its try first.
use Prim.Native.Nat.{ℕ, ◌+◌, ◌*◌, ◌≤◌, ◌<◌}
use native.Mathlib.Omega.{arith}
use mathlib.Core.Path.{◌≡◌, refl, sym, ap, ◌∙◌}
use mathlib.Core.Bool.{Bool, true, false, not, ◌&&◌}
use mathlib.Core.List.{List}
use mathlib.Core.Option.{Option, none, some, some-injective}
use lib.ListN.{length, get_or}
use lib.Dec.{ltb}
use lib.IntN.{ℤ}
use borrow.Author.Tests.{eqb-true, eq-eqb, ltb-true, ltb-false, lt-ltb}
use Rattle.logic.specs.Tests.{any}
use Rattle.logic.proofs.Any.{any_intro, any_false, any_same}
use Rattle.logic.proofs.Bools.{both, and, split, clash, tests_equal, is_false, not_true}
use Rattle.logic.proofs.Lists.{get_d_below}
use Rattle.sets.specs.Set.{member}
use Rattle.syntax.specs.Tree.{Cond, Region, Monitor}
use Rattle.meaning.specs.Value.{truth}
use Rattle.meaning.specs.State.{count, state_at, number_of}
use Rattle.meaning.specs.Runs.{State, IsRegion}
use Rattle.meaning.specs.Model.{vars, regions, region, no_region, no_guard}
use Rattle.meaning.specs.Decide.Bodies.{outcome}
use Rattle.meaning.specs.Decide.Choice.{ends_false, in_set, try_at, all_hold, binds, breaks_try, first_break, chosen_tries}
use Rattle.meaning.specs.Decide.Choice.{chosen_bits}
use Rattle.meaning.proofs.ModelLaws.{region_numbered, element_below}
use Rattle.meaning.proofs.StateLaws.{number_below, state_at_number}
use Rattle.meaning.proofs.Searching.{where_none_iff, where_some_iff}
use Rattle.meaning.proofs.Choosing.{chosen_members, chosen_below}
use Rattle.states.specs.Rows.{TruthSets, TruthRow, Outcomes, outcome_number}
use Rattle.states.proofs.Held.{bit_true, bit_one, outcome_state}
use Rattle.states.proofs.Regions.{looked}
use Rattle.choice.specs.Slots.{lacks, binds_by, breaks_by, Slot, mark_slot, rows_slot}
use Rattle.choice.specs.Chosen.{Tried}
use Rattle.choice.proofs.Binding.{binding, bound}
use Rattle.choice.proofs.Rows.{rows_off, rows_quiet, rows_first}

-- a set of tries as a number and as a list
pub record SetIs (m : Monitor) (set : ℕ) (xs : List Bool) : Type 0 where
  pub members : (u : ℕ) → u < 16 → member set u ≡ in_set xs u
  pub none_past : (u : ℕ) → length m.tries ≤ u → in_set xs u ≡ false

-- tests over more numbers, of which the further ones fail
any_longer : (n k : ℕ) (f g : ℕ → Bool) → n ≤ k → ((u : ℕ) → u < n → f u ≡ g u)
    → ((u : ℕ) → n ≤ u → u < k → f u ≡ false) → any k f ≡ any n g
any_longer n k f g low same rest =
    split (any n g)
    (λ h. any_of_any h ∙ sym h)
    (λ h. any_false k f (λ u below. split (ltb u n)
    (λ t. same u (ltb-true u n t) ∙ is_false (λ w. clash (any_intro n g u (ltb-true u n t) w) h))
    (λ t. rest u (ltb-false u n t) below)) ∙ sym h)
  where
    any_of_any : any n g ≡ true → any k f ≡ true
    any_of_any h = split (any k f) (λ t. t) (λ t. clash (sym (any_same n g g (λ u b. refl)) ∙ h) (any_false n g (λ u b.
        sym (same u b) ∙ is_false (λ w. clash (any_intro k f u (omega arith) w) t))))

module _ (m : Monitor) (tried : List ℕ) (by_tries : TruthSets (vars m) m.tries tried) where
  -- the truth of a try at a state
  pub try_truth : (u s : ℕ) → u < length m.tries → s < count (vars m)
      → member (get_or tried s 0) u ≡ truth (try_at m u) (vars m) (state_at (vars m) s)
  unfolding try_at TruthSets
  try_truth u s low few =
      by_tries u s low few
      ∙ ap (λ (c : Cond). truth c (vars m) (state_at (vars m) s)) (get_d_below m.tries u no_guard _ low)

  -- a state's tries lack nothing of a set where all of it holds
  pub all_there : length m.tries ≤ 16 → (set : ℕ) (xs : List Bool) → SetIs m set xs → (s : ℕ) → s < count (vars m)
      → not (lacks (get_or tried s 0) set) ≡ all_hold m xs (state_at (vars m) s)
  unfolding lacks all_hold
  all_there few_tries set xs is s few =
      ap not (any_longer (length m.tries) 16 (λ u. member set u && not (member (get_or tried s 0) u))
      (λ u. in_set xs u && not (truth (try_at m u) (vars m) (state_at (vars m) s))) few_tries
      (λ u low. rw (is.members u (omega arith), try_truth u s low few))
      (λ u high low. rw (is.members u low, is.none_past u high)))

-- the reported bits and the chosen tries
pub chosen_set : (m : Monitor) → SetIs m (chosen_bits m) (chosen_tries m)
chosen_set m = record {
  members = chosen_members m;
  none_past = λ u high. is_false (λ x. let low = chosen_below m u x in omega arith);
}

module _ {m : Monitor} {states : ℕ} {guard_of : List ℕ} {regions_of start tries : ℕ} {keep holds after tried : List ℕ}
    (held : Tried m states guard_of regions_of start tries keep holds after tried) where
  few_tries : length m.tries ≤ 16
  few_tries = omega (arith, held.tries_counted, held.few_tries)

  module _ (set : ℕ) (xs : List Bool) (is : SetIs m set xs) where
    -- an outcome by its number
    ends_is : (u : ℕ) → u < length m.tries → (o : Option (List ℤ)) → ((bs : List ℤ) → o ≡ some bs → State (vars m) bs)
        → ltb (outcome_number (vars m) o) 4096 && not (member (get_or tried (outcome_number (vars m) o) 0) u)
        ≡ ends_false (vars m) (try_at m u) o
    unfolding outcome_number ends_false
    ends_is u low none ends = refl
    ends_is u low (some bs) ends =
        let st = ends bs refl in
        let few = number_below held.good st in
        let small : number_of (vars m) bs < 4096 = omega (arith, held.few_states) in
        rw (
          lt-ltb (number_of (vars m) bs) 4096 small,
          try_truth m tried held.by_tries u (number_of (vars m) bs) low few
              ∙ ap (truth (try_at m u) (vars m)) (state_at_number held.good st),
        )

    -- the tests by the slices are those of the file
    breaks_is : (u r s : ℕ) → u < length m.tries → r < length (regions m) → s < count (vars m)
        → breaks_by after guard_of keep holds tried set u r s
        ≡ breaks_try m xs (try_at m u) (region m r) (state_at (vars m) s)
    unfolding breaks_by breaks_try binds Outcomes TruthRow
    breaks_is u r s low below few =
        let as' = state_at (vars m) s in
        let q = region m r in
        let to = get_or after (r * 4096 + s) 0 in
        let guard = get_or guard_of r 0 in
        let o = outcome q (vars m) as' in
        let l = looked m (truth m.keep (vars m)) guard_of keep holds held.by_number held.by_keep held.by_holds r
        below in
        let moved = held.outcomes r s below few in
        let ends = ends_is u low o (outcome_state held.good q s few) in
        tests_equal _ _
        (λ h.
        let (b, f) = both (binds_by keep holds tried guard set s to) (not (member (get_or tried to 0) u)) h in
        let (h_set, h_keep, h_to, h_guard) = binding keep holds tried guard set s to b in
        let k = bit_one (truth m.keep (vars m) as') (sym (held.by_keep s few) ∙ eqb-true (get_or keep s 0) 1 h_keep) in
        let g = sym (l.by_guard s few) ∙ h_guard in
        and (and (and k (sym (all_there m tried held.by_tries few_tries set xs is s few) ∙ h_set)) g)
        (sym ends ∙ ap (λ (n : ℕ). ltb n 4096 && not (member (get_or tried n 0) u)) (sym moved) ∙ and h_to f))
        (λ h.
        let (b, f) = both (binds m xs q as') (ends_false (vars m) (try_at m u) o) h in
        let (x, g) = both (truth m.keep (vars m) as' && all_hold m xs as') (truth q.guard (vars m) as') b in
        let (k, a) = both (truth m.keep (vars m) as') (all_hold m xs as') x in
        let (h_to, h_f) = both (ltb to 4096) (not (member (get_or tried to 0) u))
        (ap (λ (n : ℕ). ltb n 4096 && not (member (get_or tried n 0) u)) moved ∙ ends ∙ f) in
        and (bound keep holds tried guard set s to (not_true (all_there m tried held.by_tries few_tries set xs is s few ∙ a))
        (eq-eqb (get_or keep s 0) 1 (held.by_keep s few ∙ bit_true k)) h_to ∙ l.by_guard s few ∙ g) h_f)

    -- a pass over the slices, of a try of the file

    -- one that does not stand stays
    pub slot_off : (u p : ℕ) (x : Slot) → x.stands ≡ false
        → rows_slot regions_of states (breaks_by after guard_of keep holds tried set u) p x ≡ x
    slot_off u p x off = rows_off p x regions_of states (breaks_by after guard_of keep holds tried set u) off

    -- one that nothing breaks stays
    pub slot_quiet : (u p : ℕ) (x : Slot) → u < length m.tries → first_break m xs (try_at m u) ≡ none
        → rows_slot regions_of states (breaks_by after guard_of keep holds tried set u) p x ≡ x
    unfolding first_break regions IsRegion
    slot_quiet u p x low e =
        rows_quiet p x regions_of states (breaks_by after guard_of keep holds tried set u)
        (λ r s below few.
        let reg : r < length (regions m) = omega (arith, held.regions_counted) in
        let st : s < count (vars m) = omega (arith, held.states_counted) in
        breaks_is u r s low reg st
        ∙ (where_none_iff (vars m) (breaks_try m xs (try_at m u)) (regions m)).0 e r (region m r) (region_numbered m r reg) s st)

    -- one that something breaks is marked with the first
    pub slot_broken : (u p : ℕ) (x : Slot) (k n : ℕ) → u < length m.tries → x.stands ≡ true
        → first_break m xs (try_at m u) ≡ some (k, n)
        → rows_slot regions_of states (breaks_by after guard_of keep holds tried set u) p x ≡ mark_slot p k n
    unfolding first_break regions IsRegion
    slot_broken u p x k n low on e =
        let (q, numbered, first, lower) =
        (where_some_iff (vars m) (breaks_try m xs (try_at m u)) (regions m) k n).0 e in
        let reg : k < length (regions m) = (element_below (regions m) k q no_region numbered).0 in
        let same : q ≡ region m k =
        some-injective _ _ (sym numbered ∙ region_numbered m k reg) in
        rows_first p x regions_of states (breaks_by after guard_of keep holds tried set u) k n on
        (omega (arith, held.regions_counted)) (omega (arith, held.states_counted, first.0))
        (breaks_is u k n low reg first.0
        ∙ ap (λ (z : Region). breaks_try m xs (try_at m u) z (state_at (vars m) n)) (sym same) ∙ first.1)
        (λ t less.
        breaks_is u k t low reg (omega (arith, first.0))
        ∙ ap (λ (z : Region). breaks_try m xs (try_at m u) z (state_at (vars m) t)) (sym same) ∙ first.2 t less)
        (λ r t less few.
        let reg' : r < length (regions m) = omega arith in
        let st : t < count (vars m) = omega (arith, held.states_counted) in
        breaks_is u r t low reg' st ∙ lower r (region m r) less (region_numbered m r reg') t st)
