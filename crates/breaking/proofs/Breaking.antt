-- Refusal 9 by the slices: what looking the outcomes up says of it, and what they are where it does not arise.
use Prim.Native.Nat.{ℕ, zero, suc, ◌+◌, ◌*◌, ◌≤◌, ◌<◌}
use native.Mathlib.Omega.{arith}
use mathlib.Core.Path.{◌≡◌, refl, sym, ap, subst, ◌∙◌}
use mathlib.Core.Bool.{Bool, true, false, not, ◌&&◌, false≢true}
use mathlib.Core.List.{List, [], ◌∷◌}
use Rattle.std.specs.Prelude as prelude
use Rattle.std.specs.Prelude.{Some, None}
use mathlib.Core.Option.{Option, none, some, some-injective}
use lib.ListN.{length, get_or, get_elem?}
use lib.Dec.{eqb}
use lib.IntN.{ℤ}
use borrow.Author.Tests.{ne_eqb}
use Rattle.syntax.specs.Tree.{Var, Region, Monitor}
use Rattle.syntax.proofs.Grammar.{one_cond}
use Rattle.logic.specs.Tests.{bit}
use Rattle.logic.proofs.Bools.{both, and, split, clash, true_not, tests_equal, no_some}
use Rattle.machine.specs.Decide.Table.{runs}
use Rattle.meaning.specs.Value.{truth}
use Rattle.meaning.specs.Decide.Bodies.{outcome}
use Rattle.meaning.specs.State.{count, state_at, number_of}
use Rattle.meaning.specs.Kept.{kept_at}
use Rattle.meaning.specs.Decide.Check.{kept_after, breaks, broken}
use Rattle.meaning.specs.Accepted.{GoodRanges}
use Rattle.meaning.specs.Runs.{State, IsRegion}
use Rattle.meaning.specs.Model.{number_after, vars, regions, region, guard_of, kept, holds, after, model}
use Rattle.meaning.proofs.ModelLaws.{region_numbered, holds_guard}
use Rattle.meaning.proofs.Searching.{where_none_iff, where_some_iff}
use Rattle.meaning.proofs.StateLaws.{number_below, state_at_number}
use Rattle.states.specs.Rows.{TruthRow, GuardNumbers, KeptAll, HoldsAll, AfterAll}
use Rattle.states.specs.Rows.{outcome_number, Outcomes}
use Rattle.states.specs.Promises.{Looked, runs_by}
use Rattle.breaking.specs.Broken.{BrokenAs, Lowest, LowestAt, fails_by, breaks_by}
use Rattle.states.proofs.Holding.{row_of_kept, kept_truth}
use Rattle.states.proofs.Held.{outcome_state}
use Rattle.states.proofs.Regions.{looked, runs_true, runs_parts}

pub bit_is : (b : Bool) → not (eqb (bit b) 1) ≡ not b
unfolding bit
bit_is true = refl
bit_is false = refl

-- the lowest number that passes a test, and where none does
pub found : {p : ℕ → Bool} {n s : ℕ} {o : prelude.Option ℕ} → o ≡ Some s → Lowest p n o → LowestAt p n s
unfolding Lowest
found e l = subst (Lowest _ _) e l

pub nowhere : (p : ℕ → Bool) (n : ℕ) {o : prelude.Option ℕ} → o ≡ None → Lowest p n o
    → (k : ℕ) → k < n → p k ≡ false
unfolding Lowest
nowhere p n e l = subst (Lowest p n) e l

-- One region

module _ {vs : List Var} {keep : List ℤ → Bool} {q : Region} {guard : ℕ} {kept' holds' : List ℕ}
    (l : Looked vs keep q guard kept' holds') where
  module _ (good : GoodRanges vs) (few : count vs ≤ 4096) where
    fails_is : (o : Option (List ℤ)) → ((bs : List ℤ) → o ≡ some bs → State vs bs)
        → fails_by kept' (outcome_number vs o) ≡ not (kept_after keep o)
    unfolding fails_by outcome_number kept_after TruthRow
    fails_is none ends = refl
    fails_is (some bs) ends =
        let st = ends bs refl in
        let low = number_below good st in
        let other : (number_of vs bs ≡ 4096 → ⊥) = λ e. omega arith in
        let held : get_or kept' (number_of vs bs) 0 ≡ bit (keep bs) =
        l.by_kept (number_of vs bs) low ∙ ap (λ as'. bit (keep as')) (state_at_number good st) in
        rw (ne_eqb (number_of vs bs) 4096 other, held) (bit_is (keep bs))

    -- a region breaks at a state exactly where the slices say so
    pub breaks_is : (s : ℕ) → s < count vs → (to : ℕ) → to ≡ outcome_number vs (outcome q vs (state_at vs s))
        → breaks vs keep q (state_at vs s) ≡ breaks_by kept' holds' guard s to
    unfolding breaks breaks_by
    breaks_is s low to t =
        let o = outcome q vs (state_at vs s) in
        let fails = fails_is o (outcome_state good q s low) in
        tests_equal (breaks vs keep q (state_at vs s)) (breaks_by kept' holds' guard s to)
        (λ h. let u = both (keep (state_at vs s) && truth q.guard vs (state_at vs s)) (not (kept_after keep o)) h in
        let (k, g) = both (keep (state_at vs s)) (truth q.guard vs (state_at vs s)) u.0 in
        and (ap (fails_by kept') t ∙ fails ∙ u.1) (runs_true l s low k g))
        (λ h. let u = both (fails_by kept' to) (runs_by kept' holds' guard s) h in
        let (k, g) = runs_parts l s low u.1 in
        and (and k g) (sym fails ∙ sym (ap (fails_by kept') t) ∙ u.0))

-- All regions

numbered_below : {A : Type 0} (xs : List A) (i : ℕ) (a : A) → get_elem? xs i ≡ some a → i < length xs
numbered_below [] i a e = no_some e
numbered_below (x ∷ xs) zero a e = omega arith
numbered_below (x ∷ xs) (suc i) a e = let h = numbered_below xs i a e in omega arith

module _ (m : Monitor) (rows : List ℕ) (outcomes : Outcomes m rows) where
  module _ (numbers kept' holds' : List ℕ) (good : GoodRanges (vars m)) (few : count (vars m) ≤ 4096)
      (by_kept : KeptAll m kept') (by_holds : HoldsAll m holds') (by_number : GuardNumbers m numbers) where
    -- region j at state s, by the slices
    abbrev pub Breaks : ℕ → ℕ → Bool
    Breaks j s = breaks_by kept' holds' (get_or numbers j 0) s (get_or rows (j * 4096 + s) 0)

    -- the region with a number is the one that the number finds
    by_slices : (j : ℕ) (q : Region) → get_elem? (regions m) j ≡ some q → (s : ℕ) → s < count (vars m)
        → breaks (vars m) (kept_at m) q (state_at (vars m) s) ≡ Breaks j s
    unfolding IsRegion regions Outcomes
    by_slices j q e s h =
        let low = numbered_below (regions m) j q e in
        let same : region m j ≡ q = some-injective _ _ (sym (region_numbered m j low) ∙ e) in
        subst (λ (u : Region). breaks (vars m) (kept_at m) u (state_at (vars m) s) ≡ Breaks j s) same
        (breaks_is (looked m (kept_at m) numbers kept' holds' by_number (row_of_kept m kept' by_kept) by_holds j low)
        good few s h _ (outcomes j s low h))

    pub never : ((j : ℕ) → j < length (regions m) → (s : ℕ) → s < count (vars m) → Breaks j s ≡ false)
        → BrokenAs None (broken m)
    unfolding BrokenAs regions broken
    never quiet =
        let e = (where_none_iff (vars m) (breaks (vars m) (kept_at m)) (regions m)).1
        (λ j q e s h. by_slices j q e s h ∙ quiet j (numbered_below (regions m) j q e) s h) in
        rw e refl

    pub stops : (r s : ℕ) → r < length (regions m) → s < count (vars m) → Breaks r s ≡ true
        → ((k : ℕ) → k < s → Breaks r k ≡ false)
        → ((j : ℕ) → j < r → (k : ℕ) → k < count (vars m) → Breaks j k ≡ false) → BrokenAs (Some (r, s)) (broken m)
    unfolding BrokenAs IsRegion regions broken
    stops r s h low here below before =
        let is = region_numbered m r h in
        let e = (where_some_iff (vars m) (breaks (vars m) (kept_at m)) (regions m) r s).1 (
          region m r,
          is,
          (
            low,
            by_slices r (region m r) is s low ∙ here,
            λ k l. by_slices r (region m r) is k (omega arith) ∙ below k l,
          ),
          λ j q l e k lk. by_slices j q e k lk ∙ before j l k lk,
        ) in
        rw e refl

  -- where no region breaks, each outcome is the state after
  kept_number : (vs : List Var) (keep : List ℤ → Bool) (n : ℕ) (o : Option (List ℤ)) → kept_after keep o ≡ true
      → outcome_number vs o ≡ number_after vs n o
  unfolding kept_after outcome_number number_after
  kept_number vs keep n none h = absurd (false≢true h)
  kept_number vs keep n (some bs) h = refl

  pub after_all : broken m ≡ none → AfterAll m rows
  unfolding AfterAll Outcomes IsRegion runs model after regions broken breaks
  after_all e r s h t =
      let (on, holding) = both (kept m s) (holds m (guard_of m r) s) t in
      let (low, k) = kept_truth m s on in
      let g = sym (holds_guard m one_cond r s) ∙ holding in
      let o = outcome (region m r) (vars m) (state_at (vars m) s) in
      let quiet = (where_none_iff (vars m) (breaks (vars m) (kept_at m)) (regions m)).0 e r (region m r) (region_numbered m r h) s low in
      outcomes r s h low
      ∙ split (kept_after (kept_at m) o) (kept_number (vars m) (kept_at m) s o)
      (λ f. clash (and (and k g) (true_not f)) quiet)
