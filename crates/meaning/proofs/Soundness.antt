-- Refusals 7, 15, 8 and 9: the check of a tree gives the one verdict that `Judged` has grounds for. Each test is taken to the
-- statement that it decides, and states to their numbers.
use Prim.Native.Nat.{ℕ, ◌≤◌, ◌<◌}
use native.Mathlib.Omega.{arith}
use mathlib.Core.Path.{◌≡◌, refl, sym, ap, subst, ◌∙◌}
use mathlib.Core.Bool.{true, false, not, ◌&&◌, false≢true}
use mathlib.Core.Logic.{⊎_elim, ◌↔◌}
use mathlib.Core.List.{List}
use mathlib.Core.Option.{Option, none, some}
use lib.ListN.{get_or}
use lib.IntN.{ℤ}
use Rattle.syntax.specs.Token.{k_var, k_keep, Token, lexemes}
use Rattle.syntax.specs.Tree.{Region, Monitor, all, spell}
use Rattle.meaning.specs.Value.{truth}
use Rattle.meaning.specs.Decide.Bodies.{outcome}
use Rattle.meaning.specs.State.{count, state_at, number_of, starts}
use Rattle.meaning.specs.Kept.{kept_at}
use Rattle.meaning.specs.Answer.{answer, Verdict, accepted, refused}
use Rattle.meaning.specs.Decide.Check.{places_of, ill_ranged, unvalued, kept_after, breaks, broken}
use Rattle.meaning.specs.Decide.Check.{check_meaning}
use Rattle.meaning.specs.Accepted.{GoodRanges, Keeps, Meets, NoneLacks, Sound}
use Rattle.meaning.specs.Runs.{regions_of, State, BlockRuns, IsRegion}
use Rattle.meaning.specs.Model.{vars}
use Rattle.logic.proofs.Bools.{both, and, split, clash, not_true, true_not, is_false, different}
use Rattle.meaning.proofs.StateLaws.{state_at_lem, number_of_state_at, number_below, state_at_number}
use Rattle.meaning.proofs.BodyLaws.{runs_of_outcome, outcome_of_runs, block_runs_state}
use Rattle.meaning.proofs.RangeLaws.{ill_ranged_first, ill_ranged_good, good_or_ill}
use Rattle.meaning.specs.Refusal.{FirstBroken}
use Rattle.meaning.proofs.Searching.{NoneBelow, passes_at, Quiet, FirstIn, quiet_or_first, none_where, some_where}
use Rattle.meaning.proofs.Unvalued.{unvalued_first, unvalued_none}
use Rattle.meaning.proofs.Judged.{Judged, sound, is_ill_ranged, start_not_kept}
use Rattle.meaning.proofs.Judged as judged

-- 9, by values

module _ (m : Monitor) where
  keeps_of : (r : Region) (as' : List ℤ) → kept_after (kept_at m) (outcome r (vars m) as') ≡ true → Keeps m r as'
  unfolding kept_after Keeps
  keeps_of r as' h = go (outcome r (vars m) as') refl
    where
      go : (o : Option (List ℤ)) → outcome r (vars m) as' ≡ o → Keeps m r as'
      go none e = absurd (false≢true (rw e at h))
      go (some bs) e = (bs, runs_of_outcome r as' e, rw e at h)

  kept_after_lem : (r : Region) (as' : List ℤ) → Keeps m r as' → kept_after (kept_at m) (outcome r (vars m) as') ≡ true
  unfolding kept_after Keeps
  kept_after_lem r as' k = rw (outcome_of_runs r k.1) k.2

  -- a state breaks exactly where it counts and the body does not keep from it
  breaks_of : (r : Region) (as' : List ℤ) → State (vars m) as' → breaks (vars m) (kept_at m) r as' ≡ true
      → Meets m r as' × (Keeps m r as' → ⊥)
  unfolding breaks
  breaks_of r as' s h =
      let vs = vars m in
      let after = kept_after (kept_at m) (outcome r vs as') in
      let t = both (kept_at m as' && truth r.guard vs as') (not after) h in
      let u = both (kept_at m as') (truth r.guard vs as') t.0 in
      (record { state = s; kept = u.0; guard = u.1 }, λ k. clash (kept_after_lem r as' k) (not_true t.1))

  breaks_true : (r : Region) (as' : List ℤ) → Meets m r as' → (Keeps m r as' → ⊥)
      → breaks (vars m) (kept_at m) r as' ≡ true
  unfolding breaks
  breaks_true r as' q n = and (and q.kept q.guard) (true_not (is_false (λ h. n (keeps_of r as' h))))

  keeps_or_breaks : (r : Region) (as' : List ℤ) → breaks (vars m) (kept_at m) r as' ≡ false → Meets m r as'
      → Keeps m r as'
  keeps_or_breaks r as' f q =
      split (kept_after (kept_at m) (outcome r (vars m) as')) (keeps_of r as')
      (λ n. clash (breaks_true r as' q (λ k. clash (kept_after_lem r as' k) n)) f)

  module _ (good : GoodRanges (vars m)) where
    -- what holds of the state with each number below n holds of each state with a number below n
    keeps_below : (r : Region) (n : ℕ) → NoneBelow (passes_at (vars m) (breaks (vars m) (kept_at m)) r) n → (as' : List ℤ)
        → number_of (vars m) as' < n → Meets m r as' → Keeps m r as'
    unfolding passes_at
    keeps_below r n h as' low q =
        keeps_or_breaks r as' (rw (state_at_number good q.state) at (h (number_of (vars m) as') low)) q

    below_keeps : (r : Region) (n : ℕ) → n ≤ count (vars m)
        → ((as' : List ℤ) → number_of (vars m) as' < n → Meets m r as' → Keeps m r as')
        → NoneBelow (passes_at (vars m) (breaks (vars m) (kept_at m)) r) n
    unfolding passes_at
    below_keeps r n few h i low = is_false (λ b.
        let t = breaks_of r (state_at (vars m) i) (state_at_lem good i (omega arith)) b in
        t.1 (h (state_at (vars m) i) (rw (number_of_state_at (vars m) i (omega arith)) low) t.0))

    -- no state breaks in a region, as its numbers say and as its values do
    keeps_quiet : (r : Region) → Quiet (vars m) (breaks (vars m) (kept_at m)) r → (as' : List ℤ) → Meets m r as' → Keeps m r as'
    keeps_quiet r h as' q = keeps_below r (count (vars m)) h as' (number_below good q.state) q

    quiet_keeps : (r : Region) → ((as' : List ℤ) → Meets m r as' → Keeps m r as') → Quiet (vars m) (breaks (vars m) (kept_at m)) r
    quiet_keeps r h = below_keeps r (count (vars m)) (omega arith) (λ as' low. h as')

    first_broken : (i n : ℕ) → FirstIn (vars m) (breaks (vars m) (kept_at m)) (regions_of (all m.methods)) i n → FirstBroken m i n
    unfolding IsRegion passes_at
    first_broken i n (r, e, f, h) =
        let t = breaks_of r (state_at (vars m) n) (state_at_lem good n f.0) f.1 in
        record {
          region = r;
          numbered = e;
          below = f.0;
          meets = t.0;
          breaks = t.1;
          lower_state = keeps_below r n f.2;
          lower_region = λ j q as' low e'. keeps_quiet q (h j q low e') as';
        }

    broken_first : (i n : ℕ) → FirstBroken m i n → FirstIn (vars m) (breaks (vars m) (kept_at m)) (regions_of (all m.methods)) i n
    unfolding IsRegion passes_at
    broken_first i n t = (
      t.region,
      t.numbered,
      (
        t.below,
        breaks_true t.region (state_at (vars m) n) t.meets t.breaks,
        below_keeps t.region n (omega arith) t.lower_state,
      ),
      λ j q low e. quiet_keeps q (λ as'. t.lower_region j q as' low e),
    )

-- The verdict

module _ (ts : List Token) (m : Monitor) (spelt : lexemes ts ≡ spell m) where
  says_7 : (k : ℕ) → ill_ranged 1 (vars m) (places_of k_var ts) ≡ some k → check_meaning ts m ≡ refused (answer 7 k 0)
  unfolding check_meaning
  says_7 k e = cc

  module _ (ranges : ill_ranged 1 (vars m) (places_of k_var ts) ≡ none) where
    says_15 : (k : ℕ) → unvalued (vars m) false ts ≡ some k → check_meaning ts m ≡ refused (answer 15 k 0)
    unfolding check_meaning
    says_15 k e = cc

    module _ (valued : unvalued (vars m) false ts ≡ none) where
      says_8 : kept_at m (starts (vars m)) ≡ false
          → check_meaning ts m ≡ refused (answer 8 (get_or (places_of k_keep ts) 0 0) 0)
      unfolding check_meaning
      says_8 f = cc

      says_9 : kept_at m (starts (vars m)) ≡ true → (k n : ℕ)
          → broken m ≡ some (k, n) → check_meaning ts m ≡ refused (answer 9 k n)
      unfolding check_meaning
      says_9 t k n e = cc

      says_accepted : kept_at m (starts (vars m)) ≡ true
          → broken m ≡ none → check_meaning ts m ≡ accepted m
      unfolding check_meaning
      says_accepted t e = cc

  -- a verdict with grounds is the check's
  says_judged : {v : Verdict} → Judged ts m v → check_meaning ts m ≡ v
  unfolding IsRegion broken
  says_judged (sound s) =
      says_accepted (ill_ranged_good (places_of k_var ts) s.ranges s.few)
      ((unvalued_none m s.ranges ts spelt).1 s.valued) s.start
      (none_where (vars m) (breaks (vars m) (kept_at m)) (regions_of (all m.methods))
      (λ j q e. quiet_keeps m s.ranges q (λ as'. s.keeps j q as' e)))
  says_judged (is_ill_ranged {i} t) = says_7 (get_or (places_of k_var ts) i 0) (ill_ranged_first (places_of k_var ts) t)
  says_judged (judged.unvalued {k} good few f) =
      says_15 (ill_ranged_good (places_of k_var ts) good few) k ((unvalued_first m good ts spelt k).1 f)
  says_judged (start_not_kept good few valued f) =
      says_8 (ill_ranged_good (places_of k_var ts) good few) ((unvalued_none m good ts spelt).1 valued) f
  says_judged (judged.broken {k} {n} good few valued t b) =
      says_9 (ill_ranged_good (places_of k_var ts) good few) ((unvalued_none m good ts spelt).1 valued) t k n
      (some_where (vars m) (breaks (vars m) (kept_at m)) (regions_of (all m.methods)) k n (broken_first m good k n b))

  -- the check's verdict has grounds
  abbrev Grounds : Type 0
  Grounds = (v : Verdict) × Judged ts m v

  by_bodies : GoodRanges (vars m) → count (vars m) ≤ 4096 → NoneLacks m → kept_at m (starts (vars m)) ≡ true → Grounds
  unfolding IsRegion
  by_bodies good few valued t =
      ⊎_elim
      (λ h. (
        accepted m,
        sound (record {
          ranges = good;
          few = few;
          valued = valued;
          start = t;
          keeps = λ k r as' e. keeps_quiet m good r (h k r e) as';
        }),
      ))
      (λ b. (refused (answer 9 b.0 b.1), judged.broken good few valued t (first_broken m good b.0 b.1 b.2)))
      (quiet_or_first (vars m) (breaks (vars m) (kept_at m)) (regions_of (all m.methods)))

  by_values : GoodRanges (vars m) → count (vars m) ≤ 4096 → Grounds
  by_values good few = one (unvalued (vars m) false ts) refl
    where
      one : (o : Option ℕ) → unvalued (vars m) false ts ≡ o → Grounds
      one (some k) e = (refused (answer 15 k 0), judged.unvalued good few ((unvalued_first m good ts spelt k).0 e))
      one none e =
          let valued = (unvalued_none m good ts spelt).0 e in
          split (kept_at m (starts (vars m))) (by_bodies good few valued)
          (λ f. (refused (answer 8 (get_or (places_of k_keep ts) 0 0) 0), start_not_kept good few valued f))

  grounds : Grounds
  grounds =
      ⊎_elim (λ g. by_values g.1 g.2)
      (λ t. (refused (answer 7 (get_or (places_of k_var ts) t.0 0) 0), is_ill_ranged t.2))
      (good_or_ill (vars m) (places_of k_var ts))

  pub check_meaning_iff : (v : Verdict) → (check_meaning ts m ≡ v) ↔ Judged ts m v
  check_meaning_iff v = (λ e. subst (Judged ts m) (sym (says_judged grounds.1) ∙ e) grounds.1, says_judged)

  sound_of : {v : Verdict} (m' : Monitor) → Judged ts m v → v ≡ accepted m' → (m ≡ m') × Sound m
  sound_of m' (sound s) e = (cc, s)
  sound_of m' (is_ill_ranged t) e = different (cc)
  sound_of m' (judged.unvalued good few f) e = different (cc)
  sound_of m' (start_not_kept good few valued f) e = different (cc)
  sound_of m' (judged.broken good few valued t b) e = different (cc)

  -- a tree is accepted, as itself, exactly where it is sound
  pub check_meaning_accepted_iff : (m' : Monitor) → (check_meaning ts m ≡ accepted m') ↔ ((m ≡ m') × Sound m)
  check_meaning_accepted_iff m' = (
    λ e. sound_of m' ((check_meaning_iff (accepted m')).0 e) refl,
    λ t. says_judged (sound t.1) ∙ ap {B = Verdict} accepted t.0,
  )

  -- demand 2: in an accepted tree, from every state that meets kept condition and guard, a body runs with each
  -- assignment in its range and ends in a state with the kept condition true
  pub accepted_bodies_keep : (m' : Monitor) → check_meaning ts m ≡ accepted m' → (k : ℕ) (r : Region) (as' : List ℤ)
      → IsRegion m k r → Meets m r as'
      → (bs : List ℤ) × BlockRuns (vars m) r.body as' bs × State (vars m) bs × (kept_at m bs ≡ true)
  unfolding Keeps
  accepted_bodies_keep m' e k r as' n q =
      let t = ((check_meaning_accepted_iff m').0 e).1.keeps k r as' n q in
      (t.0, t.1, block_runs_state t.1 q.state, t.2)
