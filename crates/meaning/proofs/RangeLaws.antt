-- Refusal 7: the walk over the ranges with a running product passes exactly where every range is good and there are at
-- most 4,096 states, and else stops at the first variable that is ill ranged.
use Prim.Native.Nat.{ℕ, suc, ◌*◌, ◌≤◌, ◌<◌}
use native.Mathlib.Omega.{arith}
use native.Mathlib.Nat.{mul_assoc, one-mul, mul-one, le-mul_of_pos_right}
use mathlib.Core.Path.{◌≡◌, refl, ap, ◌∙◌}
use mathlib.Core.Bool.{Bool, true, false, not, ◌&&◌}
use mathlib.Core.Logic.{◌⊎◌, inl, inr, ⊎_elim}
use mathlib.Core.List.{List, [], ◌∷◌, ◌++◌}
use mathlib.Core.Option.{Option, none, some}
use lib.ListN.{length, get_or, drop}
use lib.Dec.{leb}
use lib.IntN.{pos, neg_ℤ}
use borrow.Author.Tests.{leb-true, leb-false, le-leb}
use Rattle.syntax.specs.Tree.{Var}
use Rattle.meaning.specs.Value.{int_of, less, in_range}
use Rattle.meaning.specs.State.{size, count}
use Rattle.meaning.specs.Decide.Check.{in_byte, good_range, ill_ranged}
use Rattle.meaning.specs.Accepted.{AtMost, GoodRange, GoodRanges, no_vars, one_var}
use Rattle.logic.proofs.Bools.{both, and, split, clash, not_true, true_not, is_false}
use Rattle.meaning.proofs.Integers.{not_less_trans}
use Rattle.meaning.proofs.StateLaws.{count_pos}
use Rattle.meaning.specs.Refusal.{FirstIllRanged}

good_range_of : (v : Var) → good_range v ≡ true → GoodRange v
unfolding good_range in_byte in_range AtMost
good_range_of v h =
    let low = int_of v.low in
    let high = int_of v.high in
    let t = both (not (less high low) && in_byte low && in_byte high) (in_range v (int_of v.start)) h in
    let u = both (not (less high low) && in_byte low) (in_byte high) t.0 in
    let w = both (not (less high low)) (in_byte low) u.0 in
    let s = both (not (less (int_of v.start) low)) (not (less high (int_of v.start))) t.1 in
    record {
      ordered = not_true w.0;
      low_bound = not_true (both (not (less low (neg_ℤ (pos 128)))) (not (less (pos 127) low)) w.1).0;
      high_bound = not_true (both (not (less high (neg_ℤ (pos 128)))) (not (less (pos 127) high)) u.1).1;
      start_above = not_true s.0;
      start_below = not_true s.1;
    }

good_range_true : (v : Var) → GoodRange v → good_range v ≡ true
unfolding good_range in_byte in_range AtMost
good_range_true v g =
    let low = int_of v.low in
    let high = int_of v.high in
    and (and (and (true_not g.ordered)
    (and (true_not g.low_bound) (true_not (not_less_trans low high (pos 127) g.ordered g.high_bound))))
    (and (true_not (not_less_trans (neg_ℤ (pos 128)) low high g.low_bound g.ordered)) (true_not g.high_bound)))
    (and (true_not g.start_above) (true_not g.start_below))

-- a variable passes with the product of sizes before it
passes : ℕ → Var → Bool
passes p v = good_range v && leb (p * size v) 4096

ill_step : (p : ℕ) (v : Var) (vs : List Var) (ps : List ℕ) → passes p v ≡ true
    → ill_ranged p (v ∷ vs) ps ≡ ill_ranged (p * size v) vs (drop 1 ps)
unfolding ill_ranged passes
ill_step p v vs ps h = cc

ill_stop : (p : ℕ) (v : Var) (vs : List Var) (ps : List ℕ) → passes p v ≡ false → ill_ranged p (v ∷ vs) ps
    ≡ some (get_or ps 0 0)
unfolding ill_ranged passes
ill_stop p v vs ps h = cc

Fails : ℕ → Var → Type 0
Fails p v = (GoodRange v → ⊥) ⊎ (4096 < p * size v)

passed : (p : ℕ) (v : Var) → passes p v ≡ true → GoodRange v × (p * size v ≤ 4096)
unfolding passes
passed p v h =
    let t = both (good_range v) (leb (p * size v) 4096) h in
    (good_range_of v t.0, leb-true (p * size v) 4096 t.1)

passes_true : (p : ℕ) (v : Var) → GoodRange v → p * size v ≤ 4096 → passes p v ≡ true
unfolding passes
passes_true p v g few = and (good_range_true v g) (le-leb (p * size v) 4096 few)

failed : (p : ℕ) (v : Var) → passes p v ≡ false → Fails p v
unfolding Fails
failed p v h =
    split (good_range v)
    (λ g. split (leb (p * size v) 4096)
    (λ l. clash (passes_true p v (good_range_of v g) (leb-true (p * size v) 4096 l)) h)
    (λ l. inr (leb-false (p * size v) 4096 l)))
    (λ b. inl (λ g. clash (good_range_true v g) b))

passes_false : (p : ℕ) (v : Var) → Fails p v → passes p v ≡ false
unfolding Fails
passes_false p v (inl bad) = is_false (λ h. bad (passed p v h).0)
passes_false p v (inr many) = is_false (λ h. let few = (passed p v h).1 in omega arith)

-- `FirstIllRanged`, with a product of sizes before the first variable
record IllFrom (p : ℕ) (vs : List Var) (i : ℕ) : Type 0 where
  before : List Var
  after : List Var
  var : Var
  parts : vs ≡ before ++ (var ∷ after)
  place : length before ≡ i
  good : GoodRanges before
  few : p * count before ≤ 4096
  bad : Fails (p * count before) var

next_place : (ps : List ℕ) (i : ℕ) → get_or (drop 1 ps) i 0 ≡ get_or ps (suc i) 0
next_place [] i = refl
next_place (a ∷ ps) i = refl

ill_here : (p : ℕ) (v : Var) (vs : List Var) → p ≤ 4096 → Fails p v → IllFrom p (v ∷ vs) 0
unfolding count
ill_here p v vs few bad =
    record {
      before = [];
      after = vs;
      var = v;
      parts = refl;
      place = refl;
      good = no_vars;
      few = omega arith;
      bad = rw mul-one bad;
    }

ill_later : (p : ℕ) (v : Var) (vs : List Var) (i : ℕ) → GoodRange v → IllFrom (p * size v) vs i
    → IllFrom p (v ∷ vs) (suc i)
unfolding count
ill_later p v vs i g t =
    record {
      before = v ∷ t.before;
      after = t.after;
      var = t.var;
      parts = ap {B = List Var} (λ us. v ∷ us) t.parts;
      place = ap suc t.place;
      good = one_var g t.good;
      few = rw mul_assoc at t.few;
      bad = rw mul_assoc at t.bad;
    }

-- the two results, with their grounds
ill_ranged_cases : (p : ℕ) (vs : List Var) (ps : List ℕ) → p ≤ 4096
    → ((ill_ranged p vs ps ≡ none) × GoodRanges vs × (p * count vs ≤ 4096))
    ⊎ ((i : ℕ) × (ill_ranged p vs ps ≡ some (get_or ps i 0)) × IllFrom p vs i)
unfolding ill_ranged count
ill_ranged_cases p [] ps few = inl (refl, no_vars, omega arith)
ill_ranged_cases p (v ∷ vs) ps few =
    split (passes p v)
    (λ h. let (g, less) = passed p v h in
    ⊎_elim
    (λ t. inl (ill_step p v vs ps h ∙ t.0, one_var g t.1, rw mul_assoc at t.2))
    (λ t. inr (
      suc t.0,
      ill_step p v vs ps h ∙ t.1 ∙ ap {B = Option ℕ} some (next_place ps t.0),
      ill_later p v vs t.0 g t.2,
    ))
    (ill_ranged_cases (p * size v) vs (drop 1 ps) less))
    (λ h. inr (0, ill_stop p v vs ps h, ill_here p v vs few (failed p v h)))

ill_ranged_none_of : (p : ℕ) {vs : List Var} (ps : List ℕ) → GoodRanges vs → p * count vs ≤ 4096 → ill_ranged p vs ps
    ≡ none
unfolding ill_ranged count
ill_ranged_none_of p ps no_vars few = refl
ill_ranged_none_of p ps (one_var {v} {vs} g gs) few =
    let whole : p * size v * count vs ≤ 4096 = rw mul_assoc few in
    let part = le-mul_of_pos_right (p * size v) (count_pos vs) in
    ill_step p v vs ps (passes_true p v g (omega arith)) ∙ ill_ranged_none_of (p * size v) (drop 1 ps) gs whole

ill_ranged_some_of : (p : ℕ) {before : List Var} (v : Var) (after : List Var) (ps : List ℕ) → GoodRanges before
    → p * count before ≤ 4096 → Fails (p * count before) v
    → ill_ranged p (before ++ (v ∷ after)) ps ≡ some (get_or ps (length before) 0)
unfolding count
ill_ranged_some_of p v after ps no_vars few bad = ill_stop p v after ps (passes_false p v (rw mul-one at bad))
ill_ranged_some_of p v after ps (one_var {v = u} {vs = us} g gs) few bad =
    let whole : p * size u * count us ≤ 4096 = rw mul_assoc few in
    let part = le-mul_of_pos_right (p * size u) (count_pos us) in
    ill_step p u (us ++ (v ∷ after)) ps (passes_true p u g (omega arith))
    ∙ ill_ranged_some_of (p * size u) v after (drop 1 ps) gs whole (rw mul_assoc bad)
    ∙ ap {B = Option ℕ} some (next_place ps (length us))

-- the product begins at 1
first_ill : {vs : List Var} {i : ℕ} → IllFrom 1 vs i → FirstIllRanged vs i
unfolding Fails
first_ill t =
    record {
      before = t.before;
      after = t.after;
      var = t.var;
      parts = t.parts;
      place = t.place;
      good = t.good;
      few = rw one-mul at t.few;
      bad = rw one-mul at t.bad;
    }

pub ill_ranged_first : {vs : List Var} {i : ℕ} (ps : List ℕ) → FirstIllRanged vs i → ill_ranged 1 vs ps
    ≡ some (get_or ps i 0)
unfolding Fails
ill_ranged_first ps t =
    rw (t.parts, ← t.place)
    (ill_ranged_some_of 1 t.var t.after ps t.good (rw one-mul t.few) (rw one-mul t.bad))

pub ill_ranged_good : {vs : List Var} (ps : List ℕ) → GoodRanges vs → count vs ≤ 4096 → ill_ranged 1 vs ps ≡ none
ill_ranged_good ps gs few = ill_ranged_none_of 1 ps gs (rw one-mul few)

pub good_or_ill : (vs : List Var) (ps : List ℕ)
    → ((ill_ranged 1 vs ps ≡ none) × GoodRanges vs × (count vs ≤ 4096))
    ⊎ ((i : ℕ) × (ill_ranged 1 vs ps ≡ some (get_or ps i 0)) × FirstIllRanged vs i)
good_or_ill vs ps =
    ⊎_elim (λ t. inl (t.0, t.1, rw one-mul at t.2)) (λ t. inr (t.0, t.1, first_ill t.2))
    (ill_ranged_cases 1 vs ps (omega arith))
