-- Variables in slots: none, one more, and what a good range says of the numbers that hold it.
use Rattle.std.proofs.Common.{◌≡◌, ℕ, ◌+◌, ◌-◌, ◌*◌, ◌<◌, ◌≤◌, List, [], ◌∷◌, ◌++◌, length, set, replicate, ℤ, refl, ◌∙◌, ⊎_elim, mul_assoc, one-mul, mul-one, arith, length-append, length-set}
use mathlib.Core.Option.{some}
use lib.ListN.{get_elem?}
use Rattle.syntax.specs.Tree.{Var}
use Rattle.meaning.specs.State.{size, count}
use Rattle.meaning.proofs.SixteenBits.{size_is}
use Rattle.meaning.specs.Accepted.{AtMost, GoodRange, GoodRanges, no_vars, one_var}
use Rattle.logic.proofs.Bools.{no_some}
use Rattle.meaning.specs.Held.{Shifted}
use Rattle.meaning.proofs.Offsets.{shifted_le, le_shifted, pos_shifted, neg_shifted, rebased}
use Rattle.variables.specs.Promises.{TripleOf, Good, Slots, Loaded, WithVar}
use Rattle.variables.specs.declared.Bounds.{Bounds}
use Rattle.variables.specs.declared.Triple.{Triple}
use Rattle.logic.proofs.Indices.{elem_inside, elem_snoc, set_each, six_at, six_at_most}

module _ (f : Var → ℤ) (e : ℕ) where
  pub slots_none : e ≤ 255 → Slots f e [] (replicate 6 e)
  slots_none h =
      record {
        six = refl;
        held = λ k v q. no_some q;
        small = six_at_most e 255 h;
        unused = λ k l q. six_at e k l;
      }

  -- one variable more, whose number is held with 65,536 added
  module _ (vs : List Var) (xs : List ℕ) (s : Slots f e vs xs) (room : length vs < 6) (v : Var) (m : ℕ)
      (h : Shifted 65536 (f v) m) (low : 65408 ≤ m) (high : m ≤ 65663) where
    slots_one : Slots f e (vs ++ (v ∷ [])) (set xs (length vs) (m - 65408))
    slots_one =
        let n = m - 65408 in
        let same : n + 65408 ≡ m = omega arith in
        let here : Shifted 128 (f v) n = rebased 128 65408 n (rw same h) in
        let more = length-append vs (v ∷ []) in
        let six = s.six in
        record {
          six = length-set xs (length vs) n ∙ six;
          held = set_each (λ k x. (u : Var) → get_elem? (vs ++ (v ∷ [])) k ≡ some u → Shifted 128 (f u) x) xs (length vs)
              n (omega arith)
              (λ u q. ⊎_elim (λ t. absurd (omega (arith, elem_inside vs (length vs) u t))) (λ t. rw t.1 here)
              (elem_snoc vs v (length vs) u q))
              (λ k d u q. ⊎_elim (λ t. s.held k u t) (λ t. absurd (d t.0)) (elem_snoc vs v k u q));
          small = set_each (λ k x. x ≤ 255) xs (length vs) n (omega arith) (omega arith) (λ k _. s.small k);
          unused = set_each (λ k x. k < 6 → length (vs ++ (v ∷ [])) ≤ k → x ≡ e) xs (length vs) n (omega arith)
              (λ _ q. absurd (omega arith)) (λ k _ l q. s.unused k l (omega arith));
        }

module _ (v : Var) (t : Triple) (h : TripleOf v t) where
  pub good_range : (n : ℕ) → Good n t → GoodRange v
  unfolding AtMost
  good_range n g =
      record {
        ordered = shifted_le h.low h.high g.ordered;
        low_bound = shifted_le (neg_shifted 65536 128 (omega arith)) h.low g.low_bound;
        high_bound = shifted_le h.high (pos_shifted 65536 127) g.high_bound;
        start_above = shifted_le h.low h.start g.start_above;
        start_below = shifted_le h.start h.high g.start_below;
      }

  pub range_good : (n : ℕ) → GoodRange v → n * size v ≤ 4096 → Good n t
  unfolding AtMost
  range_good n g few =
      let ordered = le_shifted h.low h.high g.ordered in
      record {
        ordered = ordered;
        low_bound = le_shifted (neg_shifted 65536 128 (omega arith)) h.low g.low_bound;
        high_bound = le_shifted h.high (pos_shifted 65536 127) g.high_bound;
        start_above = le_shifted h.low h.start g.start_above;
        start_below = le_shifted h.start h.high g.start_below;
        few = rw (size_is v h.low h.high ordered) at few;
      }

-- good ranges, and the count of states, of one variable more
pub good_snoc : {vs : List Var} {v : Var} → GoodRanges vs → GoodRange v → GoodRanges (vs ++ (v ∷ []))
good_snoc no_vars g = one_var g no_vars
good_snoc (one_var f fs) g = one_var f (good_snoc fs g)

pub count_snoc : (vs : List Var) (v : Var) → count (vs ++ (v ∷ [])) ≡ count vs * size v
unfolding count
count_snoc [] v = rw (mul-one, one-mul)
count_snoc (u ∷ vs) v = rw (count_snoc vs v, mul_assoc)

pub loaded_one : (vs : List Var) (v : Var) (b r : Bounds) (t : Triple) → Loaded vs b → length vs < 6 → TripleOf v t
    → Good b.states t → WithVar b t r → Loaded (vs ++ (v ∷ [])) r
loaded_one vs v b r t l room h g w =
    let c = l.counted in
    let i : b.count < 6 = omega arith in
    record {
      counted = w.counted i ∙ simp length-append (omega arith);
      states = w.states i ∙ rw (count_snoc, size_is v h.low h.high g.ordered, l.states);
      lows =
          rw (w.lows i, c) (slots_one _ _ vs b.lows l.lows room v t.low h.low (omega arith) (omega arith));
      highs =
          rw (w.highs i, c) (slots_one _ _ vs b.highs l.highs room v t.high h.high (omega arith)
          (omega arith));
      starts =
          rw (w.starts i, c) (slots_one _ _ vs b.starts l.starts room v t.start h.start (omega arith)
          (omega arith));
    }
