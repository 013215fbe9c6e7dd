-- A state's number in sixteen bits: the product of all sizes is the count of states, the weights are the counts of the
-- variables behind, the sums and products on the way to a number and back are below 65,536, and so each is what it
-- would be without the limit. By index, a variable at a time.
use Prim.Native.Nat.{ℕ, zero, suc, ◌+◌, ◌-◌, ◌*◌, ◌/◌, ◌%◌, ◌<◌, ◌≤◌, ◌∣◌}
use native.Mathlib.Omega.{arith}
use native.Mathlib.Numerals.{add-one}
use native.Mathlib.Nat.{mod-lt, mod-eq_of_lt, mod-mod_of_dvd, div-lt_iff_lt-mul, mul-pos, mul-div_right}
use native.Mathlib.Nat.{mul_assoc, mul-one, one-mul, le-mul_of_pos_right}
use native.Mathlib.Nat.{zero-add, dvd_refl, dvd-mul_left, dvd-mul_left_of_dvd}
use mathlib.Core.Path.{◌≡◌, refl, sym, ap, ap₂, ◌∙◌}
use mathlib.Core.Bool.{true}
use mathlib.Core.List.{List, [], ◌∷◌}
use mathlib.Core.Option.{some, some-injective}
use lib.Dec.{ltb}
use lib.ListN.{length, get_or, drop, get_elem?, drop_of_length-le, get_or-eq_default}
use lib.IntN.{ℤ, pos, nat_abs, ◌+ℤ◌, -ℤ-+ℤ_cancel}
use borrow.Author.Tests.{ltb-true, ltb-false}
use Rattle.syntax.specs.Tree.{Var}
use Rattle.logic.proofs.Bools.{no_some, split}
use Rattle.logic.proofs.Indices.{at_index, get_d_elem}
use Rattle.meaning.specs.Value.{int_of, in_range}
use Rattle.meaning.specs.State.{size, count, state_at, number_of}
use Rattle.meaning.specs.Accepted.{AtMost, GoodRange, GoodRanges, no_vars, one_var}
use Rattle.meaning.specs.Runs.{State, no_values, one_value}
use Rattle.meaning.specs.Held.{Shifted, Offset, Biased, Ranges}
use Rattle.meaning.specs.SixteenBits.{wrapped, unlimited, size_in, count_in, weight_in}
use Rattle.meaning.specs.SixteenBits.{share, number_in, rest_in, value_in}
use Rattle.meaning.proofs.Integers.{in_range_iff, not_less_iff}
use Rattle.meaning.proofs.Offsets.{shifted_up, shifted_distance, le_shifted}
use Rattle.meaning.proofs.StateLaws.{size_pos, count_pos, number_below}

-- Variables by index

pub good_at : {vs : List Var} → GoodRanges vs → (k : ℕ) (v : Var) → get_elem? vs k ≡ some v → GoodRange v
good_at no_vars k v e = no_some e
good_at (one_var {v = u} g gs) zero v e = rw (← some-injective u v e) g
good_at (one_var g gs) (suc k) v e = good_at gs k v e

-- the size of a range, as it is held
pub size_is : (v : Var) {b l h : ℕ} → Shifted b (int_of v.low) l → Shifted b (int_of v.high) h → l ≤ h
    → size v ≡ h - l + 1
unfolding size
size_is v el eh o = ap (λ (n : ℕ). n + 1) (shifted_distance el eh o)

-- a variable at its place, with its range as it is held
pub record Placed (vs : List Var) (lows highs : List ℕ) (k : ℕ) : Type 0 where
  pub var : Var
  pub there : get_elem? vs k ≡ some var
  pub left : drop k vs ≡ var ∷ drop (suc k) vs
  pub low_held : Shifted 128 (int_of var.low) (get_or lows k 0)
  pub ordered : get_or lows k 0 ≤ get_or highs k 0
  pub high_small : get_or highs k 0 ≤ 255
  pub sized : size var ≡ get_or highs k 0 - get_or lows k 0 + 1

pub place : {vs : List Var} {lows highs : List ℕ} → Ranges vs lows highs → GoodRanges vs → (k : ℕ) → k < length vs
    → Placed vs lows highs k
unfolding Offset AtMost
place {vs} {lows} {highs} ranges good k h =
    let i = at_index vs k h in
    let low : Shifted 128 (int_of i.0.low) (get_or lows k 0) = record { is = ranges.lows_held k i.0 i.1 } in
    let high : Shifted 128 (int_of i.0.high) (get_or highs k 0) = record { is = ranges.highs_held k i.0 i.1 } in
    let ordered = le_shifted low high (good_at good k i.0 i.1).ordered in
    record {
      var = i.0;
      there = i.1;
      left = i.2;
      low_held = low;
      ordered = ordered;
      high_small = ranges.highs_small k;
      sized = size_is i.0 low high ordered;
    }

pub count_at : (vs : List Var) (k : ℕ) (v : Var) → drop k vs ≡ v ∷ drop (suc k) vs
    → count (drop k vs) ≡ size v * count (drop (suc k) vs)
unfolding count
count_at vs k v e = ap count e

-- Weights

pub weight_is : {vs : List Var} {lows highs : List ℕ} → Ranges vs lows highs → GoodRanges vs → (k : ℕ)
    → k ≤ length vs → weight_in lows highs (count vs) k ≡ count (drop k vs)
unfolding weight_in
weight_is r g zero h = refl
weight_is {vs} {lows} {highs} r g (suc k) h =
    let p = place r g k (omega arith) in
    ap₂ (λ (a b : ℕ). a / b) (weight_is r g k (omega arith) ∙ count_at vs k p.var p.left) (sym p.sized)
    ∙ mul-div_right _ (size_pos p.var)

-- The count of states, by what keeps all that is below 65,536

module _ {vs : List Var} {lows highs : List ℕ} (ranges : Ranges vs lows highs) (good : GoodRanges vs)
    (few : count vs ≤ 4096) (limit : ℕ → ℕ) (keeps : (n : ℕ) → n < 65536 → limit n ≡ n) where
  -- one size more: the product is kept, and with the count of what is left makes up what it made up before
  record Sized (c k : ℕ) : Type 0 where
    kept : limit (c * size_in lows highs k) ≡ c * size_in lows highs k
    makes : c * size_in lows highs k * count (drop (suc k) vs) ≡ count vs

  sized_more : (c k : ℕ) → k < length vs → c * count (drop k vs) ≡ count vs → Sized c k
  sized_more c k h so_far =
      let p = place ranges good k h in
      let behind = count (drop (suc k) vs) in
      let makes : c * size_in lows highs k * behind ≡ count vs =
      mul_assoc c (size_in lows highs k) behind
      ∙ ap (λ (x : ℕ). c * (x * behind)) (sym p.sized)
      ∙ ap (λ (x : ℕ). c * x) (sym (count_at vs k p.var p.left)) ∙ so_far in
      let small : c * size_in lows highs k ≤ c * size_in lows highs k * behind =
      le-mul_of_pos_right (c * size_in lows highs k) (count_pos (drop (suc k) vs)) in
      record { kept = keeps (c * size_in lows highs k) (omega (arith, small, makes, few)); makes = makes }

  -- the product so far and the count of what is left make up the count of states
  pub product_so_far : (k : ℕ) → k ≤ length vs → count_in limit lows highs k * count (drop k vs) ≡ count vs
  unfolding count_in
  product_so_far zero h = one-mul _
  product_so_far (suc k) h =
      let more = sized_more (count_in limit lows highs k) k (omega arith) (product_so_far k (omega arith)) in
      ap (λ (x : ℕ). x * count (drop (suc k) vs)) more.kept ∙ more.makes

  pub product_kept : (k : ℕ) → k ≤ length vs → count_in limit lows highs k ≡ count_in unlimited lows highs k
  unfolding count_in
  product_kept zero h = refl
  product_kept (suc k) h =
      (sized_more (count_in limit lows highs k) k (omega arith) (product_so_far k (omega arith))).kept
      ∙ ap (λ (x : ℕ). x * size_in lows highs k) (product_kept k (omega arith))

  pub product_is : count_in limit lows highs (length vs) ≡ count vs
  unfolding count
  product_is =
      let last : count (drop (length vs) vs) ≡ 1 = rw (drop_of_length-le vs {i = length vs} (omega arith)) in
      sym (mul-one _) ∙ ap (λ (x : ℕ). count_in limit lows highs (length vs) * x) (sym last)
      ∙ product_so_far (length vs) (omega arith)

-- Numbers

-- one variable more, as a loop counts
pub number_more : (limit : ℕ → ℕ) (lows weights values : List ℕ) (k : ℕ) → number_in limit lows weights values (k + 1)
    ≡ limit (number_in limit lows weights values k + share limit (get_or values k 0) (get_or lows k 0) (get_or weights k 0))
unfolding number_in
number_more limit lows weights values k = ap (number_in limit lows weights values) (add-one k)

pub rest_more : (weights : List ℕ) (n k : ℕ) → rest_in weights n (k + 1) ≡ rest_in weights n k % get_or weights k 0
unfolding rest_in
rest_more weights n k = ap (rest_in weights n) (add-one k)

state_at_index : {vs : List Var} {as' : List ℤ} → State vs as' → (k : ℕ) (v : Var) (a : ℤ) → get_elem? vs k ≡ some v
    → get_elem? as' k ≡ some a → in_range v a ≡ true
state_at_index no_values k v a e q = no_some e
state_at_index (one_value {v = u} {a = c} r s) zero v a e q =
    rw (← some-injective u v e, ← some-injective c a q) r
state_at_index (one_value r s) (suc k) v a e q = state_at_index s k v a e q

-- few states, with ranges and weights as they are held
pub record Weighing (vs : List Var) (lows highs weights : List ℕ) : Type 0 where
  pub ranges : Ranges vs lows highs
  pub good : GoodRanges vs
  pub few : count vs ≤ 4096
  pub weigh : (k : ℕ) → k < length vs → get_or weights k 0 ≡ count (drop (suc k) vs)

-- a state, with its values as they are held
pub record Standing (vs : List Var) (as' : List ℤ) (values : List ℕ) : Type 0 where
  pub state : State vs as'
  pub biased : Biased vs as' values

module _ {vs : List Var} {lows highs weights : List ℕ} (w : Weighing vs lows highs weights) {as' : List ℤ}
    {values : List ℕ} (s : Standing vs as' values) where
  -- what a variable's value adds
  abbrev part : ℕ → ℕ
  part k = (get_or values k 0 - get_or lows k 0) * get_or weights k 0

  number_here : (k : ℕ) → k < length vs
      → number_of (drop k vs) (drop k as') ≡ part k + number_of (drop (suc k) vs) (drop (suc k) as')
  unfolding Offset AtMost number_of
  number_here k h =
      let p = place w.ranges w.good k h in
      let v = p.var in
      let j = at_index as' k (omega (arith, s.biased.each_value)) in
      let a = j.0 in
      let held : Shifted 128 a (get_or values k 0) =
      record { is = sym (get_d_elem as' k a (pos 0) j.1) ∙ s.biased.held k h } in
      let t = (in_range_iff v (good_at w.good k v p.there).ordered a).0
      (state_at_index s.state k v a p.there j.1) in
      let ordered = le_shifted p.low_held held ((not_less_iff (int_of v.low) a).1 (t.0, t.2)) in
      rw (p.left, j.2, w.weigh k h, shifted_distance p.low_held held ordered)

  pub below : number_of vs as' < 4096
  below = omega (arith, number_below w.good s.state, w.few)

  -- what keeps all that is below 65,536 loses nothing: in sixteen bits, and without a limit
  module _ (limit : ℕ → ℕ) (keeps : (n : ℕ) → n < 65536 → limit n ≡ n) where
    -- the sum so far and the number of what is left make up the whole
    pub sum_so_far : (k : ℕ) → k ≤ length vs
        → number_in limit lows weights values k + number_of (drop k vs) (drop k as') ≡ number_of vs as'
    unfolding number_in share
    sum_so_far zero h = zero-add _
    sum_so_far (suc k) h =
        let so_far = sum_so_far k (omega arith) in
        let here = number_here k (omega arith) in
        let n = number_in limit lows weights values k in
        let kept : limit (part k) ≡ part k = keeps (part k) (omega (arith, so_far, here, below)) in
        let sum : limit (n + part k) ≡ n + part k = keeps (n + part k) (omega (arith, so_far, here, below)) in
        let next : number_in limit lows weights values (suc k) ≡ n + part k = ap (λ (x : ℕ). limit (n + x)) kept ∙ sum in
        omega (arith, next, so_far, here)

    pub share_kept : (k : ℕ) → k < length vs → share limit (get_or values k 0) (get_or lows k 0) (get_or weights k 0) ≡ part k
    unfolding share
    share_kept k h = keeps _ (omega (arith, sum_so_far k (omega arith), number_here k h, below))

    pub number_kept : number_in limit lows weights values (length vs) ≡ number_of vs as'
    unfolding number_of
    number_kept =
        let last : number_of (drop (length vs) vs) (drop (length vs) as') ≡ 0 =
        rw (drop_of_length-le vs {i = length vs} (omega arith)) in
        omega (arith, sum_so_far (length vs) (omega arith), last)

-- The way back

-- the digit of a variable
abbrev pub digit : List Var → ℕ → ℕ → ℕ
digit vs n k = n % count (drop k vs) / count (drop (suc k) vs)

count_divides : (vs : List Var) (k : ℕ) → count (drop k vs) ∣ count vs
unfolding count
count_divides [] zero = dvd_refl _
count_divides [] (suc k) = dvd_refl _
count_divides (v ∷ vs) zero = dvd_refl _
count_divides (v ∷ vs) (suc k) = dvd-mul_left_of_dvd (count (drop k vs)) (count_divides vs k) (size v)

-- a state's value is its lowest with its digit
pub value_at : (vs : List Var) (n k : ℕ) (v : Var) → n < count vs → get_elem? vs k ≡ some v
    → get_or (state_at vs n) k (pos 0) ≡ int_of v.low +ℤ pos (digit vs n k)
unfolding count state_at
value_at [] n k v h e = no_some e
value_at (u ∷ vs) n zero v h e = rw (← some-injective u v e, mod-eq_of_lt h)
value_at (u ∷ vs) n (suc k) v h e =
    value_at vs (n % count vs) k v (mod-lt n (count_pos vs)) e
    ∙ ap (λ (x : ℕ). int_of v.low +ℤ pos (x / count (drop (suc k) vs)))
    (mod-mod_of_dvd (count (drop k vs)) n (count_divides vs k))

pub digit_less : (vs : List Var) (n k : ℕ) (v : Var) → drop k vs ≡ v ∷ drop (suc k) vs → digit vs n k < size v
digit_less vs n k v e =
    let c = count (drop (suc k) vs) in
    rw (count_at vs k v e)
    ((div-lt_iff_lt-mul (count_pos (drop (suc k) vs))).1
    (mod-lt n (mul-pos (size_pos v) (count_pos (drop (suc k) vs)))))

-- a whole number is held as one
same_held : {b : ℕ} {a : ℤ} {x y : ℕ} → Shifted b a x → Shifted b a y → x ≡ y
same_held {b} {x = x} {y = y} e f =
    ap nat_abs
    (sym (-ℤ-+ℤ_cancel (pos x) (pos b)) ∙ ap (λ z. z +ℤ pos b) (sym e.is ∙ f.is) ∙ -ℤ-+ℤ_cancel (pos y) (pos b))

length_state : (vs : List Var) (n : ℕ) → length (state_at vs n) ≡ length vs
unfolding state_at
length_state [] n = refl
length_state (v ∷ vs) n = ap suc (length_state vs _)

-- values as they are held, by the digits of a number
module _ {vs : List Var} {lows highs : List ℕ} (ranges : Ranges vs lows highs) (good : GoodRanges vs) (n : ℕ)
    (lower : n < count vs) where
  pub held_up : (k : ℕ) → k < length vs → Shifted 128 (get_or (state_at vs n) k (pos 0)) (get_or lows k 0 + digit vs n k)
  held_up k h =
      let p = place ranges good k h in
      rw (value_at vs n k p.var lower p.there) (shifted_up p.low_held (digit vs n k))

  pub value_small : (k : ℕ) → k < length vs → get_or lows k 0 + digit vs n k ≤ 255
  value_small k h =
      let p = place ranges good k h in
      omega (arith, digit_less vs n k p.var p.left, p.sized, p.ordered, p.high_small)

  pub held_digit : {xs : List ℕ} → Biased vs (state_at vs n) xs → (k : ℕ) → k < length vs
      → get_or xs k 0 ≡ get_or lows k 0 + digit vs n k
  unfolding Offset
  held_digit biased k h = same_held (record { is = biased.held k h }) (held_up k h)

  pub digits_held : (xs : List ℕ) → length vs ≤ 6 → length xs ≡ 6
      → ((k : ℕ) → k < length vs → get_or xs k 0 ≡ get_or lows k 0 + digit vs n k)
      → ((k : ℕ) → k < 6 → length vs ≤ k → get_or xs k 0 ≡ 128) → Biased vs (state_at vs n) xs
  unfolding Offset
  digits_held xs few six each rest =
      record {
        few = few;
        each_value = length_state vs n;
        slots = six;
        held = λ k h. rw (each k h) (held_up k h).is;
        small = λ k.
            split (ltb k (length vs))
            (λ t. let h = ltb-true k (length vs) t in omega (arith, each k h, value_small k h))
            (λ t. split (ltb k 6) (λ l. omega (arith, rest k (ltb-true k 6 l) (ltb-false k (length vs) t)))
            (λ l. omega (arith, six, get_or-eq_default xs 0 (ltb-false k (length xs) (rw six l)))));
        unused = rest;
      }

-- what is left behind k variables, and the value of the next, in sixteen bits and without a limit
module _ {vs : List Var} {lows highs weights : List ℕ} (w : Weighing vs lows highs weights) (n : ℕ)
    (lower : n < count vs) where
  rest_is : (k : ℕ) → k ≤ length vs → rest_in weights n k ≡ n % count (drop k vs)
  unfolding rest_in
  rest_is zero h = sym (mod-eq_of_lt lower)
  rest_is (suc k) h =
      let i = at_index vs k (omega arith) in
      ap₂ (λ (a b : ℕ). a % b) (rest_is k (omega arith)) (w.weigh k (omega arith))
      ∙ mod-mod_of_dvd (count (drop (suc k) vs)) n (rw (count_at vs k i.0 i.2) (dvd-mul_left _ _))

  pub value_is : (limit : ℕ → ℕ) → ((m : ℕ) → m < 65536 → limit m ≡ m) → (k : ℕ) → k < length vs
      → value_in limit lows weights n k ≡ get_or lows k 0 + digit vs n k
  unfolding value_in
  value_is limit keeps k h =
      let quotient : rest_in weights n k / get_or weights k 0 ≡ digit vs n k =
      ap₂ (λ (a b : ℕ). a / b) (rest_is k (omega arith)) (w.weigh k h) in
      ap (λ (x : ℕ). limit (get_or lows k 0 + x)) quotient
      ∙ keeps _ (omega (arith, value_small w.ranges w.good n lower k h))

pub wrapped_keeps : (n : ℕ) → n < 65536 → wrapped n ≡ n
unfolding wrapped
wrapped_keeps n h = mod-eq_of_lt h

pub unlimited_keeps : (n : ℕ) → n < 65536 → unlimited n ≡ n
unlimited_keeps n h = refl
