-- States and their numbers match one to one, by induction on the variables: below the count of states each number has
-- its state, and each state a number; and the numbers rise with the values, the first variable's first.
use Prim.Native.Nat.{ℕ, ◌+◌, ◌*◌, ◌/◌, ◌%◌, ◌<◌}
use native.Mathlib.Omega.{arith}
use native.Mathlib.Nat.{div-add-mod', mod-lt, div-lt_iff_lt-mul, mul-add-div_right, mul-add-mod_self_right}
use native.Mathlib.Nat.{mod-eq_of_lt, div-eq_of_lt, mul-pos, mul-le-mul_right, suc-mul, add-zero}
use mathlib.Core.Path.{◌≡◌, refl, sym, ap, ap₂, ◌∙◌}
use mathlib.Core.Bool.{true, false}
use mathlib.Core.Logic.{◌↔◌}
use mathlib.Core.List.{List, [], ◌∷◌}
use lib.IntN.{ℤ, nat_abs, ◌-ℤ◌}
use borrow.Author.Tests.{ltb-true}
use Rattle.syntax.specs.Tree.{Var}
use Rattle.meaning.specs.Value.{int_of, in_range, less}
use Rattle.meaning.specs.State.{size, count, state_at, number_of, Earlier, by_first, by_rest, starts}
use Rattle.meaning.specs.Accepted.{AtMost, GoodRange, GoodRanges, no_vars, one_var}
use Rattle.meaning.specs.Runs.{State, no_values, one_value}
use Rattle.logic.proofs.Bools.{and, split, true_not}
use Rattle.meaning.proofs.Integers.{up_distance, in_range_up, up_of_in_range, distance_in_range}
use Rattle.meaning.proofs.Integers.{distances_ordered, equal_of_not_less}

low_to_high : {v : Var} → GoodRange v → less (int_of v.high) (int_of v.low) ≡ false
unfolding AtMost
low_to_high g = g.ordered

pub size_pos : (v : Var) → 0 < size v
unfolding size
size_pos v = omega arith

pub count_pos : (vs : List Var) → 0 < count vs
unfolding count
count_pos [] = omega arith
count_pos (v ∷ vs) = mul-pos (size_pos v) (count_pos vs)

pub state_at_lem : {vs : List Var} → GoodRanges vs → (n : ℕ) → n < count vs → State vs (state_at vs n)
unfolding count state_at
state_at_lem no_vars n h = no_values
state_at_lem (one_var {v} {vs} g gs) n h =
    one_value (in_range_up v (low_to_high g) (n / count vs) ((div-lt_iff_lt-mul (count_pos vs)).1 h))
    (state_at_lem gs (n % count vs) (mod-lt n (count_pos vs)))

pub number_of_state_at : (vs : List Var) (n : ℕ) → n < count vs → number_of vs (state_at vs n) ≡ n
unfolding count state_at number_of
number_of_state_at [] n h = omega arith
number_of_state_at (v ∷ vs) n h =
    ap₂ (λ a b. a * count vs + b) (up_distance (int_of v.low) (n / count vs))
    (number_of_state_at vs (n % count vs) (mod-lt n (count_pos vs)))
    ∙ div-add-mod' n (count vs)

pub number_below : {vs : List Var} {as' : List ℤ} → GoodRanges vs → State vs as' → number_of vs as' < count vs
unfolding count number_of
number_below no_vars no_values = omega arith
number_below (one_var {v} {vs} g gs) (one_value {a = a} r s) =
    let lower = number_below gs s in
    let top = mul-le-mul_right (count vs) (distance_in_range v (low_to_high g) a r) in
    let sum = suc-mul (nat_abs (a -ℤ int_of v.low)) (count vs) in
    omega arith

pub state_at_number : {vs : List Var} {as' : List ℤ} → GoodRanges vs → State vs as' → state_at vs (number_of vs as') ≡ as'
unfolding state_at number_of
state_at_number no_vars no_values = refl
state_at_number (one_var {v} {vs} g gs) (one_value {a = a} {as' = as'} r s) =
    let below = number_below gs s in
    rw (
      mul-add-div_right (count_pos vs),
      div-eq_of_lt below,
      add-zero,
      mul-add-mod_self_right,
      mod-eq_of_lt below,
      ← up_of_in_range v (low_to_high g) a r,
      state_at_number gs s,
    )

-- the later variables weigh less, all together, than one step of the first
step_weighs : (i j c x y : ℕ) → i < j → x < c → i * c + x < j * c + y
step_weighs i j c x y h l =
    let top = mul-le-mul_right c h in
    let sum = suc-mul i c in
    omega arith

earlier_lower : {vs : List Var} {as' bs : List ℤ} → Earlier as' bs → State vs as' → State vs bs → GoodRanges vs
    → number_of vs as' < number_of vs bs
unfolding number_of
earlier_lower (by_first {a} {b} {as'} {bs} h) (one_value p s) (one_value q t) (one_var {v} {vs} g gs) =
    let i = nat_abs (a -ℤ int_of v.low) in
    let j = nat_abs (b -ℤ int_of v.low) in
    step_weighs i j (count vs) (number_of vs as') (number_of vs bs)
    (ltb-true i j (sym (distances_ordered v (low_to_high g) a b p q) ∙ h)) (number_below gs s)
earlier_lower (by_rest h) (one_value p s) (one_value q t) (one_var g gs) = omega (arith, earlier_lower h s t gs)

lower_earlier : {vs : List Var} {as' bs : List ℤ} → GoodRanges vs → State vs as' → State vs bs
    → number_of vs as' < number_of vs bs → Earlier as' bs
unfolding number_of
lower_earlier no_vars no_values no_values h = absurd (omega arith)
lower_earlier (one_var {v} {vs} g gs) (one_value {a = a} {as' = as'} p s) (one_value {a = b} {as' = bs} q t) h =
    split (less a b) (λ e. by_first e)
    (λ e. split (less b a)
    (λ f. absurd (omega (arith, earlier_lower (by_first f) (one_value q t) (one_value p s) (one_var g gs))))
    (λ f. equal (equal_of_not_less a b e f) (lower_earlier gs s t)))
  where
    equal : a ≡ b → (number_of vs as' < number_of vs bs → Earlier as' bs) → Earlier (a ∷ as') (b ∷ bs)
    equal e rest =
        let same = ap (λ (z : ℤ). nat_abs (z -ℤ int_of v.low) * count vs) e in
        rw e (by_rest (rest (omega arith)))

-- of two states one is earlier exactly when it has the lower number
pub earlier_iff : {vs : List Var} {as' bs : List ℤ} → GoodRanges vs → State vs as' → State vs bs
    → Earlier as' bs ↔ (number_of vs as' < number_of vs bs)
earlier_iff g s t = (λ h. earlier_lower h s t g, lower_earlier g s t)

start_in_range : (v : Var) → GoodRange v → in_range v (int_of v.start) ≡ true
unfolding AtMost in_range
start_in_range v g = and (true_not g.start_above) (true_not g.start_below)

pub starts_state : {vs : List Var} → GoodRanges vs → State vs (starts vs)
unfolding starts
starts_state no_vars = no_values
starts_state (one_var {v} g gs) = one_value (start_in_range v g) (starts_state gs)
