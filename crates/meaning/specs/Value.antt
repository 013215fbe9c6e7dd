-- What expressions and conditions mean: values are whole numbers, one for each variable in the order of the
-- declarations (R 3.11, 4.1). A remainder may lack a value, and so may all that it is a part of. What bodies do is
-- `BlockRuns` in `Runs`.
use Rattle.std.specs.Prelude.{ℕ, zero, suc, ◌-◌, ◌%◌, ◌≡◌, Bool, true, false, not, ◌&&◌, ◌||◌, List, [], ◌∷◌, ℤ, pos, negsuc, neg_ℤ, ◌+ℤ◌, ◌-ℤ◌, ◌*ℤ◌}
use Rattle.std.proofs.Math.Option.{Option, none, some}
use Rattle.syntax.specs.Bytes.{same_bytes}
use Rattle.syntax.specs.Tree.{Int, plain, negated, Atom, literal, variable, Sign, added, taken, Term, alone, remainder}
use Rattle.syntax.specs.Tree.{Signed, Expr, Comparison, eq, ne, lt, le, gt, ge, Cond, only, or, Conj, just, and, Simple, negation, bracketed}
use Rattle.syntax.specs.Tree.{constant, compare, Var}

-- the value of an integer (R 4.2)
unfoldable pub int_of : Int → ℤ
int_of (plain n) = pos n
int_of (negated n) = neg_ℤ (pos n)

unfoldable pub negative : ℤ → Bool
negative (pos n) = false
negative (negsuc n) = true

unfoldable pub less : ℤ → ℤ → Bool
less a b = negative (a -ℤ b)

-- (R 4.7)
unfoldable pub compares : Comparison → ℤ → ℤ → Bool
compares eq a b = not (less a b || less b a)
compares ne a b = less a b || less b a
compares lt a b = less a b
compares le a b = not (less b a)
compares gt a b = less b a
compares ge a b = not (less a b)

-- the value of a variable (R 4.3); of a name that is none, 0 (R 4.20)
unfoldable pub value_of : List Var → List ℤ → List ℕ → ℤ
value_of [] as' x = pos 0
value_of (v ∷ vs) [] x = pos 0
value_of (v ∷ vs) (a ∷ as') x = elim (same_bytes v.title x) [ true ↦ a | false ↦ value_of vs as' x ]

-- from the lowest to the highest, both included (R 3.12)
unfoldable pub in_range : Var → ℤ → Bool
in_range v a = not (less a (int_of v.low)) && not (less (int_of v.high) a)

-- (R 4.2, 4.3)
unfoldable pub atom_value : List Var → List ℤ → Atom → ℤ
atom_value vs as' (literal i) = int_of i
atom_value vs as' (variable x) = value_of vs as' x

-- Remainders

-- the value of `a mod b` in words: it "lies from 0 to the divisor less one and differs from the left side by a multiple of
-- the divisor" (R 4.21)
pub record IsRemainder (a b r : ℤ) : Type 0 where
  pub least : less r (pos 0) ≡ false
  pub most : less r b ≡ true
  pub multiple : ℤ
  pub differs : a ≡ r +ℤ multiple *ℤ b

-- the remainder by n + 1, computed: of 0, 1 and so on it rises from 0, of -1, -2 and so on it falls from n
unfoldable pub remainder_by : ℕ → ℤ → ℕ
remainder_by n (pos k) = k % suc n
remainder_by n (negsuc k) = n - k % suc n

-- the value of a remainder, computed; "With a divisor below 1 an expression has no value" (R 4.21, 4.22)
unfoldable pub modulo : ℤ → ℤ → Option ℤ
modulo a (pos zero) = none
modulo a (pos (suc n)) = some (pos (remainder_by n a))
modulo a (negsuc n) = none

-- What lacks a value, where a part lacks one

-- of one part
unfoldable pub of_one : {A B : Type 0} → (A → B) → Option A → Option B
of_one f none = none
of_one f (some a) = some (f a)

-- of two parts, both evaluated (R 4.23, 4.24)
unfoldable pub of_both : {A B C : Type 0} → (A → B → C) → Option A → Option B → Option C
of_both f none b = none
of_both f (some a) b = of_one (f a) b

-- Expressions

-- (R 4.21, 4.22)
unfoldable pub term_value : List Var → List ℤ → Term → Option ℤ
term_value vs as' (alone a) = some (atom_value vs as' a)
term_value vs as' (remainder a b) = modulo (atom_value vs as' a) (atom_value vs as' b)

-- added or subtracted by its sign (R 4.4)
unfoldable pub joined : Sign → ℤ → ℤ → ℤ
joined added a b = a +ℤ b
joined taken a b = a -ℤ b

-- "taken from the left" (R 4.4, 4.5, 4.23)
unfoldable pub terms_value : List Var → List ℤ → Option ℤ → List Signed → Option ℤ
terms_value vs as' a [] = a
terms_value vs as' a (t ∷ ts) = terms_value vs as' (of_both (joined t.sign) a (term_value vs as' t.term)) ts

-- (R 4.4, 4.5, 4.23)
unfoldable pub expr_value : List Var → List ℤ → Expr → Option ℤ
expr_value vs as' e = terms_value vs as' (term_value vs as' e.first) e.more

-- Conditions: "Both sides of `&&` and `||` are always evaluated"

unfoldable mutual
  -- (R 4.9, 4.24)
  pub cond_value : Cond → List Var → List ℤ → Option Bool
  cond_value (only c) vs as' = conj_value c vs as'
  cond_value (or c d) vs as' = of_both ◌||◌ (conj_value c vs as') (cond_value d vs as')

  -- (R 4.9, 4.24)
  pub conj_value : Conj → List Var → List ℤ → Option Bool
  conj_value (just s) vs as' = simple_value s vs as'
  conj_value (and s c) vs as' = of_both ◌&&◌ (simple_value s vs as') (conj_value c vs as')

  -- (R 4.7, 4.8, 4.23)
  pub simple_value : Simple → List Var → List ℤ → Option Bool
  simple_value (negation s) vs as' = of_one not (simple_value s vs as')
  simple_value (bracketed c) vs as' = cond_value c vs as'
  simple_value (constant b) vs as' = some b
  simple_value (compare e o f) vs as' = of_both (compares o) (expr_value vs as' e) (expr_value vs as' f)

-- a value that is there and true (R 4.20)
unfoldable pub is_true : Option Bool → Bool
is_true none = false
is_true (some b) = b

-- the truth of a condition: it has the value true (R 4.20). Behind 15 no condition of keep, a try or a guard lacks a value,
-- so that false there is the value false (R 4.26)
unfoldable pub truth : Cond → List Var → List ℤ → Bool
truth c vs as' = is_true (cond_value c vs as')
