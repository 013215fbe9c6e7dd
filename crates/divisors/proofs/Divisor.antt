-- Divisors by what is held of them: a variable's lowest value by its slot, and what the kind at the front says of the atom
-- that is read there; and 15 as a pass.
use Prim.Native.Nat.{ℕ, zero, suc, ◌+◌, ◌≤◌, ◌<◌}
use native.Mathlib.Omega.{arith}
use mathlib.Core.Path.{◌≡◌, refl, sym, ap, ◌∙◌}
use mathlib.Core.Bool.{Bool, true, false, ◌&&◌}
use mathlib.Core.List.{List, [], ◌∷◌}
use mathlib.Core.Option.{Option, none, some}
use native.Mathlib.Numerals.{add-one}
use lib.ListN.{length, get_or, drop, get_elem?, length-map, drop_of_length-le, get_or-eq_default}
use lib.Dec.{ltb, eqb}
use lib.IntN.{pos, neg_ℤ, ◌-ℤ◌, +ℤ_assoc}
use borrow.Author.Tests.{lt-ltb, le-ltb, ltb-true, ltb-false, eq-eqb, ne_eqb}
use Rattle.syntax.specs.Token.{Lexeme, name, key, number, mark, minus, Mark, Keyword, k_mod, Token, lexemes}
use Rattle.syntax.specs.Tree.{Var}
use Rattle.syntax.specs.Decide.Lexeme.{is_key, is_mark, is_name, mark_number}
use Rattle.syntax.specs.Decide.Reading.{stuck, onwards, ◌>>=◌, give, begins, rest, choose, expect, read_name, read_number}
use Rattle.syntax.specs.Decide.Reading.{read_int, read_atom}
use Rattle.syntax.specs.Held.Kind.{kind_of, name_kind, number_kind, no_kind, Kinds}
use Rattle.syntax.proofs.ByKind.{is_number, is_name_lem, is_number_lem, is_mark_lem, kind_mark, kind_number}
use Rattle.meaning.specs.Value.{int_of, negative, less, value_of, atom_value}
use Rattle.meaning.specs.State.{lowest}
use Rattle.meaning.specs.Held.{Offset}
use Rattle.meaning.specs.Decide.Check.{asks, low_divisor, unvalued}
use Rattle.meaning.proofs.Integers.{negative_difference}
use Rattle.meaning.proofs.Remainders.{less_pos}
use Rattle.logic.proofs.Bools.{split}
use Rattle.logic.proofs.Indices.{at_index, elem_map}
use Rattle.passes.proofs.ByIndex.{Pass}
use Rattle.evaluator.specs.Coding.{slot_of}
use Rattle.evaluator.proofs.Slots.{slot_value}
use Rattle.divisors.specs.Coded.{Lowest, Coded}

-- The lowest values

lowest_length : (vs : List Var) → length (lowest vs) ≡ length vs
unfolding lowest
lowest_length [] = refl
lowest_length (v ∷ vs) = ap suc (lowest_length vs)

lowest_at : (vs : List Var) (k : ℕ) → k < length vs
    → (v : Var) × (get_elem? vs k ≡ some v) × (get_or (lowest vs) k (pos 0) ≡ int_of v.low)
unfolding lowest
lowest_at [] k h = absurd (omega arith)
lowest_at (v ∷ vs) zero h = (v, refl, refl)
lowest_at (v ∷ vs) (suc k) h = lowest_at vs k (omega arith)

-- a value with 128 added is below 1 exactly where it is held below 129
held_below_1 : (n : ℕ) → less (pos n -ℤ pos 128) (pos 1) ≡ ltb n 129
unfolding less
held_below_1 n = ap negative (+ℤ_assoc (pos n) (neg_ℤ (pos 128)) (neg_ℤ (pos 1))) ∙ negative_difference n 129

module _ {vs : List Var} {lows : List ℕ} {count slot : ℕ} (x : List ℕ) (low : Lowest vs lows count)
    (is : slot ≡ slot_of vs x) where
  value_is : value_of vs (lowest vs) x ≡ get_or (lowest vs) slot (pos 0)
  value_is =
      slot_value vs (lowest vs) x (lowest_length vs) ∙ ap (λ (k : ℕ). get_or (lowest vs) k (pos 0)) (sym is)

  pub undeclared : count ≤ slot → less (value_of vs (lowest vs) x) (pos 1) ≡ true
  undeclared h =
      ap (λ z. less z (pos 1))
      (value_is ∙ get_or-eq_default (lowest vs) (pos 0) (omega (arith, low.counted, lowest_length vs)))
      ∙ less_pos 0 1 ∙ lt-ltb 0 1 (omega arith)

  pub declared : slot < count → less (value_of vs (lowest vs) x) (pos 1) ≡ ltb (get_or lows slot 0) 129
  unfolding Offset
  declared h =
      let (v, at, value) = lowest_at vs slot (omega (arith, low.counted)) in
      ap (λ z. less z (pos 1)) (value_is ∙ value ∙ low.held slot v at) ∙ held_below_1 (get_or lows slot 0)

-- What is read in front

pub of_nothing : (vs : List Var) → low_divisor vs (read_atom []) ≡ false
unfolding low_divisor read_atom read_int read_number choose begins ◌>>=◌ onwards
of_nothing vs = refl

pub of_name : (vs : List Var) (x : List ℕ) (ls : List Lexeme)
    → low_divisor vs (read_atom (name x ∷ ls)) ≡ less (value_of vs (lowest vs) x) (pos 1)
unfolding low_divisor read_atom read_name choose begins is_name give ◌>>=◌ onwards atom_value
of_name vs x ls = refl

pub of_number : (vs : List Var) (n : ℕ) (ls : List Lexeme) → low_divisor vs (read_atom (number n ∷ ls)) ≡ eqb n 0
unfolding low_divisor read_atom read_int read_number choose begins is_name is_mark give ◌>>=◌ onwards atom_value int_of
of_number vs n ls = less_pos n 1 ∙ below_one n
  where
    below_one : (n : ℕ) → ltb n 1 ≡ eqb n 0
    below_one zero = lt-ltb 0 1 (omega arith) ∙ sym (eq-eqb 0 0 refl)
    below_one (suc n) = le-ltb (suc n) 1 (omega arith) ∙ sym (ne_eqb (suc n) 0 (λ e. omega arith))

negated_low : (n : ℕ) → less (neg_ℤ (pos n)) (pos 1) ≡ true
unfolding less negative
negated_low zero = refl
negated_low (suc n) = refl

pub of_minus : (vs : List Var) (ls : List Lexeme)
    → low_divisor vs (read_atom (mark minus ∷ ls)) ≡ begins is_number ls
unfolding low_divisor read_atom read_int read_number choose expect begins rest is_name is_mark is_number mark_number give ◌>>=◌ onwards atom_value int_of
of_minus vs [] = refl
of_minus vs (name x ∷ ls) = refl
of_minus vs (key k ∷ ls) = refl
of_minus vs (number n ∷ ls) = negated_low n
of_minus vs (mark m ∷ ls) = refl

pub of_key : (vs : List Var) (k : Keyword) (ls : List Lexeme) → low_divisor vs (read_atom (key k ∷ ls)) ≡ false
unfolding low_divisor read_atom read_int read_number choose begins is_name is_mark ◌>>=◌ onwards
of_key vs k ls = refl

pub of_mark : (vs : List Var) (m : Mark) (ls : List Lexeme) → is_mark minus (mark m) ≡ false
    → low_divisor vs (read_atom (mark m ∷ ls)) ≡ false
unfolding low_divisor read_atom read_int read_number choose begins is_name ◌>>=◌ onwards
of_mark vs m ls h = let e : read_atom (mark m ∷ ls) ≡ stuck (mark m ∷ ls) = rw (choose, h) in ap (low_divisor vs) e

other_front : (vs : List Var) (l : Lexeme) (ls : List Lexeme) → (kind_of l ≡ name_kind → ⊥) → (kind_of l ≡ number_kind → ⊥)
    → (kind_of l ≡ kind_of (mark minus) → ⊥) → low_divisor vs (read_atom (l ∷ ls)) ≡ false
unfolding kind_of
other_front vs (name x) ls p q r = absurd (p refl)
other_front vs (key k) ls p q r = of_key vs k ls
other_front vs (number n) ls p q r = absurd (q refl)
other_front vs (mark m) ls p q r =
    of_mark vs m ls (kind_mark minus (mark m) ∙ ne_eqb (kind_of (mark m)) (kind_of (mark minus)) r)

-- What is held in front

module _ {vs : List Var} {ls : List Lexeme} {kinds operands lows : List ℕ} {count : ℕ}
    (c : Coded vs ls kinds operands lows count) (at : ℕ) where
  abbrev Divisor : Bool
  Divisor = low_divisor vs (read_atom (drop at ls))

  same_length : length ls ≡ length kinds
  unfolding Kinds
  same_length = sym (length-map ls kind_of) ∙ ap length c.codes.by_kind

  pub operands_long : length operands ≡ length kinds
  operands_long = c.codes.as_long

  -- the lexeme there, by its kind
  record Here (l : Lexeme) : Type 0 where
    left : drop at ls ≡ l ∷ drop (suc at) ls
    elem : get_elem? ls at ≡ some l
    kind : get_or kinds at 0 ≡ kind_of l

  here : at < length kinds → (l : Lexeme) × Here l
  unfolding Kinds
  here h =
      let (l, e, d) = at_index ls at (omega (arith, same_length)) in (
        l,
        record {
          left = d;
          elem = e;
          kind = ap (λ (ks : List ℕ). get_or ks at 0) (sym c.codes.by_kind) ∙ elem_map kind_of ls at l 0 e;
        },
      )

  pub at_end_lem : length kinds ≤ at → Divisor ≡ false
  at_end_lem h =
      ap (λ (us : List Lexeme). low_divisor vs (read_atom us)) (drop_of_length-le ls {i = at} (omega (arith, same_length)))
      ∙ of_nothing vs

  in_front : {l : Lexeme} → Here l → Divisor ≡ low_divisor vs (read_atom (l ∷ drop (suc at) ls))
  in_front f = ap (λ (us : List Lexeme). low_divisor vs (read_atom us)) f.left

  pub at_name : at < length kinds → get_or kinds at 0 ≡ name_kind
      → (x : List ℕ) × (get_or operands at 0 ≡ slot_of vs x) × (Divisor ≡ less (value_of vs (lowest vs) x) (pos 1))
  at_name h k =
      let (l, f) = here h in
      let (x, is) = is_name_lem l (sym f.kind ∙ k) in
      (x, c.codes.by_name at x (f.elem ∙ ap some is), in_front f ∙ ap (λ (i : Lexeme). low_divisor vs (read_atom (i ∷ drop (suc at) ls))) is ∙ of_name vs x (drop (suc at) ls))

  pub at_number : at < length kinds → get_or kinds at 0 ≡ number_kind → Divisor ≡ eqb (get_or operands at 0) 0
  at_number h k =
      let (l, f) = here h in
      let (n, is) = is_number_lem l (sym f.kind ∙ k) in
      in_front f ∙ ap (λ (i : Lexeme). low_divisor vs (read_atom (i ∷ drop (suc at) ls))) is
      ∙ of_number vs n (drop (suc at) ls)
      ∙ ap (λ (i : ℕ). eqb i 0) (sym (c.codes.by_number at n (f.elem ∙ ap some is)))

  number_next : begins is_number (drop (suc at) ls) ≡ eqb (get_or kinds (at + 1) no_kind) number_kind
  unfolding begins Kinds
  number_next = rw add-one (split (ltb (suc at) (length ls))
      (λ t.
      let (l, e, d) = at_index ls (suc at) (ltb-true (suc at) (length ls) t) in
      let k = ap (λ (ks : List ℕ). get_or ks (suc at) no_kind) (sym c.codes.by_kind) ∙ elem_map kind_of ls (suc at) l no_kind e in
      ap (begins is_number) d ∙ kind_number l ∙ ap (λ (i : ℕ). eqb i number_kind) (sym k))
      (λ t.
      let past = ltb-false (suc at) (length ls) t in
      let none_left : drop (suc at) ls ≡ [] = drop_of_length-le ls {i = suc at} (omega arith) in
      let default : get_or kinds (suc at) no_kind ≡ no_kind = get_or-eq_default kinds no_kind (omega (arith, same_length)) in
      ap (begins is_number) none_left ∙ sym (ap (λ (i : ℕ). eqb i number_kind) default ∙ ne_eqb no_kind number_kind (λ z. omega arith))))

  pub at_minus : at < length kinds → get_or kinds at 0 ≡ kind_of (mark minus)
      → Divisor ≡ eqb (get_or kinds (at + 1) no_kind) number_kind
  at_minus h k =
      let (l, f) = here h in
      in_front f
      ∙ ap (λ (i : Lexeme). low_divisor vs (read_atom (i ∷ drop (suc at) ls))) (is_mark_lem minus l (sym f.kind ∙ k))
      ∙ of_minus vs (drop (suc at) ls) ∙ number_next

  pub at_other : at < length kinds → (get_or kinds at 0 ≡ name_kind → ⊥) → (get_or kinds at 0 ≡ number_kind → ⊥)
      → (get_or kinds at 0 ≡ kind_of (mark minus) → ⊥) → Divisor ≡ false
  at_other h no_name no_number no_minus =
      let (l, f) = here h in
      in_front f ∙ go l (λ e. no_name (f.kind ∙ e)) (λ e. no_number (f.kind ∙ e)) (λ e. no_minus (f.kind ∙ e))
    where
      go : (l : Lexeme) → (kind_of l ≡ name_kind → ⊥) → (kind_of l ≡ number_kind → ⊥) → (kind_of l ≡ kind_of (mark minus) → ⊥)
          → low_divisor vs (read_atom (l ∷ drop (suc at) ls)) ≡ false
      go l p q r = other_front vs l (drop (suc at) ls) p q r

-- 15 as a pass

pub lexemes_left : (ts : List Token) (k : ℕ) → drop k (lexemes ts) ≡ lexemes (drop k ts)
unfolding lexemes
lexemes_left [] zero = refl
lexemes_left [] (suc k) = refl
lexemes_left (t ∷ ts) zero = refl
lexemes_left (t ∷ ts) (suc k) = lexemes_left ts k

pub none_left : (vs : List Var) (on : Bool) → unvalued vs on [] ≡ none
unfolding unvalued
none_left vs on = refl

pub one_more : (vs : List Var) (on : Bool) (t : Token) (ts : List Token)
    → unvalued vs on (t ∷ ts)
    ≡ elim (on && is_key k_mod t.lexeme && low_divisor vs (read_atom (lexemes ts))) as (λ b. Option ℕ)
    [ true ↦ some t.at | false ↦ unvalued vs (asks on t.lexeme) ts ]
unfolding unvalued
one_more vs on t ts = refl

abbrev pub valuing : List Var → Pass Bool
valuing vs =
    record {
      find = λ on ts. unvalued vs on ts;
      test = λ on l ts. on && is_key k_mod l && low_divisor vs (read_atom (lexemes ts));
      next = λ on l. asks on l;
      nothing = λ on. none_left vs on;
      token = λ on t ts. one_more vs on t ts;
    }
