-- What a place's kind and value say of the lexemes from it on.
use Prim.Native.Nat.{ℕ, zero, suc, ◌+◌, ◌-◌, ◌<◌}
use native.Mathlib.Omega.{arith}
use native.Mathlib.Decide.{dec_lt}
use lib.Dec.{eqb}
use mathlib.Core.Bool.{false}
use borrow.Author.Tests.{eqb-false}
use mathlib.Core.Path.{◌≡◌, refl, sym, ap, ◌∙◌}
use mathlib.Core.List.{List, [], ◌∷◌, ◌++◌, map}
use mathlib.Core.Option.{some}
use lib.ListN.{length, get_or, drop, get_elem?, length-map, length-drop, length-append, get_or-eq_default}
use Rattle.syntax.specs.Token.{Lexeme, name, number}
use Rattle.syntax.specs.Held.Kind.{kind_of, no_kind}
use Rattle.syntax.specs.Tree.{Var}
use Rattle.evaluator.specs.Coding.{Codes, slot_of}
use Rattle.syntax.specs.Held.Kind.{Kinds}
use Rattle.evaluator.specs.Promises.{Next, front_kind}

front_map : (ls : List Lexeme) (at : ℕ) → get_or (map kind_of ls) at no_kind ≡ front_kind (drop at ls)
unfolding front_kind
front_map [] zero = refl
front_map [] (suc at) = refl
front_map (l ∷ ls) zero = refl
front_map (l ∷ ls) (suc at) = front_map ls at

drop_more : (ls : List Lexeme) (at : ℕ) {l : Lexeme} {xs : List Lexeme} → drop at ls ≡ l ∷ xs
    → (drop (suc at) ls ≡ xs) × (get_elem? ls at ≡ some l) × (at < length ls)
drop_more [] zero e = let z : ◌≡◌ {A = ℕ} 0 1 = cc in absurd (omega arith)
drop_more [] (suc at) e = let z : ◌≡◌ {A = ℕ} 0 1 = cc in absurd (omega arith)
drop_more (k ∷ ls) zero e = (cc, cc, omega arith)
drop_more (k ∷ ls) (suc at) e = let t = drop_more ls at e in (t.0, t.1, omega (arith, t.2))

kinds_front : (ls : List Lexeme) (ks : List ℕ) → Kinds ls ks → (at : ℕ) → get_or ks at no_kind ≡ front_kind (drop at ls)
unfolding Kinds
kinds_front ls ks kinds at = ap (λ (l : List ℕ). get_or l at no_kind) (sym kinds) ∙ front_map ls at

kinds_length : (ls : List Lexeme) (ks : List ℕ) → Kinds ls ks → length ls ≡ length ks
unfolding Kinds
kinds_length ls ks kinds = sym (length-map ls kind_of) ∙ ap length kinds

module _ {vs : List Var} {ls : List Lexeme} {ks values : List ℕ} (codes : Codes vs ls ks values) where
  pub same_length : length ls ≡ length ks
  same_length = kinds_length ls ks codes.by_kind

  -- the kind at a place is that of the lexeme there
  pub front_is : (at : ℕ) {k : ℕ} {xs : List Lexeme} → get_or ks at no_kind ≡ k → drop at ls ≡ xs → front_kind xs ≡ k
  front_is at h e = ap front_kind (sym e) ∙ sym (kinds_front ls ks codes.by_kind at) ∙ h

  -- the place behind a lexeme
  pub behind : {at r : ℕ} {l : Lexeme} {xs : List Lexeme} → Next ks at r → drop at ls ≡ l ∷ xs → drop r ls ≡ xs
  behind {at} n e =
      let t = drop_more ls at e in
      ap (λ (k : ℕ). drop k ls) (n.one_more (omega (arith, t.2, same_length))) ∙ t.0

  -- what is held at a number's and at a name's place
  pub number_at : (at n : ℕ) {xs : List Lexeme} → drop at ls ≡ number n ∷ xs → get_or values at 0 ≡ n
  number_at at n e = codes.by_number at n (drop_more ls at e).1

  pub name_at : (at : ℕ) (x : List ℕ) {xs : List Lexeme} → drop at ls ≡ name x ∷ xs → get_or values at 0 ≡ slot_of vs x
  name_at at x e = codes.by_name at x (drop_more ls at e).1

-- no number is two numerals
pub apart : {A : Type 0} (m n : ℕ) {k : ℕ} → eqb m n ≡ false → k ≡ m → k ≡ n → A
apart m n d h e = absurd (eqb-false m n d (sym h ∙ e))

-- a place with a kind is one of a token, and the next is one more
pub kind_within : {ks : List ℕ} {at r : ℕ} (k : ℕ) → Next ks at r → get_or ks at no_kind ≡ k → eqb k no_kind ≡ false
    → (at < length ks) × (r ≡ suc at)
kind_within {ks} {at} {r} k next kind other = elim (dec_lt at (length ks)) [
  | yes h ↦ (h, next.one_more h)
  | no h ↦ apart k no_kind other kind (get_or-eq_default ks no_kind (omega arith))
]

pub kind_here : (ks : List ℕ) (at : ℕ) → (get_or ks at no_kind ≡ no_kind → ⊥) → at < length ks
kind_here ks at other = elim (dec_lt at (length ks)) [
  | yes h ↦ h
  | no h ↦ absurd (other (get_or-eq_default ks no_kind (omega arith)))
]

-- what is spelled at a place with something behind it begins at a token
pub not_past : (ls xs ys : List Lexeme) (l : Lexeme) (at : ℕ) → drop at ls ≡ xs ++ (l ∷ ys) → at < length ls
not_past ls xs ys l at e =
    let whole : length ls - at ≡ length xs + suc (length ys) = sym (length-drop at ls) ∙ ap length e
    ∙ length-append xs (l ∷ ys) in
    omega arith
