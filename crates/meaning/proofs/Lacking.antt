-- A condition lacks a value exactly where one of its remainders does, wherever that stands: each `mod` stands between two
-- atoms of a part, and a part that lacks a value leaves none to the whole.
use Prim.Native.Nat.{ℕ, zero, suc}
use mathlib.Core.Path.{◌≡◌, refl, sym, ap, subst, ◌∙◌}
use mathlib.Core.Bool.{Bool, true, false, not, ◌&&◌, ◌||◌}
use mathlib.Core.Logic.{◌⊎◌, inl, inr, ⊎_elim, ◌↔◌}
use mathlib.Core.List.{List, [], ◌∷◌, ◌++◌, append-nil, append_assoc}
use mathlib.Core.Option.{Option, none, some, some-injective}
use lib.ListN.{get_elem?}
use lib.IntN.{ℤ, pos}
use Rattle.syntax.specs.Token.{Lexeme, name, key, number, mark, lparen, rparen, semicolon, equals, dots}
use Rattle.syntax.specs.Token.{minus, bang, and_and, or_or, k_var, k_in, k_true, k_false, k_mod}
use Rattle.syntax.specs.Decide.Lexeme.{is_key, is_mark, is_name, keyword_number, mark_number}
use Rattle.syntax.specs.Decide.Reading.{got, onwards, ◌>>=◌, give, begins, rest, choose, expect, read_name, read_number}
use Rattle.syntax.specs.Decide.Reading.{read_int, read_atom}
use Rattle.syntax.specs.Tree.{Int, plain, negated, Atom, literal, variable, Term, alone, remainder, Signed, Expr}
use Rattle.syntax.specs.Tree.{Cond, only, or, Conj, just, and, Simple, negation, bracketed, constant, compare, Var}
use Rattle.syntax.specs.Tree.{each, spell_int, spell_atom, sign_mark, spell_term, spell_signed, spell_expr, comparison_mark}
use Rattle.syntax.specs.Tree.{spell_constant, spell_cond, spell_conj, spell_simple, spell_var}
use Rattle.syntax.proofs.Lexemes.{decides_key}
use Rattle.meaning.specs.Value.{less, atom_value, of_one, of_both, term_value, joined, terms_value, expr_value}
use Rattle.meaning.specs.Value.{compares, cond_value, conj_value, simple_value}
use Rattle.meaning.specs.Valued.{Missing}
use Rattle.logic.proofs.Bools.{clash, no_some, different}
use Rattle.meaning.proofs.Remainders.{modulo_none}

-- Where an element of two lists stands: in the first, or in the second

module _ {A : Type 0} (a : A) where
  abbrev pub InFirst : List A → List A → List A → List A → Type 0
  InFirst v w before after = (rest : List A) × (v ≡ before ++ (a ∷ rest)) × (after ≡ rest ++ w)

  abbrev pub InSecond : List A → List A → List A → List A → Type 0
  InSecond v w before after = (front : List A) × (before ≡ v ++ front) × (w ≡ front ++ (a ∷ after))

  pub in_one : (v w before after : List A) → v ++ w ≡ before ++ (a ∷ after)
      → InFirst v w before after ⊎ InSecond v w before after
  in_one [] w before after e = inr (before, refl, e)
  in_one (l ∷ v) w [] after e = inl (v, cc, let q : v ++ w ≡ after = cc in sym q)
  in_one (l ∷ v) w (b ∷ before) after e =
      let head : l ≡ b = cc in
      ⊎_elim (λ t. inl (t.0, let q = t.1 in cc, t.2)) (λ t. inr (t.0, let q = t.1 in cc, t.2))
      (in_one v w before after (cc))

  -- where the one with a number stands
  pub at_number : (as' : List A) (k : ℕ) → get_elem? as' k ≡ some a → (before after : List A) × (as' ≡ before ++ (a ∷ after))
  at_number [] k e = no_some e
  at_number (b ∷ as') zero e = ([], as', let q : b ≡ a = some-injective _ _ e in cc)
  at_number (b ∷ as') (suc k) e =
      let t = at_number as' k e in (b ∷ t.0, t.1, ap {B = List A} (λ x. b ∷ x) t.2)

-- a `mod` of two texts
pub in_either : (v w before after : List Lexeme) → v ++ w ≡ before ++ (key k_mod ∷ after)
    → InFirst (key k_mod) v w before after ⊎ InSecond (key k_mod) v w before after
in_either = in_one (key k_mod)

-- no `mod` stands in a text
abbrev pub Without : List Lexeme → Type 0
Without w = (before after : List Lexeme) → w ≡ before ++ (key k_mod ∷ after) → ⊥

pub without_nil : Without []
without_nil [] after e = different (cc)
without_nil (b ∷ before) after e = different (cc)

pub without_next : (l : Lexeme) {w : List Lexeme} → is_key k_mod l ≡ false → Without w → Without (l ∷ w)
without_next l h f [] after e =
    let q : l ≡ key k_mod = cc in clash ((decides_key k_mod l).1 q) h
without_next l h f (b ∷ before) after e = f before after (cc)

pub without_join : {v w : List Lexeme} → Without v → Without w → Without (v ++ w)
without_join {v} {w} f g before after e =
    ⊎_elim (λ t. f before t.0 t.1) (λ t. g t.0 after t.2) (in_either v w before after e)

pub without_int : (i : Int) → Without (spell_int i)
unfolding spell_int is_key
without_int (plain n) = without_next (number n) refl without_nil
without_int (negated n) = without_next (mark minus) refl (without_next (number n) refl without_nil)

without_atom : (a : Atom) → Without (spell_atom a)
unfolding spell_atom is_key
without_atom (literal i) = without_int i
without_atom (variable x) = without_next (name x) refl without_nil

pub without_vars : (vs : List Var) → Without (each spell_var vs)
unfolding each spell_var is_key keyword_number
without_vars [] = without_nil
without_vars (v ∷ vs) =
    without_join (without_next (key k_var) refl (without_next (name v.title) refl (without_next (mark equals) refl
    (without_join (without_int v.start) (without_next (key k_in) refl (without_join (without_int v.low)
    (without_next (mark dots) refl (without_join (without_int v.high) (without_next (mark semicolon) refl
    without_nil))))))))) (without_vars vs)

-- An atom is read as it is spelled

pub atom_read : (a : Atom) (us : List Lexeme) → read_atom (spell_atom a ++ us) ≡ got a us
unfolding read_atom read_int read_name read_number spell_atom spell_int choose expect begins rest give ◌>>=◌ onwards is_name is_mark mark_number
atom_read (literal (plain n)) us = refl
atom_read (literal (negated n)) us = refl
atom_read (variable x) us = refl

same_atom : (a b : Atom) (us ws : List Lexeme) → spell_atom a ++ us ≡ spell_atom b ++ ws → a ≡ b
same_atom a b us ws e =
    let one = atom_read a us in
    let two = atom_read b ws in
    let both : got a us ≡ got b ws = sym one ∙ ap read_atom e ∙ two in
    cc

-- Each `mod` of a part stands between two atoms, and where it has no value the part has none

module _ (vs : List Var) (as' : List ℤ) where
  pub record Sides {A : Type 0} (o : Option A) (before after : List Lexeme) : Type 0 where
    pub front : List Lexeme
    pub back : List Lexeme
    pub left : Atom
    pub right : Atom
    pub ahead : before ≡ front ++ spell_atom left
    pub behind : after ≡ spell_atom right ++ back
    pub lacks : term_value vs as' (remainder left right) ≡ none → o ≡ none

  -- the value of a text, with what stands on either side of each of its `mod`s
  abbrev pub Valued : {A : Type 0} → Option A → List Lexeme → Type 0
  Valued o w = (before after : List Lexeme) → w ≡ before ++ (key k_mod ∷ after) → Sides o before after

  module _ {A B : Type 0} {o : Option A} {p : Option B} (pass : o ≡ none → p ≡ none) where
    -- with more on the left, and with more on the right
    more_left : (v : List Lexeme) {before after : List Lexeme} → Sides o before after → Sides p (v ++ before) after
    more_left v s = record {
      front = v ++ s.front;
      back = s.back;
      left = s.left;
      right = s.right;
      ahead = ap (λ (x : List Lexeme). v ++ x) s.ahead ∙ sym (append_assoc v s.front (spell_atom s.left));
      behind = s.behind;
      lacks = λ h. pass (s.lacks h);
    }

    more_right : (w : List Lexeme) {before after : List Lexeme} → Sides o before after → Sides p before (after ++ w)
    more_right w s = record {
      front = s.front;
      back = s.back ++ w;
      left = s.left;
      right = s.right;
      ahead = s.ahead;
      behind = ap (λ (x : List Lexeme). x ++ w) s.behind ∙ append_assoc (spell_atom s.right) s.back w;
      lacks = λ h. pass (s.lacks h);
    }

  module _ {A B C : Type 0} {o : Option A} {p : Option B} {q : Option C} where
    -- one text behind another
    joined_texts : {v w : List Lexeme} → (o ≡ none → q ≡ none) → (p ≡ none → q ≡ none) → Valued o v → Valued p w
        → Valued q (v ++ w)
    joined_texts {v} {w} one two f g before after e =
        ⊎_elim (λ t. subst (Sides q before) (sym t.2) (more_right one w (f before t.0 t.1)))
        (λ t. subst (λ (x : List Lexeme). Sides q x after) (sym t.1) (more_left two v (g t.0 after t.2)))
        (in_either v w before after e)

  no_mod : {A : Type 0} (o : Option A) {w : List Lexeme} → Without w → Valued o w
  no_mod o f before after e = absurd (f before after e)

  next : {A : Type 0} {o : Option A} (l : Lexeme) {w : List Lexeme} → is_key k_mod l ≡ false → Valued o w → Valued o (l ∷ w)
  next {o = o} l h f = joined_texts {v = l ∷ []} (λ e. e) (λ e. e) (no_mod o (without_next l h without_nil)) f

  module _ {A B C : Type 0} (f : A → B → C) where
    none_left : {o : Option A} (p : Option B) → o ≡ none → of_both f o p ≡ none
    unfolding of_both
    none_left p e = rw e

    none_right : (o : Option A) {p : Option B} → p ≡ none → of_both f o p ≡ none
    unfolding of_both of_one
    none_right none e = refl
    none_right (some a) e = rw e

    either_none : (o : Option A) (p : Option B) → of_both f o p ≡ none → (o ≡ none) ⊎ (p ≡ none)
    unfolding of_both of_one
    either_none none p e = inl refl
    either_none (some a) none e = inr refl
    either_none (some a) (some b) e = no_some (sym e)

    -- "both sides .. are always evaluated"
    both_sides : {o : Option A} {p : Option B} {v w : List Lexeme} → Valued o v → Valued p w → Valued (of_both f o p) (v ++ w)
    both_sides {o} {p} one two = joined_texts (none_left p) (none_right o) one two

  none_before : {A B : Type 0} (f : A → B) (o : Option A) → of_one f o ≡ none → o ≡ none
  unfolding of_one
  none_before f none e = refl
  none_before f (some a) e = no_some (sym e)

  one_side : {A B : Type 0} (f : A → B) {o : Option A} → o ≡ none → of_one f o ≡ none
  unfolding of_one
  one_side f e = rw e

  of_term : (t : Term) → Valued (term_value vs as' t) (spell_term t)
  unfolding spell_term
  of_term (alone a) = no_mod (term_value vs as' (alone a)) (without_atom a)
  of_term (remainder a b) = λ before after e.
      ⊎_elim (λ t. absurd (without_atom a before t.0 t.1)) (λ t. at_word before after t.0 t.1 t.2)
      (in_either (spell_atom a) (key k_mod ∷ spell_atom b) before after e)
    where
      at_word : (before after front : List Lexeme) → before ≡ spell_atom a ++ front
          → key k_mod ∷ spell_atom b ≡ front ++ (key k_mod ∷ after) → Sides (term_value vs as' (remainder a b)) before after
      at_word before after [] p q = record {
        front = [];
        back = [];
        left = a;
        right = b;
        ahead = p ∙ append-nil (spell_atom a);
        behind = let r : after ≡ spell_atom b = cc in r ∙ sym (append-nil (spell_atom b));
        lacks = λ h. h;
      }
      at_word before after (x ∷ front) p q = absurd (without_atom b front after (cc))

  of_terms : {o : Option ℤ} {v : List Lexeme} (ts : List Signed) → Valued o v
      → Valued (terms_value vs as' o ts) (v ++ each spell_signed ts)
  unfolding each spell_signed is_key terms_value
  of_terms {o} {v} [] f = subst (Valued o) (sym (append-nil v)) f
  of_terms {o} {v} (t ∷ ts) f =
      subst (Valued (terms_value vs as' o (t ∷ ts))) (append_assoc v (spell_signed t) (each spell_signed ts))
      (of_terms {o = of_both (joined t.sign) o (term_value vs as' t.term)} ts (both_sides (joined t.sign) f (next (mark (sign_mark t.sign)) refl (of_term t.term))))

  of_expr : (e : Expr) → Valued (expr_value vs as' e) (spell_expr e)
  unfolding spell_expr expr_value
  of_expr e = of_terms e.more (of_term e.first)

  of_constant : (b : Bool) → Valued (some b) (spell_constant b)
  unfolding spell_constant is_key keyword_number
  of_constant true = no_mod (some true) (without_next (key k_true) refl without_nil)
  of_constant false = no_mod (some false) (without_next (key k_false) refl without_nil)

  mutual
    unfolding spell_cond is_key cond_value

    pub of_cond : (c : Cond) → Valued (cond_value c vs as') (spell_cond c)
    of_cond (only c) = of_conj c
    of_cond (or c d) = both_sides ◌||◌ (of_conj c) (next (mark or_or) refl (of_cond d))

    of_conj : (c : Conj) → Valued (conj_value c vs as') (spell_conj c)
    of_conj (just s) = of_simple s
    of_conj (and s c) = both_sides ◌&&◌ (of_simple s) (next (mark and_and) refl (of_conj c))

    of_simple : (s : Simple) → Valued (simple_value s vs as') (spell_simple s)
    of_simple (negation s) =
        joined_texts {v = mark bang ∷ []} (one_side not) (one_side not)
        (no_mod (simple_value s vs as') (without_next (mark bang) refl without_nil)) (of_simple s)
    of_simple (bracketed c) =
        next (mark lparen) refl (joined_texts (λ e. e) (λ e. e) (of_cond c)
        (no_mod (cond_value c vs as') (without_next (mark rparen) refl without_nil)))
    of_simple (constant b) = of_constant b
    of_simple (compare e o f) =
        both_sides (compares o) (of_expr e) (next (mark (comparison_mark o)) refl (of_expr f))

  -- And where a part has no value, neither has some remainder of it

  record MissingIn (w : List Lexeme) : Type 0 where
    front : List Lexeme
    back : List Lexeme
    left : Atom
    right : Atom
    stands : w ≡ front ++ (spell_atom left ++ (key k_mod ∷ (spell_atom right ++ back)))
    missing : term_value vs as' (remainder left right) ≡ none

  in_first : {v : List Lexeme} (w : List Lexeme) → MissingIn v → MissingIn (v ++ w)
  in_first w t = record {
    front = t.front;
    back = t.back ++ w;
    left = t.left;
    right = t.right;
    stands = ap (λ (x : List Lexeme). x ++ w) t.stands ∙ simp append_assoc;
    missing = t.missing;
  }

  in_second : (v : List Lexeme) {w : List Lexeme} → MissingIn w → MissingIn (v ++ w)
  in_second v t = record {
    front = v ++ t.front;
    back = t.back;
    left = t.left;
    right = t.right;
    stands = ap (λ (x : List Lexeme). v ++ x) t.stands ∙ sym (append_assoc v t.front _);
    missing = t.missing;
  }

  in_both_lem : {A B C : Type 0} (f : A → B → C) (o : Option A) (p : Option B) {v w : List Lexeme} → of_both f o p ≡ none
      → (o ≡ none → MissingIn v) → (p ≡ none → MissingIn w) → MissingIn (v ++ w)
  in_both_lem f o p {v} {w} e one two =
      ⊎_elim (λ h. in_first w (one h)) (λ h. in_second v (two h)) (either_none f o p e)

  missing_term : (t : Term) → term_value vs as' t ≡ none → MissingIn (spell_term t)
  unfolding spell_term term_value
  missing_term (alone a) e = no_some (sym e)
  missing_term (remainder a b) e = record {
    front = [];
    back = [];
    left = a;
    right = b;
    stands = ap (λ (x : List Lexeme). spell_atom a ++ (key k_mod ∷ x)) (sym (append-nil (spell_atom b)));
    missing = e;
  }

  missing_terms : (o : Option ℤ) (ts : List Signed) {v : List Lexeme} → (o ≡ none → MissingIn v)
      → terms_value vs as' o ts ≡ none → MissingIn (v ++ each spell_signed ts)
  unfolding each spell_signed terms_value
  missing_terms o [] {v} f e = in_first [] (f e)
  missing_terms o (t ∷ ts) {v} f e =
      subst MissingIn (append_assoc v (spell_signed t) (each spell_signed ts))
      (missing_terms (of_both (joined t.sign) o (term_value vs as' t.term)) ts
      (λ h. in_both_lem (joined t.sign) o (term_value vs as' t.term) h f
      (λ k. in_second (mark (sign_mark t.sign) ∷ []) (missing_term t.term k))) e)

  missing_expr : (e : Expr) → expr_value vs as' e ≡ none → MissingIn (spell_expr e)
  unfolding spell_expr expr_value
  missing_expr e h = missing_terms (term_value vs as' e.first) e.more (missing_term e.first) h

  mutual
    unfolding spell_cond cond_value

    missing_cond : (c : Cond) → cond_value c vs as' ≡ none → MissingIn (spell_cond c)
    missing_cond (only c) h = missing_conj c h
    missing_cond (or c d) h =
        in_both_lem ◌||◌ (conj_value c vs as') (cond_value d vs as') h (λ k. missing_conj c k)
        (λ k. in_second (mark or_or ∷ []) (missing_cond d k))

    missing_conj : (c : Conj) → conj_value c vs as' ≡ none → MissingIn (spell_conj c)
    missing_conj (just s) h = missing_simple s h
    missing_conj (and s c) h =
        in_both_lem ◌&&◌ (simple_value s vs as') (conj_value c vs as') h (λ k. missing_simple s k)
        (λ k. in_second (mark and_and ∷ []) (missing_conj c k))

    missing_simple : (s : Simple) → simple_value s vs as' ≡ none → MissingIn (spell_simple s)
    missing_simple (negation s) h = in_second (mark bang ∷ []) (missing_simple s (none_before not (simple_value s vs as') h))
    missing_simple (bracketed c) h =
        in_second (mark lparen ∷ []) (in_first (mark rparen ∷ []) (missing_cond c h))
    missing_simple (constant b) h = no_some (sym h)
    missing_simple (compare e o f) h =
        in_both_lem (compares o) (expr_value vs as' e) (expr_value vs as' f) h (missing_expr e)
        (λ k. in_second (mark (comparison_mark o) ∷ []) (missing_expr f k))

  -- "Both sides of `&&` and `||` are always evaluated": a condition has no value exactly where some remainder in it has none
  -- (R 4.24)
  pub lacks_iff : (c : Cond) → (cond_value c vs as' ≡ none) ↔ Missing c vs as'
  unfolding term_value
  lacks_iff c = (found, lost)
    where
      found : cond_value c vs as' ≡ none → Missing c vs as'
      found h =
          let t = missing_cond c h in
          record {
            left = t.left;
            right = t.right;
            front = t.front;
            stands = record { back = t.back; stands = t.stands };
            missing = t.missing;
          }

      lost : Missing c vs as' → cond_value c vs as' ≡ none
      lost t =
          let w = t.stands in
          let s = of_cond c (t.front ++ spell_atom t.left) (spell_atom t.right ++ w.back)
          (w.stands ∙ sym (append_assoc t.front (spell_atom t.left) _)) in
          let same = same_atom t.right s.right w.back s.back s.behind in
          s.lacks ((modulo_none (atom_value vs as' s.left) (atom_value vs as' s.right)).1
          (subst (λ (b : Atom). less (atom_value vs as' b) (pos 1) ≡ true) same
          ((modulo_none (atom_value vs as' t.left) (atom_value vs as' t.right)).0 t.missing)))
