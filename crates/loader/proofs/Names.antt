-- Names: those behind `var` are the variables' in their order, so a resolved file is held as the evaluator has it. By
-- what a tree spells: no `var` stands behind the variables.
use Prim.Native.Nat.{ℕ, suc}
use native.Mathlib.Omega.{arith}
use mathlib.Core.Path.{◌≡◌, refl, sym, ap, ◌∙◌}
use mathlib.Core.Bool.{Bool, true, false}
use mathlib.Core.Option.{some}
use mathlib.Core.List.{List, [], ◌∷◌, ◌++◌, map, append_assoc, append-nil}
use lib.ListN.{length, get_or, drop, get_elem?, length-map}
use Rattle.syntax.specs.Bytes.{same_bytes}
use Rattle.syntax.specs.Token.{Lexeme, name, key, number, mark, lbrace, rbrace, semicolon, k_var, k_keep, Token}
use Rattle.syntax.specs.Token.{lexemes}
use Rattle.syntax.specs.Decide.Lexeme.{is_key, keyword_number}
use Rattle.syntax.specs.Held.Kind.{kind_of, Words}
use Rattle.syntax.specs.Tree.{Int, plain, negated, Atom, literal, variable, Term, alone, remainder, Signed, Expr}
use Rattle.syntax.specs.Tree.{Cond, only, or, Conj, just, and}
use Rattle.syntax.specs.Tree.{Simple, negation, bracketed, constant, compare, Block, end, then, Stmt, assign, if_then}
use Rattle.syntax.specs.Tree.{if_else, Region, Method, Var, Monitor, all, each, spell_int, spell_atom, spell_term, spell_signed}
use Rattle.syntax.specs.Tree.{spell_expr, spell_constant, spell_cond, spell_conj, spell_simple, spell_block, spell_stmt}
use Rattle.syntax.specs.Tree.{spell_region, spell_method, spell_try, spell_var, spell}
use Rattle.logic.proofs.Bools.{split}
use Rattle.logic.proofs.Bools.{different}
use Rattle.meaning.proofs.KeywordPlaces.{times, times_append}
use Rattle.meaning.specs.Held.{behind_keep}
use Rattle.names.specs.Slots.{titles_from, titles_of, slot_in, slot_or_value, Resolved}
use Rattle.evaluator.specs.Coding.{slot_of, Codes}
use Rattle.syntax.specs.Held.Kind.{Kinds}
use Rattle.judging.proofs.TokenSlices.{lexemes_map, at_lexeme}

-- the names behind `var` among lexemes, the lexeme before coming first
titles_in : Lexeme → List Lexeme → List (List ℕ)
titles_in before [] = []
titles_in before (name x ∷ ls) =
    elim (is_key k_var before) [ true ↦ x ∷ titles_in (name x) ls | false ↦ titles_in (name x) ls ]
titles_in before (key k ∷ ls) = titles_in (key k) ls
titles_in before (number n ∷ ls) = titles_in (number n) ls
titles_in before (mark m ∷ ls) = titles_in (mark m) ls

one_more : (before : Lexeme) (k : ℕ) (l : Lexeme) (ts : List Token)
    → ((c : Lexeme) → titles_from c ts ≡ titles_in c (lexemes ts))
    → titles_from before (record { at = k; lexeme = l } ∷ ts) ≡ titles_in before (l ∷ lexemes ts)
unfolding titles_from titles_in
one_more before k (name x) ts rest = split (is_key k_var before) (λ h. cc (rest (name x))) (λ h. cc (rest (name x)))
one_more before k (key j) ts rest = rest (key j)
one_more before k (number n) ts rest = rest (number n)
one_more before k (mark m) ts rest = rest (mark m)

in_lexemes : (before : Lexeme) (ts : List Token) → titles_from before ts ≡ titles_in before (lexemes ts)
unfolding titles_from titles_in lexemes
in_lexemes before [] = refl
in_lexemes before (t ∷ ts) = one_more before t.at t.lexeme ts (λ c. in_lexemes c ts)

-- No `var` in conditions, blocks and methods

none_int : (i : Int) → times k_var (spell_int i) ≡ 0
unfolding times spell_int is_key
none_int (plain n) = refl
none_int (negated n) = refl

none_atom : (a : Atom) → times k_var (spell_atom a) ≡ 0
unfolding times spell_atom is_key
none_atom (literal i) = none_int i
none_atom (variable x) = refl

none_each : {A : Type 0} (f : A → List Lexeme) → ((a : A) → times k_var (f a) ≡ 0) → (as' : List A)
    → times k_var (each f as') ≡ 0
unfolding times each
none_each f h [] = refl
none_each f h (a ∷ as') = simp (times_append, h, none_each f h as')

none_term : (t : Term) → times k_var (spell_term t) ≡ 0
unfolding times spell_term is_key keyword_number
none_term (alone a) = none_atom a
none_term (remainder a b) = simp (times_append, none_atom)

none_signed : (t : Signed) → times k_var (spell_signed t) ≡ 0
unfolding times spell_signed is_key
none_signed t = none_term t.term

none_expr : (e : Expr) → times k_var (spell_expr e) ≡ 0
unfolding spell_expr
none_expr e = simp (times_append, none_term, none_each spell_signed none_signed)

none_constant : (b : Bool) → times k_var (spell_constant b) ≡ 0
unfolding times spell_constant is_key keyword_number
none_constant true = refl
none_constant false = refl

mutual
  unfolding times spell_cond spell_conj spell_simple is_key keyword_number

  none_cond : (c : Cond) → times k_var (spell_cond c) ≡ 0
  none_cond (only c) = none_conj c
  none_cond (or c d) = simp (times_append, none_conj c, none_cond d)

  none_conj : (c : Conj) → times k_var (spell_conj c) ≡ 0
  none_conj (just s) = none_simple s
  none_conj (and s c) = simp (times_append, none_simple s, none_conj c)

  none_simple : (s : Simple) → times k_var (spell_simple s) ≡ 0
  none_simple (negation s) = none_simple s
  none_simple (bracketed c) = simp (times_append, none_cond c)
  none_simple (constant b) = none_constant b
  none_simple (compare e o f) = simp (times_append, none_expr)

mutual
  unfolding times spell_block spell_stmt is_key keyword_number

  none_block : (b : Block) → times k_var (spell_block b) ≡ 0
  none_block end = refl
  none_block (then s b) = simp (times_append, none_stmt s, none_block b)

  none_stmt : (s : Stmt) → times k_var (spell_stmt s) ≡ 0
  none_stmt (assign x e) = simp (times_append, none_expr)
  none_stmt (if_then c b) = simp (times_append, none_cond, none_block b)
  none_stmt (if_else c a b) = simp (times_append, none_cond, none_block a, none_block b)

none_region : (r : Region) → times k_var (spell_region r) ≡ 0
unfolding times spell_region is_key keyword_number
none_region r = simp (times_append, none_cond, none_block)

none_method : (x : Method) → times k_var (spell_method x) ≡ 0
unfolding times spell_method is_key keyword_number
none_method x = simp (times_append, none_each spell_region none_region (all x.regions))

none_try : (c : Cond) → times k_var (spell_try c) ≡ 0
unfolding times spell_try is_key keyword_number
none_try c = simp (times_append, none_cond)

none_behind : (m : Monitor) → times k_var (behind_keep m) ≡ 0
unfolding times behind_keep is_key keyword_number
none_behind m =
    simp (
      times_append,
      none_cond,
      none_each spell_try none_try m.tries,
      none_each spell_method none_method (all m.methods),
    )

-- so there are no names behind `var` there
no_titles : (before : Lexeme) (ls : List Lexeme) → is_key k_var before ≡ false → times k_var ls ≡ 0 → titles_in before ls
    ≡ []
unfolding titles_in times is_key
no_titles before [] h e = refl
no_titles before (name x ∷ ls) h e = rw (h, titles_in) (no_titles (name x) ls refl e)
no_titles before (key k ∷ ls) h e = split (is_key k_var (key k))
    (λ t. let z : suc (times k_var ls) ≡ 0 = rw (t, times) at e in absurd (omega arith))
    (λ f. no_titles (key k) ls f (rw (f, times) at e))
no_titles before (number n ∷ ls) h e = no_titles (number n) ls refl e
no_titles before (mark m ∷ ls) h e = no_titles (mark m) ls refl e

-- The variables' names

last : Int → Lexeme
last (plain n) = number n
last (negated n) = number n

over_int : (before : Lexeme) (i : Int) (ls : List Lexeme) → titles_in before (spell_int i ++ ls) ≡ titles_in (last i) ls
unfolding titles_in spell_int last
over_int before (plain n) ls = refl
over_int before (negated n) ls = refl

over_vars : (before : Lexeme) (vs : List Var) (ls : List Lexeme)
    → titles_in before (each spell_var vs ++ (key k_keep ∷ ls)) ≡ map (λ v. v.title) vs ++ titles_in (key k_keep) ls
unfolding titles_in each spell_var is_key keyword_number
over_vars before [] ls = refl
over_vars before (v ∷ vs) ls = simp (append_assoc, over_int, over_vars (mark semicolon) vs ls)

pub titles_spelled : (ts : List Token) (m : Monitor) → spell m ≡ lexemes ts
    → titles_of ts ≡ map (λ v. v.title) (all m.vars)
unfolding titles_of titles_in spell behind_keep is_key keyword_number
titles_spelled ts m spelt =
    in_lexemes (number 0) ts ∙ ap (titles_in (number 0)) (sym spelt)
    ∙ over_vars (mark lbrace) (all m.vars) (behind_keep m)
    ∙ ap (λ (ys : List (List ℕ)). map (λ v. v.title) (all m.vars) ++ ys)
    (no_titles (key k_keep) (behind_keep m) refl (none_behind m))
    ∙ append-nil (map (λ v. v.title) (all m.vars))

pub slot_same : (vs : List Var) (x : List ℕ) → slot_in (map (λ v. v.title) vs) x ≡ slot_of vs x
unfolding slot_in slot_of
slot_same [] x = refl
slot_same (v ∷ vs) x = split (same_bytes v.title x) (λ h. cc) (λ h. cc (slot_same vs x))

-- kinds, and values that are resolved and then linked
pub codes : {file : List ℕ} {ts : List Token} {kinds values places : List ℕ} (m : Monitor) (resolved linked : List ℕ)
    → spell m ≡ lexemes ts
    → Words file ts kinds values places → Resolved ts resolved → length linked ≡ length resolved
    → ((i : ℕ) → (get_elem? (lexemes ts) i ≡ some (mark lbrace) → ⊥) → get_or linked i 0 ≡ get_or resolved i 0)
    → ((i : ℕ) (b : Block) (us : List Lexeme) → drop i (lexemes ts) ≡ mark lbrace ∷ (spell_block b ++ (mark rbrace ∷ us))
    → drop (get_or linked i 0) (lexemes ts) ≡ mark rbrace ∷ us)
    → Codes (all m.vars) (lexemes ts) kinds linked
unfolding Kinds Resolved slot_or_value
codes {ts = ts} m resolved linked spelt w r long others braces =
    record {
      by_kind = lexemes_map kind_of ts ∙ sym w.by_kind;
      as_long = long ∙ rw (r, w.by_kind, length-map, length-map);
      by_number = λ i n e. at i (number n) e (λ z. different (cc));
      by_name = λ i x e. at i (name x) e (λ z. different (cc)) ∙ ap (λ ys. slot_in ys x) (titles_spelled ts m spelt)
          ∙ slot_same (all m.vars) x;
      by_brace = braces;
    }
  where
    at : (i : ℕ) (l : Lexeme) → get_elem? (lexemes ts) i ≡ some l → (l ≡ mark lbrace → ⊥) → get_or linked i 0
        ≡ slot_or_value (titles_of ts) l
    at i l e other =
        others i (λ z. other (cc)) ∙ ap (λ (vs : List ℕ). get_or vs i 0) r ∙ at_lexeme (slot_or_value (titles_of ts)) ts i l
        e
