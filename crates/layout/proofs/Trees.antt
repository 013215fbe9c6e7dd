-- What is closed under joining, brackets and braces holds of all that conditions and blocks spell: by recursion over
-- the trees. So braces, brackets and semicolons are balanced where the code looks for a closing one.
use Prim.Native.Nat.{ℕ}
use native.Mathlib.Omega.{arith}
use mathlib.Core.Path.{◌≡◌, refl, sym, ap, ◌∙◌}
use mathlib.Core.Bool.{Bool, true, false, not, ◌&&◌, true≢false}
use mathlib.Core.List.{List, [], ◌∷◌, ◌++◌, append_assoc}
use lib.Dec.{eqb}
use Rattle.syntax.specs.Token.{Lexeme, name, key, number, mark, lbrace, rbrace, lparen, rparen, semicolon}
use Rattle.syntax.specs.Token.{becomes, minus, bang, and_and, or_or, k_if, k_else, k_true, k_false, k_mod}
use Rattle.syntax.specs.Decide.Lexeme.{mark_number, keyword_number}
use Rattle.syntax.specs.Held.Kind.{kind_of, no_kind}
use Rattle.syntax.proofs.ByKind.{kind_below}
use Rattle.syntax.specs.Tree.{Int, plain, negated, Atom, literal, variable, Sign, added, taken, Term, alone}
use Rattle.syntax.specs.Tree.{remainder, Signed, Expr, Comparison}
use Rattle.syntax.specs.Tree.{eq, ne, lt, le, gt, ge, Cond, only, or, Conj, just, and, Simple, negation, bracketed}
use Rattle.syntax.specs.Tree.{constant, compare, Block, end, then, Stmt, assign, if_then, if_else, each}
use Rattle.syntax.specs.Tree.{spell_int, spell_atom, sign_mark, spell_term, spell_signed, spell_expr}
use Rattle.syntax.specs.Tree.{comparison_mark, spell_constant, spell_cond, spell_conj, spell_simple, spell_block, spell_stmt}
use Rattle.layout.proofs.Closes.{Balanced, balanced_nil, balanced_join, balanced_one, balanced_wrap}
use Rattle.layout.proofs.Closes.{open_bracket, shut_bracket, open_brace, shut_brace, semicolon_kind}

abbrev other : Lexeme → ℕ → Bool
other l k = not (eqb k (kind_of l))

-- a kind of a block's tokens but brackets and braces
abbrev quiet : ℕ → Bool
quiet k = other (mark lbrace) k && other (mark rbrace) k && other (mark lparen) k && other (mark rparen) k

-- nor a semicolon: a kind of a condition's tokens but brackets
abbrev calm : ℕ → Bool
calm k = other (mark semicolon) k && quiet k

-- a kind that passes a test is none that fails it
apart_by : (test : ℕ → Bool) {k o : ℕ} → test k ≡ true → test o ≡ false → k ≡ o → ⊥
apart_by test h f e = true≢false (sym h ∙ ap test e ∙ f)

sign_kind : (s : Sign) → calm (kind_of (mark (sign_mark s))) ≡ true
unfolding sign_mark kind_of mark_number keyword_number
sign_kind added = refl
sign_kind taken = refl

comparison_kind : (o : Comparison) → calm (kind_of (mark (comparison_mark o))) ≡ true
unfolding comparison_mark kind_of mark_number keyword_number
comparison_kind eq = refl
comparison_kind ne = refl
comparison_kind lt = refl
comparison_kind le = refl
comparison_kind gt = refl
comparison_kind ge = refl

module _ (P : List Lexeme → Type 0) (nil : P []) (joins : (v w : List Lexeme) → P v → P w → P (v ++ w))
    (calmly : (l : Lexeme) → calm (kind_of l) ≡ true → P (l ∷ []))
    (wraps : (w : List Lexeme) → P w → P (mark lparen ∷ (w ++ (mark rparen ∷ [])))) where
  join : {v w : List Lexeme} → P v → P w → P (v ++ w)
  join {v} {w} p q = joins v w p q

  of_int : (i : Int) → P (spell_int i)
  unfolding spell_int kind_of mark_number keyword_number
  of_int (plain n) = calmly (number n) refl
  of_int (negated n) = join (calmly (mark minus) refl) (calmly (number n) refl)

  of_atom : (a : Atom) → P (spell_atom a)
  unfolding spell_atom kind_of mark_number keyword_number
  of_atom (literal i) = of_int i
  of_atom (variable x) = calmly (name x) refl

  of_term : (t : Term) → P (spell_term t)
  unfolding spell_term kind_of mark_number keyword_number
  of_term (alone a) = of_atom a
  of_term (remainder a b) = join (of_atom a) (join (calmly (key k_mod) refl) (of_atom b))

  of_terms : (ts : List Signed) → P (each spell_signed ts)
  unfolding each spell_signed
  of_terms [] = nil
  of_terms (t ∷ ts) =
      join (join (calmly (mark (sign_mark t.sign)) (sign_kind t.sign)) (of_term t.term)) (of_terms ts)

  of_expr : (e : Expr) → P (spell_expr e)
  unfolding spell_expr
  of_expr e = join (of_term e.first) (of_terms e.more)

  of_constant : (b : Bool) → P (spell_constant b)
  unfolding spell_constant kind_of mark_number keyword_number
  of_constant true = calmly (key k_true) refl
  of_constant false = calmly (key k_false) refl

  mutual
    unfolding spell_cond kind_of mark_number keyword_number

    pub of_cond : (c : Cond) → P (spell_cond c)
    of_cond (only c) = of_conj c
    of_cond (or c d) = join (of_conj c) (join (calmly (mark or_or) refl) (of_cond d))

    of_conj : (c : Conj) → P (spell_conj c)
    of_conj (just s) = of_simple s
    of_conj (and s c) = join (of_simple s) (join (calmly (mark and_and) refl) (of_conj c))

    of_simple : (s : Simple) → P (spell_simple s)
    of_simple (negation s) = join (calmly (mark bang) refl) (of_simple s)
    of_simple (bracketed c) = wraps _ (of_cond c)
    of_simple (constant b) = of_constant b
    of_simple (compare e o f) =
        join (of_expr e) (join (calmly (mark (comparison_mark o)) (comparison_kind o)) (of_expr f))

  module _ (plainly : (l : Lexeme) → quiet (kind_of l) ≡ true → P (l ∷ []))
      (blocks : (w : List Lexeme) → P w → P (mark lbrace ∷ (w ++ (mark rbrace ∷ [])))) where
    bracketed_then : {w v : List Lexeme} → P w → P v → P (mark lparen ∷ (w ++ (mark rparen ∷ v)))
    bracketed_then p q = rw append_assoc at (join (wraps _ p) q)

    braced_then : {w v : List Lexeme} → P w → P v → P (mark lbrace ∷ (w ++ (mark rbrace ∷ v)))
    braced_then p q = rw append_assoc at (join (blocks _ p) q)

    mutual
      unfolding spell_block kind_of mark_number keyword_number

      pub of_block : (b : Block) → P (spell_block b)
      of_block end = nil
      of_block (then s b) = join (of_stmt s) (of_block b)

      of_stmt : (s : Stmt) → P (spell_stmt s)
      of_stmt (assign x e) =
          join (plainly (name x) refl)
          (join (plainly (mark becomes) refl) (join (of_expr e) (plainly (mark semicolon) refl)))
      of_stmt (if_then c b) = join (plainly (key k_if) refl) (bracketed_then (of_cond c) (blocks _ (of_block b)))
      of_stmt (if_else c a b) =
          join (plainly (key k_if) refl) (bracketed_then (of_cond c) (braced_then (of_block a)
          (join (plainly (key k_else) refl) (blocks _ (of_block b)))))

-- Braces over blocks, brackets and semicolons over conditions

module _ (o c : ℕ) where
  balanced_by : (test : ℕ → Bool) → test o ≡ false → test c ≡ false → (l : Lexeme) → test (kind_of l) ≡ true
      → Balanced o c (l ∷ [])
  balanced_by test p q l h = balanced_one o c l (apart_by test h p) (apart_by test h q)

  around : (l r : Lexeme) → Balanced o c (l ∷ []) → Balanced o c (r ∷ []) → (w : List Lexeme) → Balanced o c w
      → Balanced o c (l ∷ (w ++ (r ∷ [])))
  around l r p q w h = balanced_join o c p (balanced_join o c h q)

pub brackets_balanced : (c : Cond) → Balanced open_bracket shut_bracket (spell_cond c)
unfolding kind_of mark_number keyword_number
brackets_balanced =
    of_cond (Balanced open_bracket shut_bracket) (balanced_nil open_bracket shut_bracket)
    (λ v w p q. balanced_join open_bracket shut_bracket p q)
    (balanced_by open_bracket shut_bracket calm refl refl)
    (λ w p. balanced_wrap open_bracket shut_bracket (mark lparen) (mark rparen) refl (λ e. omega arith) refl p)

pub semicolons_balanced : (c : Cond) → Balanced no_kind semicolon_kind (spell_cond c)
unfolding kind_of mark_number keyword_number
semicolons_balanced =
    of_cond (Balanced no_kind semicolon_kind) (balanced_nil no_kind semicolon_kind)
    (λ v w p q. balanced_join no_kind semicolon_kind p q) calmly
    (around no_kind semicolon_kind (mark lparen) (mark rparen)
    (balanced_one no_kind semicolon_kind (mark lparen) (λ e. omega arith) (λ e. omega arith))
    (balanced_one no_kind semicolon_kind (mark rparen) (λ e. omega arith) (λ e. omega arith)))
  where
    calmly : (l : Lexeme) → calm (kind_of l) ≡ true → Balanced no_kind semicolon_kind (l ∷ [])
    calmly l h = balanced_one no_kind semicolon_kind l (λ e. omega (arith, kind_below l)) (apart_by calm h refl)

pub braces_balanced : (b : Block) → Balanced open_brace shut_brace (spell_block b)
unfolding kind_of mark_number keyword_number
braces_balanced =
    of_block (Balanced open_brace shut_brace) (balanced_nil open_brace shut_brace)
    (λ v w p q. balanced_join open_brace shut_brace p q)
    (balanced_by open_brace shut_brace calm refl refl)
    (around open_brace shut_brace (mark lparen) (mark rparen)
    (balanced_one open_brace shut_brace (mark lparen) (λ e. omega arith) (λ e. omega arith))
    (balanced_one open_brace shut_brace (mark rparen) (λ e. omega arith) (λ e. omega arith)))
    (balanced_by open_brace shut_brace quiet refl refl)
    (λ w p. balanced_wrap open_brace shut_brace (mark lbrace) (mark rbrace) refl (λ e. omega arith) refl p)
