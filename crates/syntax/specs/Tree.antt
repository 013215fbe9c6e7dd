-- The grammar of a monitor file: trees, and the lexemes that each spells.
use Rattle.std.specs.Prelude.{ℕ, Bool, true, false, List, [], ◌∷◌, ◌++◌, ◌≡◌}
use Rattle.syntax.specs.Token.{Lexeme, name, key, number, mark, Mark, lbrace, rbrace, lparen, rparen, semicolon}
use Rattle.syntax.specs.Token.{equals, dots, becomes, same, differs, below, at_most_mark, above, at_least_mark, plus, minus}
use Rattle.syntax.specs.Token.{bang, and_and, or_or, k_monitor, k_var, k_in, k_keep, k_method, k_waituntil, k_if}
use Rattle.syntax.specs.Token.{k_else, k_true, k_false, k_try, k_mod}
use Rattle.syntax.specs.Spelling.{AllSpellable}

-- "a number with or without - before it" (R 2.12)
pub data Int : Type 0 where
  plain negated : ℕ → Int

-- atom: "integers and variable names" (R 2)
pub data Atom : Type 0 where
  literal : Int → Atom
  variable : List ℕ → Atom

-- what joins: + or - (R 2.13)
pub data Sign : Type 0 where
  added taken : Sign

-- an atom, or "two integers or variables" with `mod` between (R 2.18, 2.19, 2.20)
pub data Term : Type 0 where
  alone : Atom → Term
  remainder : Atom → Atom → Term

-- a term and what joins it (R 2.13)
pub record Signed : Type 0 where
  pub sign : Sign
  pub term : Term

-- "joined by + and -, taken from the left" (R 2.11, 2.13)
pub record Expr : Type 0 where
  pub first : Term
  pub more : List Signed

-- comparison (R 2)
pub data Comparison : Type 0 where
  eq ne lt le gt ge : Comparison

mutual
  -- "conjunctions joined by ||" (R 2.10)
  pub data Cond : Type 0 where
    only : Conj → Cond
    or : Conj → Cond → Cond

  -- "simple conditions joined by &&" (R 2.10)
  pub data Conj : Type 0 where
    just : Simple → Conj
    and : Simple → Conj → Conj

  -- ! with what it takes, brackets, a constant or one comparison (R 2.9, 2.11, 2.14)
  pub data Simple : Type 0 where
    negation : Simple → Simple
    bracketed : Cond → Simple
    constant : Bool → Simple
    compare : Expr → Comparison → Expr → Simple

mutual
  -- statements, or none (R 2.6)
  pub data Block : Type 0 where
    end : Block
    then : Stmt → Block → Block

  -- behind `else` stands a block (R 2.8)
  pub data Stmt : Type 0 where
    assign : List ℕ → Expr → Stmt
    if_then : Cond → Block → Stmt
    if_else : Cond → Block → Block → Stmt

-- a guard and a body (R 2.5)
pub record Region : Type 0 where
  pub guard : Cond
  pub body : Block

-- "one or more" (R 2.1)
pub record Some (A : Type 0) : Type 0 where
  pub head : A
  pub more : List A

-- method (R 2)
pub record Method : Type 0 where
  pub title : List ℕ
  pub regions : Some Region

-- its three integers in their order (R 2.4)
pub record Var : Type 0 where
  pub title : List ℕ
  pub start : Int
  pub low : Int
  pub high : Int

-- the parts in their order: "After `keep` a file may list up to sixteen `try` conditions" (R 2.3, 2.17)
pub record Monitor : Type 0 where
  pub title : List ℕ
  pub vars : Some Var
  pub keep : Cond
  pub tries : List Cond
  pub methods : Some Method

abbrev pub all : {A : Type 0} → Some A → List A
all s = s.head ∷ s.more

-- What each spells

-- (R 1.13, 2.12)
unfoldable pub spell_int : Int → List Lexeme
spell_int (plain n) = number n ∷ []
spell_int (negated n) = mark minus ∷ number n ∷ []

-- atom (R 2)
unfoldable pub spell_atom : Atom → List Lexeme
spell_atom (literal i) = spell_int i
spell_atom (variable x) = name x ∷ []

-- (R 2.13)
unfoldable pub sign_mark : Sign → Mark
sign_mark added = plus
sign_mark taken = minus

-- (R 2.18)
unfoldable pub spell_term : Term → List Lexeme
spell_term (alone a) = spell_atom a
spell_term (remainder a b) = spell_atom a ++ (key k_mod ∷ spell_atom b)

-- (R 2.13)
unfoldable pub spell_signed : Signed → List Lexeme
spell_signed s = mark (sign_mark s.sign) ∷ spell_term s.term

-- repeated (R 2.1)
unfoldable pub each : {A : Type 0} → (A → List Lexeme) → List A → List Lexeme
each f [] = []
each f (a ∷ as') = f a ++ each f as'

-- (R 2.11, 2.13)
unfoldable pub spell_expr : Expr → List Lexeme
spell_expr e = spell_term e.first ++ each spell_signed e.more

-- comparison (R 2)
unfoldable pub comparison_mark : Comparison → Mark
comparison_mark eq = same
comparison_mark ne = differs
comparison_mark lt = below
comparison_mark le = at_most_mark
comparison_mark gt = above
comparison_mark ge = at_least_mark

-- simple, of `true` and `false` (R 2)
unfoldable pub spell_constant : Bool → List Lexeme
spell_constant true = key k_true ∷ []
spell_constant false = key k_false ∷ []

unfoldable mutual
  -- (R 2.10)
  pub spell_cond : Cond → List Lexeme
  spell_cond (only c) = spell_conj c
  spell_cond (or c d) = spell_conj c ++ (mark or_or ∷ spell_cond d)

  -- (R 2.10)
  pub spell_conj : Conj → List Lexeme
  spell_conj (just s) = spell_simple s
  spell_conj (and s c) = spell_simple s ++ (mark and_and ∷ spell_conj c)

  -- (R 2.9, 2.11, 2.14)
  pub spell_simple : Simple → List Lexeme
  spell_simple (negation s) = mark bang ∷ spell_simple s
  spell_simple (bracketed c) = mark lparen ∷ (spell_cond c ++ (mark rparen ∷ []))
  spell_simple (constant b) = spell_constant b
  spell_simple (compare e o f) = spell_expr e ++ (mark (comparison_mark o) ∷ spell_expr f)

unfoldable mutual
  -- what stands between its braces (R 2.6)
  pub spell_block : Block → List Lexeme
  spell_block end = []
  spell_block (then s b) = spell_stmt s ++ spell_block b

  -- (R 2.7, 2.8)
  pub spell_stmt : Stmt → List Lexeme
  spell_stmt (assign x e) = name x ∷ mark becomes ∷ (spell_expr e ++ (mark semicolon ∷ []))
  spell_stmt (if_then c b) =
      key k_if ∷ mark lparen ∷ (spell_cond c ++ (mark rparen ∷ mark lbrace ∷ (spell_block b ++ (mark rbrace ∷ []))))
  spell_stmt (if_else c a b) =
      key k_if ∷ mark lparen ∷ (spell_cond c ++ (mark rparen ∷ mark lbrace ∷ (spell_block a
      ++ (mark rbrace ∷ key k_else ∷ mark lbrace ∷ (spell_block b ++ (mark rbrace ∷ []))))))

-- (R 2.5)
unfoldable pub spell_region : Region → List Lexeme
spell_region r =
    key k_waituntil ∷ mark lparen ∷ (spell_cond r.guard
    ++ (mark rparen ∷ mark lbrace ∷ (spell_block r.body ++ (mark rbrace ∷ []))))

-- method (R 2)
unfoldable pub spell_method : Method → List Lexeme
spell_method m =
    key k_method ∷ name m.title ∷ mark lbrace ∷ (each spell_region (all m.regions) ++ (mark rbrace ∷ []))

-- (R 2.4)
unfoldable pub spell_var : Var → List Lexeme
spell_var v =
    key k_var ∷ name v.title ∷ mark equals ∷ (spell_int v.start
    ++ (key k_in ∷ (spell_int v.low ++ (mark dots ∷ (spell_int v.high ++ (mark semicolon ∷ []))))))

-- "`try` conditions, each ended by `;`" (R 2.17)
unfoldable pub spell_try : Cond → List Lexeme
spell_try c = key k_try ∷ (spell_cond c ++ (mark semicolon ∷ []))

-- (R 2.3)
unfoldable pub spell : Monitor → List Lexeme
spell m =
    key k_monitor ∷ name m.title ∷ mark lbrace ∷ (each spell_var (all m.vars)
    ++ (key k_keep ∷ (spell_cond m.keep
    ++ (mark semicolon ∷ (each spell_try m.tries ++ (each spell_method (all m.methods) ++ (mark rbrace ∷ [])))))))

-- A list of lexemes is in the grammar if a tree spells it, with no token behind, and bytes spell each of its lexemes
-- (R 2.2, 2.16)
unfoldable pub InGrammar : List Lexeme → Type 0
InGrammar ls = (m : Monitor) × (spell m ≡ ls) × AllSpellable ls

-- A list of lexemes is viable if it begins a list that is in the grammar (4; R 6.12, 6.15)
unfoldable pub Viable : List Lexeme → Type 0
Viable ls = (rest : List Lexeme) × InGrammar (ls ++ rest)
