-- The grammar read from the left, in the shape of recursive descent: a tree, or what is left where no file of the
-- grammar can go on. Fuel bounds how deep the calls go; `Grammar` shows that `read` always has enough.
use Rattle.std.specs.Prelude.{ℕ, zero, suc, ◌+◌, ◌*◌, Bool, true, false, ◌||◌, List, [], ◌∷◌, length}
use Rattle.syntax.specs.Token.{Lexeme, name, key, number, mark, lbrace, rbrace, lparen, rparen, semicolon, equals}
use Rattle.syntax.specs.Token.{dots, becomes, same, differs, below, at_most_mark, above, at_least_mark, plus, minus, bang}
use Rattle.syntax.specs.Token.{and_and, or_or, k_monitor, k_var, k_in, k_keep, k_method, k_waituntil, k_if}
use Rattle.syntax.specs.Token.{k_else, k_true, k_false, k_try, k_mod}
use Rattle.syntax.specs.Decide.Lexeme.{is_mark, is_key, is_name}
use Rattle.syntax.specs.Tree.{Int, plain, negated, Atom, literal, variable, Sign, added, taken, Term, alone}
use Rattle.syntax.specs.Tree.{remainder, Signed, Expr}
use Rattle.syntax.specs.Tree.{Comparison, eq, ne, lt, le, gt, ge, Cond, only, or, Conj, just, and, Simple}
use Rattle.syntax.specs.Tree.{negation, bracketed, constant, compare, Block, end, then, Stmt, assign, if_then}
use Rattle.syntax.specs.Tree.{if_else, Region, Some, Method, Var, Monitor}

-- a reader answers what it read and what is left, or what is left where it stops
pub data Got (A : Type 0) : Type 0 where
  got : A → List Lexeme → Got A
  stuck : List Lexeme → Got A

abbrev pub Reader : Type 0 → Type 0
Reader A = List Lexeme → Got A

unfoldable pub onwards : {A B : Type 0} → Got A → (A → Reader B) → Got B
onwards (got a ls) f = f a ls
onwards (stuck ls) f = stuck ls

-- one reader, then another
infixl 20 ◌>>=◌
unfoldable pub ◌>>=◌ : {A B : Type 0} → Reader A → (A → Reader B) → Reader B
◌>>=◌ r f ls = onwards (r ls) f

unfoldable pub give : {A : Type 0} → A → Reader A
give a ls = got a ls

unfoldable pub begins : (Lexeme → Bool) → List Lexeme → Bool
begins p [] = false
begins p (l ∷ ls) = p l

unfoldable pub rest : List Lexeme → List Lexeme
rest [] = []
rest (l ∷ ls) = ls

-- go on by one reader where the lexeme in front passes a test, and by another where not
unfoldable pub choose : {A : Type 0} → (Lexeme → Bool) → Reader A → Reader A → Reader A
choose p a b ls = elim (begins p ls) [ true ↦ a ls | false ↦ b ls ]

-- a lexeme that passes a test, which is passed over
unfoldable pub expect : (Lexeme → Bool) → Reader (Unit {0})
expect p ls = elim (begins p ls) [ true ↦ got tt (rest ls) | false ↦ stuck ls ]

unfoldable pub read_name : Reader (List ℕ)
read_name [] = stuck []
read_name (name x ∷ ls) = got x ls
read_name (key k ∷ ls) = stuck (key k ∷ ls)
read_name (number n ∷ ls) = stuck (number n ∷ ls)
read_name (mark m ∷ ls) = stuck (mark m ∷ ls)

unfoldable pub read_number : Reader ℕ
read_number [] = stuck []
read_number (name x ∷ ls) = stuck (name x ∷ ls)
read_number (key k ∷ ls) = stuck (key k ∷ ls)
read_number (number n ∷ ls) = got n ls
read_number (mark m ∷ ls) = stuck (mark m ∷ ls)

-- as many as begin with a lexeme that passes a test
unfoldable pub read_many : {A : Type 0} → (Lexeme → Bool) → Reader A → ℕ → Reader (List A)
read_many p r zero ls = stuck ls
read_many p r (suc k) ls =
    choose p (r >>= λ a. (λ ms. read_many p r k ms) >>= λ as'. give (a ∷ as')) (give []) ls

-- one, and then as many
unfoldable pub read_some : {A : Type 0} → (Lexeme → Bool) → Reader A → ℕ → Reader (Some A)
read_some p r k = r >>= λ a. read_many p r k >>= λ as'. give (record { head = a; more = as' })

unfoldable pub read_int : Reader Int
read_int =
    choose (is_mark minus) (expect (is_mark minus) >>= λ _. read_number >>= λ n. give (negated n))
    (read_number >>= λ n. give (plain n))

unfoldable pub read_atom : Reader Atom
read_atom = choose is_name (read_name >>= λ x. give (variable x)) (read_int >>= λ i. give (literal i))

unfoldable pub read_sign : Reader Sign
read_sign =
    choose (is_mark plus) (expect (is_mark plus) >>= λ _. give added) (expect (is_mark minus) >>= λ _. give taken)

unfoldable pub read_term : Reader Term
read_term =
    read_atom >>= λ a.
    choose (is_key k_mod) (expect (is_key k_mod) >>= λ _. read_atom >>= λ b. give (remainder a b)) (give (alone a))

unfoldable pub read_signed : Reader Signed
read_signed = read_sign >>= λ s. read_term >>= λ t. give (record { sign = s; term = t })

unfoldable pub is_sign : Lexeme → Bool
is_sign l = is_mark plus l || is_mark minus l

unfoldable pub read_expr : ℕ → Reader Expr
read_expr k = read_term >>= λ t. read_many is_sign read_signed k >>= λ ts. give (record { first = t; more = ts })

unfoldable pub read_comparison : Reader Comparison
read_comparison =
    choose (is_mark same) (expect (is_mark same) >>= λ _. give eq)
    (choose (is_mark differs) (expect (is_mark differs) >>= λ _. give ne)
    (choose (is_mark below) (expect (is_mark below) >>= λ _. give lt)
    (choose (is_mark at_most_mark) (expect (is_mark at_most_mark) >>= λ _. give le)
    (choose (is_mark above) (expect (is_mark above) >>= λ _. give gt)
    (expect (is_mark at_least_mark) >>= λ _. give ge)))))

unfoldable mutual
  pub read_cond : ℕ → Reader Cond
  read_cond zero ls = stuck ls
  read_cond (suc k) ls =
      ((λ ms. read_conj k ms) >>= λ c.
      choose (is_mark or_or) (expect (is_mark or_or) >>= λ _. (λ ms. read_cond k ms) >>= λ d. give (or c d))
      (give (only c))) ls

  pub read_conj : ℕ → Reader Conj
  read_conj zero ls = stuck ls
  read_conj (suc k) ls =
      ((λ ms. read_simple k ms) >>= λ s.
      choose (is_mark and_and) (expect (is_mark and_and) >>= λ _. (λ ms. read_conj k ms) >>= λ c. give (and s c))
      (give (just s))) ls

  pub read_simple : ℕ → Reader Simple
  read_simple zero ls = stuck ls
  read_simple (suc k) ls =
      choose (is_mark bang) (expect (is_mark bang) >>= λ _. (λ ms. read_simple k ms) >>= λ s. give (negation s))
      (choose (is_mark lparen)
      (expect (is_mark lparen) >>= λ _. (λ ms. read_cond k ms) >>= λ c. expect (is_mark rparen) >>= λ _. give
      (bracketed c))
      (choose (is_key k_true) (expect (is_key k_true) >>= λ _. give (constant true))
      (choose (is_key k_false) (expect (is_key k_false) >>= λ _. give (constant false))
      (read_expr k >>= λ e. read_comparison >>= λ o. read_expr k >>= λ f. give (compare e o f))))) ls

unfoldable mutual
  -- statements up to a closing brace, which is left
  pub read_block : ℕ → Reader Block
  read_block zero ls = stuck ls
  read_block (suc k) ls =
      choose (is_mark rbrace) (give end)
      ((λ ms. read_stmt k ms) >>= λ s. (λ ms. read_block k ms) >>= λ b. give (then s b)) ls

  pub read_stmt : ℕ → Reader Stmt
  read_stmt zero ls = stuck ls
  read_stmt (suc k) ls =
      choose (is_key k_if)
      (expect (is_key k_if) >>= λ _. expect (is_mark lparen) >>= λ _. read_cond k >>= λ c. expect (is_mark rparen) >>= λ _.
      expect (is_mark lbrace) >>= λ _. (λ ms. read_block k ms) >>= λ a. expect (is_mark rbrace) >>= λ _.
      choose (is_key k_else)
      (expect (is_key k_else) >>= λ _. expect (is_mark lbrace) >>= λ _. (λ ms. read_block k ms) >>= λ b.
      expect (is_mark rbrace) >>= λ _. give (if_else c a b))
      (give (if_then c a)))
      (read_name >>= λ x. expect (is_mark becomes) >>= λ _. read_expr k >>= λ e. expect (is_mark semicolon) >>= λ _.
      give (assign x e)) ls

unfoldable pub read_region : ℕ → Reader Region
read_region k =
    expect (is_key k_waituntil) >>= λ _. expect (is_mark lparen) >>= λ _. read_cond k >>= λ c. expect (is_mark rparen) >>=
    λ _.
    expect (is_mark lbrace) >>= λ _. read_block k >>= λ b. expect (is_mark rbrace) >>= λ _.
    give (record { guard = c; body = b })

unfoldable pub read_method : ℕ → Reader Method
read_method k =
    expect (is_key k_method) >>= λ _. read_name >>= λ x. expect (is_mark lbrace) >>= λ _.
    read_some (is_key k_waituntil) (read_region k) k >>= λ rs. expect (is_mark rbrace) >>= λ _.
    give (record { title = x; regions = rs })

unfoldable pub read_try : ℕ → Reader Cond
read_try k = expect (is_key k_try) >>= λ _. read_cond k >>= λ c. expect (is_mark semicolon) >>= λ _. give c

unfoldable pub read_var : Reader Var
read_var =
    expect (is_key k_var) >>= λ _. read_name >>= λ x. expect (is_mark equals) >>= λ _. read_int >>= λ s.
    expect (is_key k_in) >>= λ _. read_int >>= λ l. expect (is_mark dots) >>= λ _. read_int >>= λ h.
    expect (is_mark semicolon) >>= λ _. give (record { title = x; start = s; low = l; high = h })

unfoldable pub at_end : Reader (Unit {0})
at_end [] = got tt []
at_end (l ∷ ls) = stuck (l ∷ ls)

unfoldable pub read_monitor : ℕ → Reader Monitor
read_monitor k =
    expect (is_key k_monitor) >>= λ _. read_name >>= λ x. expect (is_mark lbrace) >>= λ _.
    read_some (is_key k_var) read_var k >>= λ vs. expect (is_key k_keep) >>= λ _. read_cond k >>= λ c.
    expect (is_mark semicolon) >>= λ _. read_many (is_key k_try) (read_try k) k >>= λ ts.
    read_some (is_key k_method) (read_method k) k >>= λ ms. expect (is_mark rbrace) >>= λ _. at_end >>= λ _.
    give (record { title = x; vars = vs; keep = c; tries = ts; methods = ms })

unfoldable pub read : List Lexeme → Got Monitor
read ls = read_monitor (4 * (length ls + 1)) ls
