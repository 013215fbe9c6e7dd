-- What a condition names and a body assigns, over the tree, and the touched pairs of region and guard, counted.
-- `proofs/Touching` shows that this is what `Touch` says of the text.
use Rattle.std.specs.Prelude.{ℕ, zero, suc, ◌+◌, Bool, false, ◌&&◌, ◌||◌, List, [], ◌∷◌, length, get_or}
use Rattle.syntax.specs.Bytes.{same_bytes}
use Rattle.syntax.specs.Tree.{Atom, literal, variable, Term, alone, remainder, Signed, Expr, Cond, only, or, Conj}
use Rattle.syntax.specs.Tree.{just, and, Simple, negation, bracketed, constant, compare, Block, end, then, Stmt, assign, if_then, if_else, Monitor}
use Rattle.syntax.specs.Tree.{Var}
use Rattle.meaning.specs.Bits.{each_from, ones}
use Rattle.meaning.specs.Model.{vars, regions, guards, region, no_guard}

-- "the variables that a guard names": any occurrence (R 7.18)

unfoldable pub atom_names : Atom → List ℕ → Bool
atom_names (literal i) x = false
atom_names (variable y) x = same_bytes y x

unfoldable pub term_names : Term → List ℕ → Bool
term_names (alone a) x = atom_names a x
term_names (remainder a b) x = atom_names a x || atom_names b x

unfoldable pub terms_name : List Signed → List ℕ → Bool
terms_name [] x = false
terms_name (t ∷ ts) x = term_names t.term x || terms_name ts x

unfoldable pub expr_names : Expr → List ℕ → Bool
expr_names e x = term_names e.first x || terms_name e.more x

unfoldable mutual
  pub cond_names : Cond → List ℕ → Bool
  cond_names (only c) x = conj_names c x
  cond_names (or c d) x = conj_names c x || cond_names d x

  pub conj_names : Conj → List ℕ → Bool
  conj_names (just s) x = simple_names s x
  conj_names (and s c) x = simple_names s x || conj_names c x

  pub simple_names : Simple → List ℕ → Bool
  simple_names (negation s) x = simple_names s x
  simple_names (bracketed c) x = cond_names c x
  simple_names (constant b) x = false
  simple_names (compare e o f) x = expr_names e x || expr_names f x

-- "a body's text assigns": any left side, reached or not (R 7.19)
unfoldable mutual
  pub block_assigns : Block → List ℕ → Bool
  block_assigns end x = false
  block_assigns (then s b) x = stmt_assigns s x || block_assigns b x

  pub stmt_assigns : Stmt → List ℕ → Bool
  stmt_assigns (assign y e) x = same_bytes y x
  stmt_assigns (if_then c b) x = block_assigns b x
  stmt_assigns (if_else c a b) x = block_assigns a x || block_assigns b x

-- some variable passes a test of its name
unfoldable pub any_var : List Var → (List ℕ → Bool) → Bool
any_var [] f = false
any_var (v ∷ vs) f = f v.title || any_var vs f

-- the sum of what a function gives for the numbers below n
unfoldable pub sum_of : ℕ → (ℕ → ℕ) → ℕ
sum_of zero f = 0
sum_of (suc n) f = f n + sum_of n f

module _ (m : Monitor) where
  -- a region's body assigns one of the variables that a guard names (R 7.20)
  unfoldable pub touched : ℕ → ℕ → Bool
  touched r g =
      any_var (vars m) (λ x. cond_names (get_or (guards m) g no_guard) x && block_assigns (region m r).body x)

  -- how many pairs of region and guard are touched (R 7.22)
  unfoldable pub pairs_of : ℕ
  pairs_of = sum_of (length (regions m)) (λ r. ones (each_from (length (guards m)) 0 (touched r)))
