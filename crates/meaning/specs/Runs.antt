-- States as values, the runs of bodies from them as a relation, and the regions of a file by number.
use Rattle.std.specs.Prelude.{ℕ, ◌≡◌, true, false, List, [], ◌∷◌, ◌++◌, ℤ}
use Rattle.std.proofs.Math.Option.{some}
use Rattle.std.proofs.Math.ListN.{get_elem?}
use Rattle.syntax.specs.Tree.{Expr, Cond, Block, end, then, Stmt, assign, if_then, if_else, Region, Var, Monitor, all}
use Rattle.syntax.specs.Tree.{Method}
use Rattle.meaning.specs.Value.{in_range, expr_value, cond_value}

-- States: one value in its range for each variable (R 3.13)
pub data State : List Var → List ℤ → Type 0 where
  no_values : State [] []
  one_value : {v : Var} {vs : List Var} {a : ℤ} {as' : List ℤ} → in_range v a ≡ true → State vs as'
      → State (v ∷ vs) (a ∷ as')

-- the values after an assignment to the variable named x: the first of that name takes the value, within its range
-- (R 4.13)
pub data Assigns : List Var → List ℤ → List ℕ → ℤ → List ℤ → Type 0 where
  here :
      {v : Var} {vs : List Var} {a b : ℤ} {as' : List ℤ} {x : List ℕ} → v.title ≡ x → in_range v b ≡ true
      → Assigns (v ∷ vs) (a ∷ as') x b (b ∷ as')
  later :
      {v : Var} {vs : List Var} {a b : ℤ} {as' bs : List ℤ} {x : List ℕ} → (v.title ≡ x → ⊥) → Assigns vs as' x b bs
      → Assigns (v ∷ vs) (a ∷ as') x b (a ∷ bs)

-- a body's run, in which each assignment stays in range as it is made and nothing lacks a value (R 4.25)
mutual
  -- (R 4.11, 4.18)
  pub data BlockRuns (vs : List Var) : Block → List ℤ → List ℤ → Type 0 where
    ends : {as' : List ℤ} → BlockRuns vs end as' as'
    goes_on :
        {s : Stmt} {b : Block} {as' bs cs : List ℤ} → StmtRuns vs s as' bs → BlockRuns vs b bs cs
        → BlockRuns vs (then s b) as' cs

  -- (R 4.12, 4.13, 4.16, 4.17)
  pub data StmtRuns (vs : List Var) : Stmt → List ℤ → List ℤ → Type 0 where
    assigns :
        {x : List ℕ} {e : Expr} {as' bs : List ℤ} {a : ℤ} → expr_value vs as' e ≡ some a → Assigns vs as' x a bs
        → StmtRuns vs (assign x e) as' bs
    if_true : {c : Cond} {b : Block} {as' bs : List ℤ} → cond_value c vs as' ≡ some true → BlockRuns vs b as' bs
        → StmtRuns vs (if_then c b) as' bs
    if_false : {c : Cond} {b : Block} {as' : List ℤ} → cond_value c vs as' ≡ some false
        → StmtRuns vs (if_then c b) as' as'
    else_true :
        {c : Cond} {a b : Block} {as' bs : List ℤ} → cond_value c vs as' ≡ some true → BlockRuns vs a as' bs
        → StmtRuns vs (if_else c a b) as' bs
    else_false :
        {c : Cond} {a b : Block} {as' bs : List ℤ} → cond_value c vs as' ≡ some false → BlockRuns vs b as' bs
        → StmtRuns vs (if_else c a b) as' bs

-- the regions of all methods, in file order (R 3.2)
unfoldable pub regions_of : List Method → List Region
regions_of [] = []
regions_of (m ∷ ms) = all m.regions ++ regions_of ms

-- the region with a number (R 3.2)
unfoldable pub IsRegion : Monitor → ℕ → Region → Type 0
IsRegion m k r = get_elem? (regions_of (all m.methods)) k ≡ some r
