-- The faults of a body: it "assigns outside a range at any moment", or a value is missing.
use Rattle.std.specs.Prelude.{ℕ, ◌≡◌, true, false, List, [], ◌∷◌, ℤ}
use Rattle.std.proofs.Math.Option.{none, some}
use Rattle.syntax.specs.Tree.{Expr, Cond, Block, then, Stmt, assign, if_then, if_else, Var}
use Rattle.meaning.specs.Value.{in_range, expr_value, cond_value}
use Rattle.meaning.specs.Runs.{StmtRuns}

-- a value is outside the range of the first variable named x; or there is none of that name, which 6 refuses (R 4.14, 4.20)
pub data Outside : List Var → List ℕ → ℤ → Type 0 where
  undeclared : {x : List ℕ} {b : ℤ} → Outside [] x b
  out_here : {v : Var} {vs : List Var} {x : List ℕ} {b : ℤ} → v.title ≡ x → in_range v b ≡ false → Outside (v ∷ vs) x b
  out_later : {v : Var} {vs : List Var} {x : List ℕ} {b : ℤ} → (v.title ≡ x → ⊥) → Outside vs x b
      → Outside (v ∷ vs) x b

-- a body comes to such an assignment, or to a value that is missing: "In a body, a missing value counts with the range
-- faults of 9 and of E1's choice" (R 4.14, 4.25)
mutual
  pub data BlockFaults (vs : List Var) : Block → List ℤ → Type 0 where
    faults_first : {s : Stmt} {b : Block} {as' : List ℤ} → StmtFaults vs s as' → BlockFaults vs (then s b) as'
    faults_later :
        {s : Stmt} {b : Block} {as' bs : List ℤ} → StmtRuns vs s as' bs → BlockFaults vs b bs
        → BlockFaults vs (then s b) as'

  pub data StmtFaults (vs : List Var) : Stmt → List ℤ → Type 0 where
    no_value : {x : List ℕ} {e : Expr} {as' : List ℤ} → expr_value vs as' e ≡ none → StmtFaults vs (assign x e) as'
    assigns_outside : {x : List ℕ} {e : Expr} {as' : List ℤ} {a : ℤ} → expr_value vs as' e ≡ some a → Outside vs x a
        → StmtFaults vs (assign x e) as'
    if_lacks : {c : Cond} {b : Block} {as' : List ℤ} → cond_value c vs as' ≡ none → StmtFaults vs (if_then c b) as'
    if_faults : {c : Cond} {b : Block} {as' : List ℤ} → cond_value c vs as' ≡ some true → BlockFaults vs b as'
        → StmtFaults vs (if_then c b) as'
    else_lacks : {c : Cond} {a b : Block} {as' : List ℤ} → cond_value c vs as' ≡ none → StmtFaults vs (if_else c a b) as'
    then_faults :
        {c : Cond} {a b : Block} {as' : List ℤ} → cond_value c vs as' ≡ some true → BlockFaults vs a as'
        → StmtFaults vs (if_else c a b) as'
    else_faults :
        {c : Cond} {a b : Block} {as' : List ℤ} → cond_value c vs as' ≡ some false → BlockFaults vs b as'
        → StmtFaults vs (if_else c a b) as'
