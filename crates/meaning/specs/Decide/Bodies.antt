-- Bodies, computed: the values after one, or none where it faults. `proofs/BodyLaws` shows that this is what
-- `BlockRuns` says in words.
use Rattle.std.specs.Prelude.{ℕ, true, false, List, [], ◌∷◌, ℤ}
use Rattle.std.proofs.Math.Option.{Option, none, some}
use Rattle.syntax.specs.Bytes.{same_bytes}
use Rattle.syntax.specs.Tree.{Block, end, then, Stmt, assign, if_then, if_else, Var, Region}
use Rattle.meaning.specs.Value.{expr_value, in_range, cond_value}

-- the values after an assignment, or none where it is outside the variable's range (R 4.13, 4.14, 4.20)
unfoldable pub assigned : List Var → List ℤ → List ℕ → ℤ → Option (List ℤ)
assigned [] as' x b = none
assigned (v ∷ vs) [] x b = none
assigned (v ∷ vs) (a ∷ as') x b =
    elim (same_bytes v.title x) [
      | true ↦ elim (in_range v b) [ true ↦ some (b ∷ as') | false ↦ none ]
      | false ↦ elim (assigned vs as' x b) [ none ↦ none | some bs ↦ some (a ∷ bs) ]
    ]

-- nothing later repairs a fault, and a missing value is one (R 4.15, 4.25)
unfoldable pub and_then : {A : Type 0} → Option A → (A → Option (List ℤ)) → Option (List ℤ)
and_then none f = none
and_then (some a) f = f a

-- the values after a block, or none, a fault, where it "assigns outside a range at any moment" or a value is missing
unfoldable mutual
  -- (R 4.11, 4.14, 4.18)
  pub run_block : Block → List Var → List ℤ → Option (List ℤ)
  run_block end vs as' = some as'
  run_block (then s b) vs as' = and_then (run_stmt s vs as') (λ bs. run_block b vs bs)

  -- (R 4.12, 4.16, 4.17, 4.25)
  pub run_stmt : Stmt → List Var → List ℤ → Option (List ℤ)
  run_stmt (assign x e) vs as' = and_then (expr_value vs as' e) (λ b. assigned vs as' x b)
  run_stmt (if_then c b) vs as' =
      and_then (cond_value c vs as') (λ t. elim t [ true ↦ run_block b vs as' | false ↦ some as' ])
  run_stmt (if_else c a b) vs as' =
      and_then (cond_value c vs as') (λ t. elim t [ true ↦ run_block a vs as' | false ↦ run_block b vs as' ])

-- the outcome of a region's body from some values: the values after it, or none, a fault (R 4.14, 4.19)
unfoldable pub outcome : Region → List Var → List ℤ → Option (List ℤ)
outcome r vs as' = run_block r.body vs as'
