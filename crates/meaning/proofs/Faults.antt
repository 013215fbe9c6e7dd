-- Refusal 9 in positive words: a body does not keep from a state exactly where it faults or "ends with the kept condition
-- false". A body runs or faults, by induction on trees, and not both.
use Prim.Native.Nat.{ℕ}
use mathlib.Core.Path.{◌≡◌, refl, sym, ◌∙◌}
use mathlib.Core.Bool.{Bool, true, false}
use mathlib.Core.Logic.{◌⊎◌, inl, inr, ⊎_elim, ◌↔◌}
use mathlib.Core.List.{List, [], ◌∷◌}
use mathlib.Core.Option.{Option, none, some, some-injective}
use lib.IntN.{ℤ}
use Rattle.syntax.specs.Bytes.{same_bytes}
use Rattle.syntax.specs.Tree.{Block, end, then, Stmt, assign, if_then, if_else, Region, Var, Monitor, all}
use Rattle.meaning.specs.Value.{in_range, expr_value, cond_value}
use Rattle.meaning.specs.Decide.Bodies.{assigned, and_then, run_block, run_stmt}
use Rattle.meaning.specs.Runs.{State, no_values, one_value, Assigns, here, later, BlockRuns, ends, goes_on}
use Rattle.meaning.specs.Runs.{StmtRuns, assigns, if_true, if_false, else_true, else_false}
use Rattle.meaning.specs.Faults.{Outside, undeclared, out_here, out_later, BlockFaults, faults_first, faults_later}
use Rattle.meaning.specs.Faults.{StmtFaults, no_value, assigns_outside, if_lacks, if_faults, else_lacks, then_faults}
use Rattle.meaning.specs.Faults.{else_faults}
use Rattle.meaning.specs.Kept.{kept_at}
use Rattle.meaning.specs.Accepted.{Keeps}
use Rattle.logic.proofs.Bools.{split, clash, is_false, no_some}
use Rattle.syntax.proofs.Lexemes.{decides_same}
use Rattle.meaning.proofs.BodyLaws.{run_of_block_runs, run_of_stmt_runs, stmt_runs_state}

-- A body that faults does not run

outside_none : {vs : List Var} {x : List ℕ} {b : ℤ} (as' : List ℤ) → Outside vs x b → assigned vs as' x b ≡ none
unfolding assigned
outside_none as' undeclared = refl
outside_none [] (out_here e r) = refl
outside_none (a ∷ as') (out_here {v = v} {x = x} e r) = cc ((decides_same x x).1 refl)
outside_none [] (out_later ne t) = refl
outside_none (a ∷ as') (out_later {v = v} {x = x} ne t) =
    cc (is_false (λ s. ne ((decides_same v.title x).0 s)), outside_none as' t)

mutual
  unfolding run_block run_stmt and_then

  block_none : {vs : List Var} {b : Block} {as' : List ℤ} → BlockFaults vs b as' → run_block b vs as' ≡ none
  block_none (faults_first t) = cc (stmt_none t)
  block_none (faults_later r t) = cc (run_of_stmt_runs r, block_none t)

  stmt_none : {vs : List Var} {s : Stmt} {as' : List ℤ} → StmtFaults vs s as' → run_stmt s vs as' ≡ none
  stmt_none (no_value v) = cc
  stmt_none (assigns_outside {as' = as'} v o) = cc (outside_none as' o)
  stmt_none (if_lacks v) = cc
  stmt_none (else_lacks v) = cc
  stmt_none (if_faults t f) = cc (block_none f)
  stmt_none (then_faults t f) = cc (block_none f)
  stmt_none (else_faults t f) = cc (block_none f)

-- A body runs or faults

assigns_or_outside : {vs : List Var} {as' : List ℤ} → State vs as' → (x : List ℕ) (b : ℤ)
    → ((bs : List ℤ) × Assigns vs as' x b bs) ⊎ Outside vs x b
assigns_or_outside no_values x b = inr undeclared
assigns_or_outside (one_value {v} {a = a} {as' = as'} r s) x b =
    split (same_bytes v.title x)
    (λ same. let e = (decides_same v.title x).0 same in
    split (in_range v b) (λ q. inl (b ∷ as', here e q)) (λ q. inr (out_here e q)))
    (λ other. let ne : (v.title ≡ x → ⊥) = λ e. clash ((decides_same v.title x).1 e) other in
    ⊎_elim (λ t. inl (a ∷ t.0, later ne t.1)) (λ o. inr (out_later ne o)) (assigns_or_outside s x b))

mutual
  runs_or_faults : {vs : List Var} (b : Block) (as' : List ℤ) → State vs as'
      → ((bs : List ℤ) × BlockRuns vs b as' bs) ⊎ BlockFaults vs b as'
  runs_or_faults end as' s = inl (as', ends)
  runs_or_faults (then c b) as' s =
      ⊎_elim
      (λ t. ⊎_elim (λ u. inl (u.0, goes_on t.1 u.1)) (λ f. inr (faults_later t.1 f))
      (runs_or_faults b t.0 (stmt_runs_state t.1 s)))
      (λ f. inr (faults_first f)) (stmt_runs_or_faults c as' s)

  stmt_runs_or_faults : {vs : List Var} (c : Stmt) (as' : List ℤ) → State vs as'
      → ((bs : List ℤ) × StmtRuns vs c as' bs) ⊎ StmtFaults vs c as'
  stmt_runs_or_faults {vs} (assign x e) as' s = one (expr_value vs as' e) refl
    where
      one : (o : Option ℤ) → expr_value vs as' e ≡ o
          → ((bs : List ℤ) × StmtRuns vs (assign x e) as' bs) ⊎ StmtFaults vs (assign x e) as'
      one none v = inr (no_value v)
      one (some a) v =
          ⊎_elim (λ t. inl (t.0, assigns v t.1)) (λ o. inr (assigns_outside v o)) (assigns_or_outside s x a)
  stmt_runs_or_faults {vs} (if_then c b) as' s = one (runs_or_faults b as' s) (cond_value c vs as') refl
    where
      one : ((bs : List ℤ) × BlockRuns vs b as' bs) ⊎ BlockFaults vs b as' → (o : Option Bool) → cond_value c vs as' ≡ o
          → ((bs : List ℤ) × StmtRuns vs (if_then c b) as' bs) ⊎ StmtFaults vs (if_then c b) as'
      one r none t = inr (if_lacks t)
      one r (some true) t = ⊎_elim (λ u. inl (u.0, if_true t u.1)) (λ f. inr (if_faults t f)) r
      one r (some false) t = inl (as', if_false t)
  stmt_runs_or_faults {vs} (if_else c a b) as' s =
      one (runs_or_faults a as' s) (runs_or_faults b as' s) (cond_value c vs as') refl
    where
      one : ((bs : List ℤ) × BlockRuns vs a as' bs) ⊎ BlockFaults vs a as'
          → ((bs : List ℤ) × BlockRuns vs b as' bs) ⊎ BlockFaults vs b as' → (o : Option Bool) → cond_value c vs as' ≡ o
          → ((bs : List ℤ) × StmtRuns vs (if_else c a b) as' bs) ⊎ StmtFaults vs (if_else c a b) as'
      one q r none t = inr (else_lacks t)
      one q r (some true) t = ⊎_elim (λ u. inl (u.0, else_true t u.1)) (λ f. inr (then_faults t f)) q
      one q r (some false) t = ⊎_elim (λ u. inl (u.0, else_false t u.1)) (λ f. inr (else_faults t f)) r

-- a body has one end
one_end : {vs : List Var} {b : Block} {as' bs cs : List ℤ} → BlockRuns vs b as' bs → BlockRuns vs b as' cs → bs ≡ cs
one_end r t = some-injective _ _ (sym (run_of_block_runs r) ∙ run_of_block_runs t)

pub not_keeps_iff : (m : Monitor) (r : Region) (as' : List ℤ) → State (all m.vars) as'
    → (Keeps m r as' → ⊥)
    ↔ (BlockFaults (all m.vars) r.body as'
    ⊎ ((bs : List ℤ) × BlockRuns (all m.vars) r.body as' bs × (kept_at m bs ≡ false)))
unfolding Keeps
not_keeps_iff m r as' s = (
  λ n. ⊎_elim (λ t. inr (t.0, t.1, is_false (λ h. n (t.0, t.1, h)))) inl (runs_or_faults r.body as' s),
  ⊎_elim (λ f k. no_some (sym (block_none f) ∙ run_of_block_runs k.1))
      (λ t k. clash k.2 (rw (one_end t.1 k.1) at t.2)),
)
