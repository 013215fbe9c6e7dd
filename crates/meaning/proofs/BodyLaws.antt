-- Running a body is its relation `BlockRuns`, by induction on trees one way and on derivations the other; and a run
-- keeps every value in its range.
use Prim.Native.Nat.{ℕ}
use mathlib.Core.Path.{◌≡◌, refl, sym, subst}
use mathlib.Core.Bool.{Bool, true, false}
use mathlib.Core.Logic.{◌↔◌}
use mathlib.Core.List.{List, [], ◌∷◌}
use mathlib.Core.Option.{Option, none, some, some-injective}
use lib.IntN.{ℤ}
use Rattle.syntax.specs.Bytes.{same_bytes}
use Rattle.syntax.specs.Tree.{Cond, Block, end, then, Stmt, assign, if_then, if_else, Region, Var}
use Rattle.meaning.specs.Value.{in_range, expr_value, cond_value}
use Rattle.meaning.specs.Decide.Bodies.{assigned, and_then, run_block, run_stmt, outcome}
use Rattle.meaning.specs.Runs.{State, one_value, Assigns, here, later, BlockRuns, ends, goes_on, StmtRuns}
use Rattle.meaning.specs.Runs.{assigns, if_true, if_false, else_true, else_false}
use Rattle.logic.proofs.Bools.{split, clash, is_false, no_some}
use Rattle.syntax.proofs.Lexemes.{decides_same}

-- Assignments

-- the values of the first variable and of the others, where the others have some
kept_head : (a : ℤ) {bs : List ℤ} (o : Option (List ℤ)) → elim o [ none ↦ none | some cs ↦ some (a ∷ cs) ] ≡ some bs
    → (cs : List ℤ) × (o ≡ some cs) × (bs ≡ a ∷ cs)
kept_head a none h = no_some h
kept_head a (some cs) h = (cs, refl, sym (some-injective _ _ h))

pub assigns_of_assigned : (vs : List Var) (as' : List ℤ) (x : List ℕ) (b : ℤ) {bs : List ℤ}
    → assigned vs as' x b ≡ some bs → Assigns vs as' x b bs
unfolding assigned
assigns_of_assigned [] as' x b h = no_some h
assigns_of_assigned (v ∷ vs) [] x b h = no_some h
assigns_of_assigned (v ∷ vs) (a ∷ as') x b {bs} h =
    split (same_bytes v.title x)
    (λ same. split (in_range v b)
    (λ r. subst (Assigns (v ∷ vs) (a ∷ as') x b) (let e : b ∷ as' ≡ bs = cc in e)
    (here ((decides_same v.title x).0 same) r))
    (λ r. no_some (let e : none ≡ some bs = cc in e)))
    (λ other. let t = kept_head a (assigned vs as' x b) (rw (other, assigned) at h) in
    rw t.2 (later (λ e. clash ((decides_same v.title x).1 e) other) (assigns_of_assigned vs as' x b t.1)))

pub assigned_of_assigns : {vs : List Var} {as' : List ℤ} {x : List ℕ} {b : ℤ} {bs : List ℤ}
    → Assigns vs as' x b bs → assigned vs as' x b ≡ some bs
unfolding assigned
assigned_of_assigns (here {v = v} {x = x} e r) = cc ((decides_same x x).1 refl)
assigned_of_assigns (later {v = v} {x = x} ne t) =
    cc (is_false (λ s. ne ((decides_same v.title x).0 s)), assigned_of_assigns t)

pub assigns_iff : (vs : List Var) (as' : List ℤ) (x : List ℕ) (b : ℤ) (bs : List ℤ)
    → (assigned vs as' x b ≡ some bs) ↔ Assigns vs as' x b bs
assigns_iff vs as' x b bs = (assigns_of_assigned vs as' x b, assigned_of_assigns)

assigns_state : {vs : List Var} {as' : List ℤ} {x : List ℕ} {b : ℤ} {bs : List ℤ}
    → Assigns vs as' x b bs → State vs as' → State vs bs
assigns_state (here e r) (one_value q s) = one_value r s
assigns_state (later ne t) (one_value q s) = one_value q (assigns_state t s)

-- Bodies

first_then : {A : Type 0} {bs : List ℤ} (o : Option A) (f : A → Option (List ℤ)) → and_then o f ≡ some bs
    → (a : A) × (o ≡ some a) × (f a ≡ some bs)
unfolding and_then
first_then none f h = no_some h
first_then (some a) f h = (a, refl, h)

-- an if, from what its blocks do
abbrev RunsOf : List Var → Block → List ℤ → Type 0
RunsOf vs b as' = (bs : List ℤ) → run_block b vs as' ≡ some bs → BlockRuns vs b as' bs

one_block : {vs : List Var} (c : Cond) (b : Block) (as' : List ℤ) {bs : List ℤ} → RunsOf vs b as' → (u : Bool)
    → cond_value c vs as' ≡ some u
    → elim u as (λ u. Option (List ℤ)) [ true ↦ run_block b vs as' | false ↦ some as' ] ≡ some bs
    → StmtRuns vs (if_then c b) as' bs
one_block c b as' f true t h = if_true t (f _ h)
one_block {vs} c b as' f false t h =
    subst (StmtRuns vs (if_then c b) as') (some-injective _ _ h) (if_false t)

one_of_two : {vs : List Var} (c : Cond) (a b : Block) (as' : List ℤ) {bs : List ℤ} → RunsOf vs a as' → RunsOf vs b as'
    → (u : Bool) → cond_value c vs as' ≡ some u
    → elim u as (λ u. Option (List ℤ)) [ true ↦ run_block a vs as' | false ↦ run_block b vs as' ] ≡ some bs
    → StmtRuns vs (if_else c a b) as' bs
one_of_two c a b as' f g true t h = else_true t (f _ h)
one_of_two c a b as' f g false t h = else_false t (g _ h)

mutual
  unfolding run_block run_stmt

  pub block_runs_of_run : {vs : List Var} (b : Block) (as' : List ℤ) {bs : List ℤ} → run_block b vs as' ≡ some bs
      → BlockRuns vs b as' bs
  block_runs_of_run {vs} end as' h = subst (BlockRuns vs end as') (some-injective _ _ h) ends
  block_runs_of_run {vs} (then s b) as' h =
      let t = first_then (run_stmt s vs as') (λ cs. run_block b vs cs) h in
      goes_on (stmt_runs_of_run s as' t.1) (block_runs_of_run b t.0 t.2)

  pub stmt_runs_of_run : {vs : List Var} (s : Stmt) (as' : List ℤ) {bs : List ℤ} → run_stmt s vs as' ≡ some bs
      → StmtRuns vs s as' bs
  stmt_runs_of_run {vs} (assign x e) as' h =
      let t = first_then (expr_value vs as' e) (λ b. assigned vs as' x b) h in
      assigns t.1 (assigns_of_assigned vs as' x t.0 t.2)
  stmt_runs_of_run {vs} (if_then c b) as' {bs} h =
      let t = first_then (cond_value c vs as')
      (λ u. elim u as (λ u. Option (List ℤ)) [ true ↦ run_block b vs as' | false ↦ some as' ]) h in
      one_block c b as' (λ bs q. block_runs_of_run b as' q) t.0 t.1 t.2
  stmt_runs_of_run {vs} (if_else c a b) as' {bs} h =
      let t = first_then (cond_value c vs as')
      (λ u. elim u as (λ u. Option (List ℤ)) [ true ↦ run_block a vs as' | false ↦ run_block b vs as' ]) h in
      one_of_two c a b as' (λ bs q. block_runs_of_run a as' q) (λ bs q. block_runs_of_run b as' q) t.0 t.1 t.2

mutual
  unfolding run_block run_stmt and_then

  pub run_of_block_runs : {vs : List Var} {b : Block} {as' bs : List ℤ} → BlockRuns vs b as' bs → run_block b vs as'
      ≡ some bs
  run_of_block_runs ends = refl
  run_of_block_runs (goes_on r t) = cc (run_of_stmt_runs r, run_of_block_runs t)

  pub run_of_stmt_runs : {vs : List Var} {s : Stmt} {as' bs : List ℤ} → StmtRuns vs s as' bs → run_stmt s vs as'
      ≡ some bs
  run_of_stmt_runs (assigns v a) = cc (assigned_of_assigns a)
  run_of_stmt_runs (if_true t r) = cc (run_of_block_runs r)
  run_of_stmt_runs (if_false t) = cc
  run_of_stmt_runs (else_true t r) = cc (run_of_block_runs r)
  run_of_stmt_runs (else_false t r) = cc (run_of_block_runs r)

pub block_runs_iff : {vs : List Var} (b : Block) (as' bs : List ℤ)
    → (run_block b vs as' ≡ some bs) ↔ BlockRuns vs b as' bs
block_runs_iff b as' bs = (block_runs_of_run b as', run_of_block_runs)

pub stmt_runs_iff : {vs : List Var} (s : Stmt) (as' bs : List ℤ) → (run_stmt s vs as' ≡ some bs) ↔ StmtRuns vs s as' bs
stmt_runs_iff s as' bs = (stmt_runs_of_run s as', run_of_stmt_runs)

-- a region's outcome is the end of its body's run
pub runs_of_outcome : {vs : List Var} (r : Region) (as' : List ℤ) {bs : List ℤ} → outcome r vs as' ≡ some bs
    → BlockRuns vs r.body as' bs
unfolding outcome
runs_of_outcome r as' h = block_runs_of_run r.body as' h

pub outcome_of_runs : {vs : List Var} (r : Region) {as' bs : List ℤ} → BlockRuns vs r.body as' bs
    → outcome r vs as' ≡ some bs
unfolding outcome
outcome_of_runs r h = run_of_block_runs h

-- a run keeps every value in its range
mutual
  pub block_runs_state : {vs : List Var} {b : Block} {as' bs : List ℤ} → BlockRuns vs b as' bs → State vs as'
      → State vs bs
  block_runs_state ends s = s
  block_runs_state (goes_on r t) s = block_runs_state t (stmt_runs_state r s)

  pub stmt_runs_state : {vs : List Var} {c : Stmt} {as' bs : List ℤ} → StmtRuns vs c as' bs → State vs as' → State vs bs
  stmt_runs_state (assigns v a) s = assigns_state a s
  stmt_runs_state (if_true t r) s = block_runs_state r s
  stmt_runs_state (if_false t) s = s
  stmt_runs_state (else_true t r) s = block_runs_state r s
  stmt_runs_state (else_false t r) s = block_runs_state r s
