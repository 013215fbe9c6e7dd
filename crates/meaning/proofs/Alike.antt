-- What is evaluated depends on the variables that the text names, and on no others: from values that are alike on those
-- a condition has one truth, and the two runs of a body go together, variable by variable. By induction on trees.
use Prim.Native.Nat.{ℕ, ◌+◌, ◌*◌}
use native.Mathlib.Omega.{arith}
use mathlib.Core.Path.{◌≡◌, refl, sym, ap, ap₂, subst, ◌∙◌}
use mathlib.Core.Bool.{Bool, true, false, not, ◌&&◌, ◌||◌}
use mathlib.Core.Logic.{◌⊎◌, inl, inr}
use mathlib.Core.List.Memᴰ
use mathlib.Core.List.{List, [], ◌∷◌, ◌++◌, Memᴰ}
use mathlib.Core.Option.{Option, none, some, some-injective}
use lib.ListN.{length}
use lib.IntN.{ℤ, nat_abs, ◌-ℤ◌}
use Rattle.syntax.specs.Bytes.{same_bytes}
use Rattle.syntax.specs.Token.{Lexeme, name}
use Rattle.syntax.specs.Tree.{Atom, literal, variable, Term, alone, remainder, Signed, Expr, Cond, only, or, Conj}
use Rattle.syntax.specs.Tree.{just, and, Simple, negation, bracketed, constant, compare, Block, end, then, Stmt, assign, if_then, if_else, Var}
use Rattle.syntax.specs.Tree.{each, spell_atom, spell_term, spell_signed, spell_expr, spell_cond, spell_conj, spell_simple, spell_block}
use Rattle.syntax.specs.Tree.{spell_stmt}
use Rattle.meaning.specs.Value.{int_of, compares, value_of, in_range, atom_value, modulo, of_one, of_both, term_value}
use Rattle.meaning.specs.Value.{joined, terms_value, expr_value, cond_value, conj_value, simple_value, is_true, truth}
use Rattle.meaning.specs.State.{count, number_of}
use Rattle.meaning.specs.Decide.Bodies.{assigned, and_then, run_block, run_stmt}
use Rattle.logic.proofs.Bools.{split, no_some}

-- two lists of values are alike on the names that pass a test
pub record Alike (P : List ℕ → Bool) (vs : List Var) (as' bs : List ℤ) : Type 0 where
  pub same_value : (x : List ℕ) → P x ≡ true → value_of vs as' x ≡ value_of vs bs x

-- every name in a text passes
abbrev pub NamesPass : (List ℕ → Bool) → List Lexeme → Type 0
NamesPass P ls = (x : List ℕ) → Memᴰ (name x) ls → P x ≡ true

-- in a part of the text too
module _ {P : List ℕ → Bool} where
  in_left : (s t : List Lexeme) → NamesPass P (s ++ t) → NamesPass P s
  in_left s t h x m = h x (Memᴰ.append_left t m)

  in_right : (s t : List Lexeme) → NamesPass P (s ++ t) → NamesPass P t
  in_right s t h x m = h x (Memᴰ.append_right s m)

  in_rest : (l : Lexeme) (t : List Lexeme) → NamesPass P (l ∷ t) → NamesPass P t
  in_rest l t h x m = h x (Memᴰ.tail m)

  -- behind a part and the lexeme at its end
  past : (s : List Lexeme) (l : Lexeme) (t : List Lexeme) → NamesPass P (s ++ (l ∷ t)) → NamesPass P t
  past s l t h = in_rest l t (in_right s (l ∷ t) h)

-- Values and truths

module _ {P : List ℕ → Bool} {vs : List Var} {as' bs : List ℤ} (same : Alike P vs as' bs) where
  atom_value_lem : (a : Atom) → NamesPass P (spell_atom a) → atom_value vs as' a ≡ atom_value vs bs a
  unfolding spell_atom atom_value
  atom_value_lem (literal i) h = refl
  atom_value_lem (variable x) h = same.same_value x (h x (Memᴰ.head refl))

  term_value_lem : (t : Term) → NamesPass P (spell_term t) → term_value vs as' t ≡ term_value vs bs t
  unfolding spell_term term_value
  term_value_lem (alone a) h = ap some (atom_value_lem a h)
  term_value_lem (remainder a b) h =
      ap₂ modulo (atom_value_lem a (in_left (spell_atom a) _ h)) (atom_value_lem b (past (spell_atom a) _ _ h))

  terms_value_lem : (a b : Option ℤ) (ts : List Signed) → a ≡ b → NamesPass P (each spell_signed ts)
      → terms_value vs as' a ts ≡ terms_value vs bs b ts
  unfolding each spell_signed terms_value
  terms_value_lem a b [] e h = e
  terms_value_lem a b (t ∷ ts) e h =
      let one = term_value_lem t.term (in_rest _ _ (in_left (spell_signed t) (each spell_signed ts) h)) in
      terms_value_lem (of_both (joined t.sign) a (term_value vs as' t.term)) (of_both (joined t.sign) b (term_value vs bs t.term)) ts
      (ap₂ (of_both (joined t.sign)) e one) (in_right (spell_signed t) (each spell_signed ts) h)

  expr_value_lem : (e : Expr) → NamesPass P (spell_expr e) → expr_value vs as' e ≡ expr_value vs bs e
  unfolding spell_expr expr_value
  expr_value_lem e h =
      let s = spell_term e.first in
      terms_value_lem _ _ e.more (term_value_lem e.first (in_left s _ h)) (in_right s _ h)

  mutual
    unfolding spell_cond cond_value

    cond_value_lem : (c : Cond) → NamesPass P (spell_cond c) → cond_value c vs as' ≡ cond_value c vs bs
    cond_value_lem (only c) h = conj_value_lem c h
    cond_value_lem (or c d) h =
        ap₂ (of_both ◌||◌) (conj_value_lem c (in_left (spell_conj c) _ h)) (cond_value_lem d (past (spell_conj c) _ _ h))

    conj_value_lem : (c : Conj) → NamesPass P (spell_conj c) → conj_value c vs as' ≡ conj_value c vs bs
    conj_value_lem (just s) h = simple_value_lem s h
    conj_value_lem (and s c) h =
        ap₂ (of_both ◌&&◌) (simple_value_lem s (in_left (spell_simple s) _ h)) (conj_value_lem c (past (spell_simple s) _ _ h))

    simple_value_lem : (s : Simple) → NamesPass P (spell_simple s) → simple_value s vs as' ≡ simple_value s vs bs
    simple_value_lem (negation s) h = ap (of_one not) (simple_value_lem s (in_rest _ _ h))
    simple_value_lem (bracketed c) h = cond_value_lem c (in_left (spell_cond c) _ (in_rest _ _ h))
    simple_value_lem (constant b) h = refl
    simple_value_lem (compare e o f) h =
        ap₂ (of_both (compares o)) (expr_value_lem e (in_left (spell_expr e) _ h)) (expr_value_lem f (past (spell_expr e) _ _ h))

pub truth_alike : {P : List ℕ → Bool} {vs : List Var} {as' bs : List ℤ} (c : Cond) → NamesPass P (spell_cond c)
    → Alike P vs as' bs → truth c vs as' ≡ truth c vs bs
unfolding truth
truth_alike c h same = ap is_true (cond_value_lem same c h)

-- Two runs

-- of one variable, from a to b by one run and from a' to b' by another: both see it the same and leave it the same, or
-- neither changes it
abbrev pub Kin : ℤ → ℤ → ℤ → ℤ → Type 0
Kin a b a' b' = ((a ≡ a') × (b ≡ b')) ⊎ ((a ≡ b) × (a' ≡ b'))

pub data Kins : List Var → List ℤ → List ℤ → List ℤ → List ℤ → Type 0 where
  no_kin : Kins [] [] [] [] []
  one_kin :
      {v : Var} {vs : List Var} {a b a' b' : ℤ} {as' bs cs ds : List ℤ} → Kin a b a' b' → Kins vs as' bs cs ds
      → Kins (v ∷ vs) (a ∷ as') (b ∷ bs) (a' ∷ cs) (b' ∷ ds)

pub kins_still : (vs : List Var) (as' cs : List ℤ) → length as' ≡ length vs → length cs ≡ length vs
    → Kins vs as' as' cs cs
kins_still [] [] [] p q = no_kin
kins_still [] [] (c ∷ cs) p q = absurd (omega arith)
kins_still [] (a ∷ as') cs p q = absurd (omega arith)
kins_still (v ∷ vs) [] cs p q = absurd (omega arith)
kins_still (v ∷ vs) (a ∷ as') [] p q = absurd (omega arith)
kins_still (v ∷ vs) (a ∷ as') (c ∷ cs) p q =
    one_kin (inr (refl, refl)) (kins_still vs as' cs (omega arith) (omega arith))

kin_then : {a b c a' b' c' : ℤ} → Kin a b a' b' → Kin b c b' c' → Kin a c a' c'
kin_then (inl (p, q)) (inl (r, s)) = inl (p, s)
kin_then (inl (p, q)) (inr (r, s)) = inl (p, sym r ∙ q ∙ s)
kin_then (inr (p, q)) (inl (r, s)) = inl (p ∙ r ∙ sym q, s)
kin_then (inr (p, q)) (inr (r, s)) = inr (p ∙ r, q ∙ s)

pub kins_then : {vs : List Var} {as' bs cs ds es fs : List ℤ} → Kins vs as' bs ds es → Kins vs bs cs es fs
    → Kins vs as' cs ds fs
kins_then no_kin no_kin = no_kin
kins_then (one_kin k r) (one_kin l s) = one_kin (kin_then k l) (kins_then r s)

pub kins_long : {vs : List Var} {as' bs cs ds : List ℤ} → Kins vs as' bs cs ds
    → (length bs ≡ length vs) × (length ds ≡ length vs)
kins_long no_kin = (refl, refl)
kins_long (one_kin k r) = let t = kins_long r in (omega arith, omega arith)

kin_end : {a b a' b' : ℤ} → Kin a b a' b' → a ≡ a' → b ≡ b'
kin_end (inl (p, q)) e = q
kin_end (inr (p, q)) e = sym p ∙ e ∙ q

-- a variable that was the same is so behind the runs
pub kins_value : {vs : List Var} {as' bs cs ds : List ℤ} → Kins vs as' bs cs ds → (x : List ℕ)
    → value_of vs as' x ≡ value_of vs cs x → value_of vs bs x ≡ value_of vs ds x
unfolding value_of
kins_value no_kin x e = e
kins_value (one_kin {v} k r) x e =
    split (same_bytes v.title x) (λ h. rw (h, value_of) (kin_end k (rw (h, value_of) at e)))
    (λ h. rw (h, value_of) (kins_value r x (rw (h, value_of) at e)))

pub kins_alike : {P : List ℕ → Bool} {vs : List Var} {as' bs cs ds : List ℤ} → Kins vs as' bs cs ds
    → Alike P vs as' cs → Alike P vs bs ds
kins_alike k same = record { same_value = λ x p. kins_value k x (same.same_value x p) }

kin_number : (f : ℤ → ℕ) {a b c d : ℤ} → Kin a c b d → f c + f b ≡ f d + f a
kin_number f (inl (p, q)) = omega (arith, ap f p, ap f q)
kin_number f (inr (p, q)) = omega (arith, ap f p, ap f q)

-- the numbers of the states move alike
pub kins_number : {vs : List Var} {as' bs cs ds : List ℤ} → Kins vs as' cs bs ds
    → number_of vs cs + number_of vs bs ≡ number_of vs ds + number_of vs as'
unfolding number_of
kins_number no_kin = refl
kins_number (one_kin {v} {vs} k r) =
    let one = kin_number (λ (z : ℤ). nat_abs (z -ℤ int_of v.low) * count vs) k in
    omega (arith, one, kins_number r)

-- two runs, from as' and from bs, both fault, or both end and go together
pub data Together (vs : List Var) (as' bs : List ℤ) : Option (List ℤ) → Option (List ℤ) → Type 0 where
  both_fault : Together vs as' bs none none
  both_end : {cs ds : List ℤ} → Kins vs as' cs bs ds → Together vs as' bs (some cs) (some ds)

-- Bodies

module _ {vs : List Var} where
  follow : {as' bs cs ds : List ℤ} {o p : Option (List ℤ)} → Kins vs as' cs bs ds → Together vs cs ds o p
      → Together vs as' bs o p
  follow k both_fault = both_fault
  follow k (both_end l) = both_end (kins_then k l)

  in_turn : {as' bs : List ℤ} {o p : Option (List ℤ)} (f : List ℤ → Option (List ℤ)) → Together vs as' bs o p
      → ((cs ds : List ℤ) → Kins vs as' cs bs ds → Together vs cs ds (f cs) (f ds))
      → Together vs as' bs (and_then o f) (and_then p f)
  unfolding and_then
  in_turn f both_fault g = both_fault
  in_turn f (both_end {cs} {ds} k) g = follow k (g cs ds k)

  -- both go on by the same value, or lack it
  by_value : {A : Type 0} {as' bs : List ℤ} {f g : A → Option (List ℤ)} (a b : Option A) → a ≡ b
      → ((x : A) → Together vs as' bs (f x) (g x)) → Together vs as' bs (and_then a f) (and_then b g)
  unfolding and_then
  by_value none none e h = both_fault
  by_value none (some y) e h = no_some e
  by_value (some x) none e h = no_some (sym e)
  by_value {as' = as'} {bs} {f} {g} (some x) (some y) e h =
      subst (λ z. Together vs as' bs (f x) (g z)) (some-injective _ _ e) (h x)

  -- both take the same branch
  one_branch : {as' bs : List ℤ} {o o' p p' : Option (List ℤ)} → Together vs as' bs o p → Together vs as' bs o' p'
      → (t : Bool)
      → Together vs as' bs (elim t [ true ↦ o | false ↦ o' ]) (elim t [ true ↦ p | false ↦ p' ])
  one_branch f g true = f
  one_branch f g false = g

  -- one more variable, which an assignment leaves
  left_alone : (v : Var) (a b : ℤ) {as' bs : List ℤ} {o p : Option (List ℤ)} → Together vs as' bs o p
      → Together (v ∷ vs) (a ∷ as') (b ∷ bs) (elim o [ none ↦ none | some cs ↦ some (a ∷ cs) ])
      (elim p [ none ↦ none | some cs ↦ some (b ∷ cs) ])
  left_alone v a b both_fault = both_fault
  left_alone v a b (both_end k) = both_end (one_kin (inr (refl, refl)) k)

assigned_alike : (vs : List Var) (as' bs : List ℤ) (x : List ℕ) (e : ℤ) → length as' ≡ length vs
    → length bs ≡ length vs → value_of vs as' x ≡ value_of vs bs x
    → Together vs as' bs (assigned vs as' x e) (assigned vs bs x e)
unfolding assigned value_of
assigned_alike [] as' bs x e p q h = both_fault
assigned_alike (v ∷ vs) [] bs x e p q h = absurd (omega arith)
assigned_alike (v ∷ vs) (a ∷ as') [] x e p q h = absurd (omega arith)
assigned_alike (v ∷ vs) (a ∷ as') (b ∷ bs) x e p q h =
    split (same_bytes v.title x)
    (λ s. split (in_range v e)
    (λ r. rw (s, assigned, r) (both_end (one_kin (inl (rw (s, value_of) at h, refl))
    (kins_still vs as' bs (omega arith) (omega arith)))))
    (λ r. rw (s, assigned, r) both_fault))
    (λ s. rw (s, assigned)
    (left_alone v a b (assigned_alike vs as' bs x e (omega arith) (omega arith) (rw (s, value_of) at h))))

module _ {P : List ℕ → Bool} {vs : List Var} where
  mutual
    unfolding run_block run_stmt spell_block

    block_alike : (b : Block) → NamesPass P (spell_block b) → (as' bs : List ℤ) → length as' ≡ length vs
        → length bs ≡ length vs → Alike P vs as' bs → Together vs as' bs (run_block b vs as') (run_block b vs bs)
    block_alike end h as' bs p q same = both_end (kins_still vs as' bs p q)
    block_alike (then s b) h as' bs p q same =
        in_turn (λ cs. run_block b vs cs) (stmt_alike s (in_left (spell_stmt s) (spell_block b) h) as' bs p q same)
        (λ cs ds k. let l = kins_long k in
        block_alike b (in_right (spell_stmt s) (spell_block b) h) cs ds l.0 l.1 (kins_alike k same))

    stmt_alike : (s : Stmt) → NamesPass P (spell_stmt s) → (as' bs : List ℤ) → length as' ≡ length vs
        → length bs ≡ length vs → Alike P vs as' bs → Together vs as' bs (run_stmt s vs as') (run_stmt s vs bs)
    stmt_alike (assign x e) h as' bs p q same =
        by_value _ _ (expr_value_lem same e (in_left (spell_expr e) _ (in_rest _ _ (in_rest _ _ h))))
        (λ b. assigned_alike vs as' bs x b p q (same.same_value x (h x (Memᴰ.head refl))))
    stmt_alike (if_then c b) h as' bs p q same =
        let k = in_rest _ _ (in_rest _ _ h) in
        let l = in_rest _ _ (past (spell_cond c) _ _ k) in
        by_value _ _ (cond_value_lem same c (in_left (spell_cond c) _ k))
        (one_branch (block_alike b (in_left (spell_block b) _ l) as' bs p q same) (both_end (kins_still vs as' bs p q)))
    stmt_alike (if_else c a b) h as' bs p q same =
        let k = in_rest _ _ (in_rest _ _ h) in
        let l = in_rest _ _ (past (spell_cond c) _ _ k) in
        let n = in_rest _ _ (in_rest _ _ (past (spell_block a) _ _ l)) in
        by_value _ _ (cond_value_lem same c (in_left (spell_cond c) _ k))
        (one_branch (block_alike a (in_left (spell_block a) _ l) as' bs p q same)
        (block_alike b (in_left (spell_block b) _ n) as' bs p q same))

pub runs_alike : {P : List ℕ → Bool} {vs : List Var} {as' bs : List ℤ} (b : Block) → NamesPass P (spell_block b)
    → length as' ≡ length vs → length bs ≡ length vs → Alike P vs as' bs
    → Together vs as' bs (run_block b vs as') (run_block b vs bs)
runs_alike {as' = as'} {bs = bs} b h p q same = block_alike b h as' bs p q same
