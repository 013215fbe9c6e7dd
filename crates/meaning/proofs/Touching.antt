-- The touched pairs, computed over the tree, are those of the text: each part of a tree names and assigns what its
-- lexemes do. Where a pair is not touched the body leaves the guard as it was, so the table has no entry.
use Prim.Native.Nat.{ℕ, zero, suc, ◌+◌, ◌≤◌, ◌<◌}
use native.Mathlib.Omega.{arith}
use mathlib.Core.Path.{◌≡◌, refl, sym, ap, ap₂, subst, ◌∙◌}
use mathlib.Core.Bool.{Bool, true, false, not, ◌&&◌, ◌||◌, false≢true, or-false, or_assoc, and-true, and-false}
use mathlib.Core.Logic.{◌⊎◌, inl, inr, ⊎_elim, ◌↔◌}
use mathlib.Core.List.Memᴰ
use mathlib.Core.List.{List, [], ◌∷◌, ◌++◌, Memᴰ}
use mathlib.Core.Option.{Option, none, some}
use lib.ListN.{length, get_or, length-append}
use lib.IntN.{ℤ, pos}
use Rattle.syntax.specs.Bytes.{same_bytes}
use Rattle.syntax.specs.Token.{Lexeme, name, key, number, mark, lbrace, rbrace, lparen, rparen, semicolon, becomes}
use Rattle.syntax.specs.Token.{minus, bang, and_and, or_or, k_if, k_else, k_true, k_false, k_mod}
use Rattle.syntax.specs.Decide.Lexeme.{is_mark, is_key, mark_number}
use Rattle.syntax.specs.Tree.{Int, plain, negated, Atom, literal, variable, Sign, added, taken, Term, alone, remainder}
use Rattle.syntax.specs.Tree.{Signed, Expr, Comparison}
use Rattle.syntax.specs.Tree.{eq, ne, lt, le, gt, ge, Cond, only, or, Conj, just, and, Simple, negation, bracketed}
use Rattle.syntax.specs.Tree.{constant, compare, Block, end, then, Stmt, assign, if_then, if_else, Var, Monitor, each}
use Rattle.syntax.specs.Tree.{spell_int, spell_atom, sign_mark, spell_term, spell_signed, spell_expr, comparison_mark}
use Rattle.syntax.specs.Tree.{spell_constant}
use Rattle.syntax.specs.Tree.{spell_cond, spell_conj, spell_simple, spell_block, spell_stmt}
use Rattle.machine.specs.Decide.Table.{runs, some_move, stands, entry_of}
use Rattle.machine.specs.Algorithm1 as table
use Rattle.meaning.specs.Value.{value_of, truth}
use Rattle.meaning.specs.State.{count, state_at}
use Rattle.meaning.specs.Accepted.{GoodRanges}
use Rattle.meaning.specs.Runs as run
use Rattle.meaning.specs.Runs.{BlockRuns}
use Rattle.meaning.specs.Decide.Bodies.{outcome}
use Rattle.meaning.specs.Bits.{each_from, ones}
use Rattle.meaning.specs.Model.{same_lexeme, no_guard, number_after, vars, regions, guards, region, holds}
use Rattle.meaning.specs.Model.{kept, after, model}
use Rattle.meaning.specs.Touch.{Names, LeftSide, Touched, Pair, Distinct, no_pair, one_pair, Pairs}
use Rattle.meaning.specs.Decide.Touch.{atom_names, term_names, terms_name, expr_names, cond_names, conj_names, simple_names}
use Rattle.meaning.specs.Decide.Touch.{block_assigns, stmt_assigns, any_var, sum_of, touched, pairs_of}
use Rattle.logic.proofs.Bools.{Decides, decides_or, decides_by, either, or_left, or_right, split_eq}
use Rattle.logic.proofs.Bools.{split, clash, both, and as both_true, neither, is_false, not_true}
use Rattle.logic.proofs.Any.{any_false}
use Rattle.meaning.proofs.SameGuards.{decides_lexeme}
use Rattle.meaning.proofs.Alike.{truth_alike}
use Rattle.meaning.proofs.StateLaws.{state_at_lem, state_at_number}
use Rattle.meaning.proofs.BodyLaws.{runs_of_outcome, block_runs_state}
use Rattle.meaning.proofs.ModelLaws.{kept_below}
use Rattle.syntax.proofs.Lexemes.{decides_same, decides_mark}

-- Texts

-- a text begins with `:=`
unfoldable pub begins_set : List Lexeme → Bool
begins_set [] = false
begins_set (l ∷ ls) = is_mark becomes l

-- `x :=` stands in a text
unfoldable pub assigns_in : List Lexeme → List ℕ → Bool
assigns_in [] x = false
assigns_in (l ∷ ls) x = (same_lexeme l (name x) && begins_set ls) || assigns_in ls x

begins_append : (s t : List Lexeme) → begins_set t ≡ false → begins_set (s ++ t) ≡ begins_set s
unfolding begins_set
begins_append [] t h = h
begins_append (l ∷ s) t h = refl

-- of two texts the second does not begin with `:=`, so `x :=` stands in one of them
assigns_append : (s t : List Lexeme) (x : List ℕ) → begins_set t ≡ false
    → assigns_in (s ++ t) x ≡ assigns_in s x || assigns_in t x
unfolding assigns_in
assigns_append [] t x h = refl
assigns_append (l ∷ s) t x h =
    ap₂ (λ (a b : Bool). (same_lexeme l (name x) && a) || b) (begins_append s t h) (assigns_append s t x h)
    ∙ sym (or_assoc (same_lexeme l (name x) && begins_set s) (assigns_in s x) (assigns_in t x))

-- where it stands
abbrev SetIn : List Lexeme → List ℕ → Type 0
SetIn ls x = (before behind : List Lexeme) × (ls ≡ before ++ (name x ∷ mark becomes ∷ behind))

begins_with : (ls : List Lexeme) → begins_set ls ≡ true → (rest : List Lexeme) × (ls ≡ mark becomes ∷ rest)
unfolding begins_set
begins_with [] h = absurd (false≢true h)
begins_with (l ∷ ls) h = (ls, ap {B = List Lexeme} (λ k. k ∷ ls) ((decides_mark becomes l).0 h))

set_in : (ls : List Lexeme) (x : List ℕ) → assigns_in ls x ≡ true → SetIn ls x
unfolding assigns_in
set_in [] x h = absurd (false≢true h)
set_in (l ∷ ls) x h =
    ⊎_elim
    (λ e.
    let t = both (same_lexeme l (name x)) (begins_set ls) e in
    let p = (decides_lexeme l (name x)).0 t.0 in
    let u = begins_with ls t.1 in
    let q = u.1 in ([], u.0, cc))
    (λ e. let t = set_in ls x e in (l ∷ t.0, t.1, ap {B = List Lexeme} (λ k. l ∷ k) t.2))
    (either (same_lexeme l (name x) && begins_set ls) (assigns_in ls x) h)

in_set : (before behind : List Lexeme) (x : List ℕ)
    → assigns_in (before ++ (name x ∷ mark becomes ∷ behind)) x ≡ true
unfolding assigns_in begins_set is_mark mark_number
in_set [] behind x =
    or_left (same_lexeme (name x) (name x) && true) _ (both_true ((decides_lexeme (name x) (name x)).1 refl) refl)
in_set (l ∷ before) behind x = or_right (same_lexeme l (name x) && _) _ (in_set before behind x)

set_iff : (ls : List Lexeme) (x : List ℕ) → (assigns_in ls x ≡ true) ↔ SetIn ls x
set_iff ls x =
    (set_in ls x, λ t. ap (λ (k : List Lexeme). assigns_in k x) t.2 ∙ in_set t.0 t.1 x)

-- no other mark of an expression or a condition is `:=`

sign_not : (s : Sign) → is_mark becomes (mark (sign_mark s)) ≡ false
unfolding is_mark mark_number sign_mark
sign_not added = refl
sign_not taken = refl

comparison_not : (o : Comparison) → is_mark becomes (mark (comparison_mark o)) ≡ false
unfolding is_mark mark_number comparison_mark
comparison_not eq = refl
comparison_not ne = refl
comparison_not lt = refl
comparison_not le = refl
comparison_not gt = refl
comparison_not ge = refl

module _ (x : List ℕ) where
  -- `x :=` stands in a text that does not begin with `:=`, or not
  record Sets (w : List Lexeme) (b : Bool) : Type 0 where
    sets : assigns_in w x ≡ b
    begins : begins_set w ≡ false

  -- a text without any `:=` for x, and whether it names x
  record Text (w : List Lexeme) (b : Bool) : Type 0 where
    names : Decides b (Memᴰ (name x) w)
    free : Sets w false

  nil : Sets [] false
  unfolding assigns_in begins_set
  nil = record { sets = refl; begins = refl }

  next : (l : Lexeme) {w : List Lexeme} {b : Bool} → is_mark becomes l ≡ false → Sets w b → Sets (l ∷ w) b
  unfolding assigns_in begins_set
  next l h s = record { sets = cc (and-false (same_lexeme l (name x))); begins = h }

  join : {v w : List Lexeme} {a b : Bool} → Sets v a → Sets w b → Sets (v ++ w) (a || b)
  join {v} {w} s t =
      record {
        sets = assigns_append v w x t.begins ∙ ap₂ ◌||◌ s.sets t.sets;
        begins = begins_append v w t.begins ∙ s.begins;
      }

  -- with what closes it
  closed : {v w : List Lexeme} {b : Bool} → Sets v b → Sets w false → Sets (v ++ w) b
  closed {v} {w} {b} s t = subst (Sets (v ++ w)) (or-false b) (join s t)

  text_nil : Text [] false
  text_nil = record { names = (λ h. absurd (false≢true h), λ m. absurd (Memᴰ.not-nil m)); free = nil }

  text_next : (l : Lexeme) {w : List Lexeme} {b : Bool} → is_mark becomes l ≡ false → Text w b
      → Text (l ∷ w) (same_lexeme l (name x) || b)
  text_next l {b = b} h t =
      record {
        names = decides_by (
          ⊎_elim (λ e. Memᴰ.head (sym e)) Memᴰ.tail,
          λ m. ⊎_elim (λ e. inl (sym e)) inr (Memᴰ.cases_cons m),
        ) (decides_or (same_lexeme l (name x)) b (decides_lexeme l (name x)) t.names);
        free = next l h t.free;
      }

  text_join : {v w : List Lexeme} {a b : Bool} → Text v a → Text w b → Text (v ++ w) (a || b)
  text_join {v} {w} {a} {b} s t =
      record {
        names = decides_by (⊎_elim (Memᴰ.append_left w) (Memᴰ.append_right v), Memᴰ.append_cases v)
            (decides_or a b s.names t.names);
        free = join s.free t.free;
      }

  -- an assignment's left side before its right side
  of_assign : (y : List ℕ) {w : List Lexeme} → Sets w false → Sets (name y ∷ mark becomes ∷ w) (same_bytes y x)
  unfolding assigns_in begins_set is_mark mark_number same_lexeme
  of_assign y s = record { sets = cc (and-true (same_bytes y x), or-false (same_bytes y x)); begins = refl }

  -- Conditions

  of_int : (i : Int) → Text (spell_int i) false
  unfolding spell_int is_mark mark_number same_lexeme
  of_int (plain n) = text_next (number n) refl text_nil
  of_int (negated n) = text_next (mark minus) refl (text_next (number n) refl text_nil)

  of_atom : (a : Atom) → Text (spell_atom a) (atom_names a x)
  unfolding spell_atom atom_names is_mark same_lexeme
  of_atom (literal i) = of_int i
  of_atom (variable y) = subst (Text (name y ∷ [])) (or-false (same_bytes y x)) (text_next (name y) refl text_nil)

  of_term : (t : Term) → Text (spell_term t) (term_names t x)
  unfolding spell_term term_names is_mark is_key same_lexeme
  of_term (alone a) = of_atom a
  of_term (remainder a b) = text_join (of_atom a) (text_next (key k_mod) refl (of_atom b))

  of_terms : (ts : List Signed) → Text (each spell_signed ts) (terms_name ts x)
  unfolding each spell_signed terms_name is_mark same_lexeme
  of_terms [] = text_nil
  of_terms (t ∷ ts) =
      text_join (text_next (mark (sign_mark t.sign)) (sign_not t.sign) (of_term t.term)) (of_terms ts)

  of_expr : (e : Expr) → Text (spell_expr e) (expr_names e x)
  unfolding spell_expr expr_names
  of_expr e = text_join (of_term e.first) (of_terms e.more)

  of_constant : (b : Bool) → Text (spell_constant b) false
  unfolding spell_constant is_mark is_key same_lexeme
  of_constant true = text_next (key k_true) refl text_nil
  of_constant false = text_next (key k_false) refl text_nil

  mutual
    unfolding spell_cond cond_names is_mark mark_number same_lexeme

    of_cond : (c : Cond) → Text (spell_cond c) (cond_names c x)
    of_cond (only c) = of_conj c
    of_cond (or c d) = text_join (of_conj c) (text_next (mark or_or) refl (of_cond d))

    of_conj : (c : Conj) → Text (spell_conj c) (conj_names c x)
    of_conj (just s) = of_simple s
    of_conj (and s c) = text_join (of_simple s) (text_next (mark and_and) refl (of_conj c))

    of_simple : (s : Simple) → Text (spell_simple s) (simple_names s x)
    of_simple (negation s) = text_next (mark bang) refl (of_simple s)
    of_simple (bracketed c) =
        text_next (mark lparen) refl (subst (Text _) (or-false (cond_names c x))
        (text_join (of_cond c) (text_next (mark rparen) refl text_nil)))
    of_simple (constant b) = of_constant b
    of_simple (compare e o f) =
        text_join (of_expr e) (text_next (mark (comparison_mark o)) (comparison_not o) (of_expr f))

  -- Bodies

  mutual
    unfolding spell_block block_assigns is_mark mark_number

    of_block : (b : Block) → Sets (spell_block b) (block_assigns b x)
    of_block end = nil
    of_block (then s b) = join (of_stmt s) (of_block b)

    of_stmt : (s : Stmt) → Sets (spell_stmt s) (stmt_assigns s x)
    of_stmt (assign y e) = of_assign y (join (of_expr e).free (next (mark semicolon) refl nil))
    of_stmt (if_then c b) =
        next (key k_if) refl (next (mark lparen) refl (join (of_cond c).free (next (mark rparen) refl
        (next (mark lbrace) refl (closed (of_block b) (next (mark rbrace) refl nil))))))
    of_stmt (if_else c a b) =
        next (key k_if) refl (next (mark lparen) refl (join (of_cond c).free (next (mark rparen) refl
        (next (mark lbrace) refl (join (of_block a) (next (mark rbrace) refl (next (key k_else) refl
        (next (mark lbrace) refl (closed (of_block b) (next (mark rbrace) refl nil))))))))))

pub names_iff : (c : Cond) (x : List ℕ) → (cond_names c x ≡ true) ↔ Names c x
unfolding Names
names_iff c x = (of_cond x c).names

pub assigns_in_lem : (b : Block) (x : List ℕ) → block_assigns b x ≡ assigns_in (spell_block b) x
assigns_in_lem b x = sym (of_block x b).sets

pub assigns_iff : (b : Block) (x : List ℕ) → (block_assigns b x ≡ true) ↔ LeftSide b x
assigns_iff b x =
    let t = set_iff (spell_block b) x in (
      λ h. let u = t.0 (sym (assigns_in_lem b x) ∙ h) in record { before = u.0; behind = u.1; stands = u.2 },
      λ h. assigns_in_lem b x ∙ t.1 (h.before, h.behind, h.stands),
    )

-- Touched pairs

any_var_iff : (vs : List Var) (f : List ℕ → Bool)
    → (any_var vs f ≡ true) ↔ ((v : Var) × Memᴰ v vs × (f v.title ≡ true))
unfolding any_var
any_var_iff [] f = (λ h. absurd (false≢true h), λ t. absurd (Memᴰ.not-nil t.1))
any_var_iff (v ∷ vs) f = decides_by (
  ⊎_elim (λ e. (v, Memᴰ.head refl, e)) (λ t. (t.0, Memᴰ.tail t.1, t.2)),
  λ t. ⊎_elim (λ e. inl (ap (λ (u : Var). f u.title) (sym e) ∙ t.2)) (λ i. inr (t.0, i, t.2))
      (Memᴰ.cases_cons t.1),
) (decides_or (f v.title) (any_var vs f) (λ e. e, λ e. e) (any_var_iff vs f))

pub touched_iff : (m : Monitor) (r g : ℕ) → (touched m r g ≡ true) ↔ Touched m r g
unfolding touched
touched_iff m r g =
    let c = get_or (guards m) g no_guard in
    let b = (region m r).body in
    let any = any_var_iff (vars m) (λ x. cond_names c x && block_assigns b x) in (
      λ h.
          let t = any.0 h in
          let x = t.0.title in
          let u = both (cond_names c x) (block_assigns b x) t.2 in
          record {
            variable = t.0;
            declared = t.1;
            named = (names_iff c x).0 u.0;
            assigned = (assigns_iff b x).0 u.1;
          },
      λ h.
          let x = h.variable.title in
          any.1 (
            h.variable,
            h.declared,
            both_true ((names_iff c x).1 h.named) ((assigns_iff b x).1 h.assigned),
          ),
    )

-- How many

-- a pair in front of others, if it is one
cons_if : Bool → Pair → List Pair → List Pair
cons_if true p ps = p ∷ ps
cons_if false p ps = ps

-- the pairs of region r and n guards from t on
row_from : ℕ → ℕ → ℕ → (ℕ → Bool) → List Pair
row_from r zero t f = []
row_from r (suc n) t f = cons_if (f t) (record { region = r; guard = t }) (row_from r n (t + 1) f)

-- the pairs of n regions and k guards
pairs_in : ℕ → ℕ → (ℕ → ℕ → Bool) → List Pair
pairs_in zero k f = []
pairs_in (suc n) k f = row_from n k 0 (f n) ++ pairs_in n k f

cons_many : (b : Bool) (p : Pair) (ps : List Pair) (bs : List Bool) → length ps ≡ ones bs
    → length (cons_if b p ps) ≡ ones (b ∷ bs)
unfolding cons_if ones
cons_many true p ps bs e = ap suc e
cons_many false p ps bs e = e

row_many : (r n t : ℕ) (f : ℕ → Bool) → length (row_from r n t f) ≡ ones (each_from n t f)
unfolding row_from each_from ones
row_many r zero t f = refl
row_many r (suc n) t f = cons_many (f t) _ (row_from r n (t + 1) f) (each_from n (t + 1) f) (row_many r n (t + 1) f)

pairs_many : (n k : ℕ) (f : ℕ → ℕ → Bool) → length (pairs_in n k f) ≡ sum_of n (λ r. ones (each_from k 0 (f r)))
unfolding pairs_in sum_of
pairs_many zero k f = refl
pairs_many (suc n) k f =
    length-append (row_from n k 0 (f n)) (pairs_in n k f) ∙ ap₂ ◌+◌ (row_many n k 0 (f n)) (pairs_many n k f)

-- a pair of region r and a guard from t on, below t + n, that passes
record InRow (r n t : ℕ) (f : ℕ → Bool) (p : Pair) : Type 0 where
  of_region : p.region ≡ r
  low : t ≤ p.guard
  high : p.guard < t + n
  passes : f p.guard ≡ true

cons_cases : (b : Bool) (q : Pair) {ps : List Pair} {p : Pair} → Memᴰ p (cons_if b q ps)
    → ((p ≡ q) × (b ≡ true)) ⊎ Memᴰ p ps
unfolding cons_if
cons_cases true q m = ⊎_elim (λ e. inl (e, refl)) inr (Memᴰ.cases_cons m)
cons_cases false q m = inr m

in_cons : (b : Bool) (q : Pair) {ps : List Pair} {p : Pair} → ((p ≡ q) × (b ≡ true)) ⊎ Memᴰ p ps
    → Memᴰ p (cons_if b q ps)
unfolding cons_if
in_cons true q (inl e) = Memᴰ.head e.0
in_cons true q (inr m) = Memᴰ.tail m
in_cons false q (inl e) = absurd (false≢true e.1)
in_cons false q (inr m) = m

row_has : (r n t : ℕ) (f : ℕ → Bool) (p : Pair) → Memᴰ p (row_from r n t f) → InRow r n t f p
unfolding row_from
row_has r zero t f p m = absurd (Memᴰ.not-nil m)
row_has r (suc n) t f p m =
    ⊎_elim
    (λ e. let same : p.guard ≡ t = ap (λ (q : Pair). q.guard) e.0 in
    record {
      of_region = ap (λ (q : Pair). q.region) e.0;
      low = omega arith;
      high = omega arith;
      passes = ap f same ∙ e.1;
    })
    (λ i. let h = row_has r n (t + 1) f p i in
    record { of_region = h.of_region; low = omega arith; high = omega arith; passes = h.passes })
    (cons_cases (f t) _ m)

has_row : (r n t : ℕ) (f : ℕ → Bool) (p : Pair) → InRow r n t f p → Memᴰ p (row_from r n t f)
unfolding row_from
has_row r zero t f p h = absurd (omega arith)
has_row r (suc n) t f p h =
    in_cons (f t) _
    (split_eq p.guard t
    (λ e. inl (λ i. record { region = h.of_region i; guard = e i }, ap f (sym e) ∙ h.passes))
    (λ d. inr (has_row r n (t + 1) f p
    (record { of_region = h.of_region; low = omega arith; high = omega arith; passes = h.passes }))))

-- a pair of a region below n and a guard below k that passes
record Passes (n k : ℕ) (f : ℕ → ℕ → Bool) (p : Pair) : Type 0 where
  region_below : p.region < n
  guard_below : p.guard < k
  passes : f p.region p.guard ≡ true

pairs_have : (n k : ℕ) (f : ℕ → ℕ → Bool) (p : Pair) → Memᴰ p (pairs_in n k f) → Passes n k f p
unfolding pairs_in
pairs_have zero k f p m = absurd (Memᴰ.not-nil m)
pairs_have (suc n) k f p m =
    ⊎_elim
    (λ i. let h = row_has n k 0 (f n) p i in
    record {
      region_below = omega arith;
      guard_below = omega arith;
      passes = ap (λ (r : ℕ). f r p.guard) h.of_region ∙ h.passes;
    })
    (λ i. let h = pairs_have n k f p i in
    record { region_below = omega arith; guard_below = h.guard_below; passes = h.passes })
    (Memᴰ.append_cases (row_from n k 0 (f n)) m)

have_pairs : (n k : ℕ) (f : ℕ → ℕ → Bool) (p : Pair) → Passes n k f p → Memᴰ p (pairs_in n k f)
unfolding pairs_in
have_pairs zero k f p h = absurd (omega arith)
have_pairs (suc n) k f p h =
    split_eq p.region n
    (λ e. Memᴰ.append_left (pairs_in n k f) (has_row n k 0 (f n) p (record {
      of_region = e;
      low = omega arith;
      high = omega arith;
      passes = ap (λ (r : ℕ). f r p.guard) (sym e) ∙ h.passes;
    })))
    (λ d. Memᴰ.append_right (row_from n k 0 (f n)) (have_pairs n k f p
    (record { region_below = omega arith; guard_below = h.guard_below; passes = h.passes })))

cons_distinct : (b : Bool) (p : Pair) {ps : List Pair} → (Memᴰ p ps → ⊥) → Distinct ps → Distinct (cons_if b p ps)
unfolding cons_if
cons_distinct true p h d = one_pair h d
cons_distinct false p h d = d

row_distinct : (r n t : ℕ) (f : ℕ → Bool) → Distinct (row_from r n t f)
unfolding row_from
row_distinct r zero t f = no_pair
row_distinct r (suc n) t f =
    cons_distinct (f t) _ (λ m. let h = row_has r n (t + 1) f _ m in omega (arith, h.low)) (row_distinct r n (t + 1) f)

distinct_append : {ps qs : List Pair} → Distinct ps → Distinct qs
    → ((p : Pair) → Memᴰ p ps → Memᴰ p qs → ⊥) → Distinct (ps ++ qs)
distinct_append no_pair e h = e
distinct_append (one_pair {p} {ps} n d) e h =
    one_pair (λ m. ⊎_elim n (h p (Memᴰ.head refl)) (Memᴰ.append_cases ps m))
    (distinct_append d e (λ q m. h q (Memᴰ.tail m)))

pairs_distinct : (n k : ℕ) (f : ℕ → ℕ → Bool) → Distinct (pairs_in n k f)
unfolding pairs_in
pairs_distinct zero k f = no_pair
pairs_distinct (suc n) k f =
    distinct_append (row_distinct n k 0 (f n)) (pairs_distinct n k f)
    (λ p m l. omega (arith, (row_has n k 0 (f n) p m).of_region, (pairs_have n k f p l).region_below))

pub pairs : (m : Monitor) → Pairs m (pairs_of m)
unfolding pairs_of
pairs m =
    let n = length (regions m) in
    let k = length (guards m) in
    record {
      list = pairs_in n k (touched m);
      exactly = λ p.
          let u = touched_iff m p.region p.guard in (
            λ h. let t = pairs_have n k (touched m) p h in (t.region_below, t.guard_below, u.0 t.passes),
            λ h. have_pairs n k (touched m) p
                (record { region_below = h.0; guard_below = h.1; passes = u.1 h.2 }),
          );
      once = pairs_distinct n k (touched m);
      many = sym (pairs_many n k (touched m));
    }

-- What is not touched

-- a name that no variable has is 0 (R 4.20)
no_variable_lem : (vs : List Var) (f : List ℕ → Bool) → any_var vs f ≡ false → (x : List ℕ) → f x ≡ true → (as' : List ℤ)
    → value_of vs as' x ≡ pos 0
unfolding any_var value_of
no_variable_lem [] f h x t as' = refl
no_variable_lem (v ∷ vs) f h x t [] = refl
no_variable_lem (v ∷ vs) f h x t (a ∷ as') =
    let n = neither (f v.title) (any_var vs f) h in
    split (same_bytes v.title x) (λ s. clash t (ap f (sym ((decides_same v.title x).0 s)) ∙ n.0))
    (λ s. rw (s, value_of) (no_variable_lem vs f n.1 x t as'))

-- an assignment leaves every other name
assigned_other : {vs : List Var} {as' bs : List ℤ} {y : List ℕ} {b : ℤ} → run.Assigns vs as' y b bs → (x : List ℕ)
    → same_bytes y x ≡ false → value_of vs bs x ≡ value_of vs as' x
unfolding value_of
assigned_other (run.here {v} {x = y} e r) x h =
    let other : same_bytes v.title x ≡ false = ap (λ (z : List ℕ). same_bytes z x) e ∙ h in rw (other, value_of)
assigned_other (run.later {v} d t) x h =
    split (same_bytes v.title x) (λ s. rw (s, value_of)) (λ s. rw (s, value_of) (assigned_other t x h))

module _ {vs : List Var} (x : List ℕ) where
  mutual
    unfolding block_assigns

    block_leaves : {b : Block} {as' bs : List ℤ} → BlockRuns vs b as' bs → block_assigns b x ≡ false
        → value_of vs bs x ≡ value_of vs as' x
    block_leaves run.ends h = refl
    block_leaves (run.goes_on {s} {b} r t) h =
        let n = neither (stmt_assigns s x) (block_assigns b x) h in block_leaves t n.1 ∙ stmt_leaves r n.0

    stmt_leaves : {s : Stmt} {as' bs : List ℤ} → run.StmtRuns vs s as' bs → stmt_assigns s x ≡ false
        → value_of vs bs x ≡ value_of vs as' x
    stmt_leaves (run.assigns v a) h = assigned_other a x h
    stmt_leaves (run.if_true t r) h = block_leaves r h
    stmt_leaves (run.if_false t) h = refl
    stmt_leaves (run.else_true {a = a} {b} t r) h =
        block_leaves r (neither (block_assigns a x) (block_assigns b x) h).0
    stmt_leaves (run.else_false {a = a} {b} t r) h =
        block_leaves r (neither (block_assigns a x) (block_assigns b x) h).1

-- a body that does not touch a guard leaves it as it was, from whatever values
pub leaves_guard : (m : Monitor) (r g : ℕ) → touched m r g ≡ false → (as' bs : List ℤ)
    → BlockRuns (vars m) (region m r).body as' bs
    → truth (get_or (guards m) g no_guard) (vars m) bs ≡ truth (get_or (guards m) g no_guard) (vars m) as'
unfolding touched Names
leaves_guard m r g h as' bs w =
    let c = get_or (guards m) g no_guard in
    let b = (region m r).body in
    truth_alike {P = cond_names c} c (λ x i. (names_iff c x).1 i) (record {
      same_value = λ x t. split (block_assigns b x)
          (λ a. let is_0 = no_variable_lem (vars m) (λ y. cond_names c y && block_assigns b y) h x (both_true t a) in
          is_0 bs ∙ sym (is_0 as'))
          (λ a. block_leaves x w a);
    })

module _ (m : Monitor) (good : GoodRanges (vars m)) where
  -- also where it faults, since the state is then its own
  left_at : (r g s : ℕ) → touched m r g ≡ false → s < count (vars m) → (o : Option (List ℤ))
      → outcome (region m r) (vars m) (state_at (vars m) s) ≡ o → holds m g (number_after (vars m) s o) ≡ holds m g s
  unfolding number_after holds
  left_at r g s h low none e = refl
  left_at r g s h low (some bs) e =
      let w = runs_of_outcome (region m r) (state_at (vars m) s) e in
      rw (state_at_number good (block_runs_state w (state_at_lem good s low))) (leaves_guard m r g h _ bs w)

  pub untouched_after : (r g s : ℕ) → touched m r g ≡ false → runs (model m) r s ≡ true
      → holds m g (after m r s) ≡ holds m g s
  unfolding runs model after
  untouched_after r g s h w = left_at r g s h (kept_below m s (both (kept m s) _ w).0) _ refl

  pub untouched : (r g : ℕ) → touched m r g ≡ false → stands (model m) r g ≡ false
  unfolding stands some_move model
  untouched r g h =
      any_false (count (vars m)) _ (λ s low. is_false (λ t.
      let p = both (runs (model m) r s) _ t in
      let q = both (not (holds m g s)) (holds m g (after m r s)) p.1 in
      clash (sym (untouched_after r g s h p.0) ∙ q.1) (not_true q.0)))

  pub no_entry : (r g : ℕ) → touched m r g ≡ false → entry_of (model m) r g ≡ table.none
  unfolding entry_of
  no_entry r g h = rw (untouched r g h, entry_of)
