-- What `read` answers for every list of lexemes: the one tree that spells it, or the first place where no file of the
-- grammar goes on. Each reader is shown to be a phrase (`Phrase`) of what its trees spell; a lexeme costs at most three
-- calls' fuel.
use Prim.Native.Nat.{ℕ, zero, suc, ◌+◌, ◌*◌, ◌-◌, ◌≤◌}
use native.Mathlib.Nat.{zero-add, suc-add}
use native.Mathlib.Omega.{arith}
use mathlib.Core.Path.{◌≡◌, refl, sym, subst, ap, ◌∙◌}
use mathlib.Core.Bool.{Bool, true, false, ◌||◌, false≢true}
use mathlib.Core.Logic.{inl, inr, ◌↔◌}
use mathlib.Core.Option.{Option, none, some}
use mathlib.Core.List.{List, [], ◌∷◌, ◌++◌, append-nil, append_assoc, append_cancel_right}
use lib.ListN.{length, get_or}
use borrow.Author.Tests.{eqb-true, eq-eqb}
use Rattle.syntax.specs.Token.{Lexeme, name, key, number, mark, Mark, Keyword, lbrace, rbrace, lparen, rparen}
use Rattle.syntax.specs.Token.{semicolon, equals, dots, becomes, same, differs, below, at_most_mark, above, at_least_mark}
use Rattle.syntax.specs.Token.{plus, minus, bang, and_and, or_or, k_monitor, k_var, k_in, k_keep, k_method}
use Rattle.syntax.specs.Token.{k_waituntil, k_if, k_else, k_true, k_false, k_try, k_mod}
use Rattle.syntax.specs.Bytes.{bytes}
use Rattle.syntax.specs.Spelling.{AllSpellable}
use Rattle.syntax.specs.Decide.Lexeme.{is_mark, is_key, is_name, mark_number}
use Rattle.syntax.specs.Decide.Lexeme.{keyword_number}
use Rattle.syntax.specs.Tree.{Int, plain, negated, Atom, literal, variable, Sign, added, taken, Term, alone}
use Rattle.syntax.specs.Tree.{remainder, Signed, Expr}
use Rattle.syntax.specs.Tree.{Comparison, eq, ne, lt, le, gt, ge, Cond, only, or, Conj, just, and, Simple}
use Rattle.syntax.specs.Tree.{negation, bracketed, constant, compare, Block, end, then, Stmt, assign, if_then}
use Rattle.syntax.specs.Tree.{if_else, Monitor, spell_int, spell_atom, sign_mark, spell_term, spell_signed, each}
use Rattle.syntax.specs.Tree.{spell_expr}
use Rattle.syntax.specs.Tree.{comparison_mark, spell_constant, spell_cond, spell_conj, spell_simple, spell_block}
use Rattle.syntax.specs.Tree.{spell_stmt, spell_region, spell_method, spell_var, spell_try, spell, InGrammar, Viable}
use Rattle.syntax.specs.Decide.Reading.{Got, got, stuck, Reader, onwards, ◌>>=◌, give, begins, read_name}
use Rattle.syntax.specs.Decide.Reading.{read_number, read_int, read_atom, read_sign, read_term, read_signed, is_sign}
use Rattle.syntax.specs.Decide.Reading.{read_expr}
use Rattle.syntax.specs.Decide.Reading.{read_comparison, read_cond, read_conj, read_simple, read_block, read_stmt}
use Rattle.syntax.specs.Decide.Reading.{read_region, read_method, read_var, read_try, at_end, read_monitor, read}
use Rattle.syntax.proofs.Phrase.{Follow, of, Phrase, Accepts, front, said, vacuous, spelled, gives, chains}
use Rattle.syntax.proofs.Phrase.{chooses, ones, skips, picks, picks₁, meets, thens, turns, manys, somes, every}
use Rattle.syntax.proofs.Phrase.{pairs, cases, exact, clear, followed, follows, manys_before}
use Rattle.logic.proofs.Bools.{neither}
use Rattle.syntax.proofs.Spellable.{key_spellable, mark_spellable, name_spellable, number_spellable}
use Rattle.syntax.proofs.Spellable.{both_spellable, front_spellable}

-- Tests of a lexeme

abbrev all_marks : List Mark
all_marks =
    lbrace ∷ rbrace ∷ lparen ∷ rparen ∷ semicolon ∷ equals ∷ dots ∷ becomes ∷ same ∷ differs ∷ below ∷ at_most_mark ∷ above ∷
    at_least_mark
    ∷ plus ∷ minus ∷ bang ∷ and_and ∷ or_or ∷ []

mark_at : (m : Mark) → get_or all_marks (mark_number m) lbrace ≡ m
unfolding mark_number
mark_at = elim [
  | lbrace ↦ refl
  | rbrace ↦ refl
  | lparen ↦ refl
  | rparen ↦ refl
  | semicolon ↦ refl
  | equals ↦ refl
  | dots ↦ refl
  | becomes ↦ refl
  | same ↦ refl
  | differs ↦ refl
  | below ↦ refl
  | at_most_mark ↦ refl
  | above ↦ refl
  | at_least_mark ↦ refl
  | plus ↦ refl
  | minus ↦ refl
  | bang ↦ refl
  | and_and ↦ refl
  | or_or ↦ refl
]

abbrev all_keys : List Keyword
all_keys = k_monitor ∷ k_var ∷ k_in ∷ k_keep ∷ k_method ∷ k_waituntil ∷ k_if ∷ k_else ∷ k_true ∷ k_false ∷ k_try
    ∷ k_mod ∷ []

key_at : (k : Keyword) → get_or all_keys (keyword_number k) k_monitor ≡ k
unfolding keyword_number
key_at = elim [
  | k_monitor ↦ refl
  | k_var ↦ refl
  | k_in ↦ refl
  | k_keep ↦ refl
  | k_method ↦ refl
  | k_waituntil ↦ refl
  | k_if ↦ refl
  | k_else ↦ refl
  | k_true ↦ refl
  | k_false ↦ refl
  | k_try ↦ refl
  | k_mod ↦ refl
]

the_mark : (m : Mark) → Accepts (is_mark m) (mark m)
unfolding is_mark
the_mark m = record { spells = mark_spellable m; alone = alone; itself = eq-eqb (mark_number m) (mark_number m) refl }
  where
    alone : (x : Lexeme) → is_mark m x ≡ true → x ≡ mark m
    alone (name x) e = absurd (false≢true e)
    alone (key k) e = absurd (false≢true e)
    alone (number n) e = absurd (false≢true e)
    alone (mark o) e =
        ap mark
        (sym (mark_at o) ∙ ap (λ (n : ℕ). get_or all_marks n lbrace) (sym (eqb-true (mark_number m) (mark_number o) e))
        ∙ mark_at m)

the_key : (k : Keyword) → Accepts (is_key k) (key k)
unfolding is_key
the_key k = record { spells = key_spellable k; alone = alone; itself = eq-eqb (keyword_number k) (keyword_number k) refl }
  where
    alone : (x : Lexeme) → is_key k x ≡ true → x ≡ key k
    alone (name x) e = absurd (false≢true e)
    alone (key j) e =
        ap key
        (sym (key_at j) ∙ ap (λ (n : ℕ). get_or all_keys n k_monitor)
        (sym (eqb-true (keyword_number k) (keyword_number j) e)) ∙ key_at k)
    alone (number n) e = absurd (false≢true e)
    alone (mark o) e = absurd (false≢true e)

-- Names, numbers and expressions

names : {F : Follow} {n : ℕ} → Phrase (of (λ x. name x ∷ [])) F n read_name read_name
unfolding read_name
names = ones {s = name} (record {
  tree = elim [ name x ↦ some x | key k ↦ none | number n ↦ none | mark m ↦ none ];
  at_none = refl;
  at = elim [ name x ↦ λ ls. refl | key k ↦ λ ls. refl | number n ↦ λ ls. refl | mark m ↦ λ ls. refl ];
  fits = elim [ name y ↦ λ x e. cc | key k ↦ λ x e. cc | number n ↦ λ x e. cc | mark m ↦ λ x e. cc ];
  takes = λ x. refl;
  example = bytes "a";
  spells = name_spellable;
})

numbers : {F : Follow} {n : ℕ} → Phrase (of (λ x. number x ∷ [])) F n read_number read_number
unfolding read_number
numbers = ones {s = number} (record {
  tree = elim [ name x ↦ none | key k ↦ none | number n ↦ some n | mark m ↦ none ];
  at_none = refl;
  at = elim [ name x ↦ λ ls. refl | key k ↦ λ ls. refl | number n ↦ λ ls. refl | mark m ↦ λ ls. refl ];
  fits = elim [ name y ↦ λ x e. cc | key k ↦ λ x e. cc | number n ↦ λ x e. cc | mark m ↦ λ x e. cc ];
  takes = λ x. refl;
  example = 0;
  spells = number_spellable;
})

ints : {F : Follow} {n : ℕ} → Phrase (of spell_int) F n read_int read_int
unfolding read_int spell_int begins is_mark mark_number
ints = spelled
    (picks (the_mark minus) (turns negated numbers) (turns plain numbers) clear)
    (cases exact exact)
    (elim [ plain n ↦ (inr n, refl) | negated n ↦ (inl n, refl) ])

-- an integer begins with a number or a minus
int_front : (t : Lexeme → Bool) (b : Bool) → ((n : ℕ) → t (number n) ≡ b) → t (mark minus) ≡ b
    → (i : Int) (us : List Lexeme) → begins t (spell_int i ++ us) ≡ b
unfolding begins spell_int
int_front t b num neg (plain n) us = num n
int_front t b num neg (negated n) us = neg

atoms : {F : Follow} {n : ℕ} → Phrase (of spell_atom) F n read_atom read_atom
unfolding read_atom spell_atom begins is_name
atoms = spelled
    (chooses is_name (turns variable names) (turns literal ints) clear
    (every λ i us _. int_front is_name false (λ _. refl) refl i us))
    (cases exact exact)
    (elim [ literal i ↦ (inr i, refl) | variable x ↦ (inl x, refl) ])

signs : {F : Follow} {n : ℕ} → Phrase (of (λ s. mark (sign_mark s) ∷ [])) F n read_sign read_sign
unfolding read_sign sign_mark begins is_mark mark_number
signs = spelled
    (picks (the_mark plus) (gives added) (skips (the_mark minus) (gives taken)) clear)
    (cases exact exact)
    (elim [ added ↦ (inl tt, refl) | taken ↦ (inr tt, refl) ])

-- behind an atom a `mod` goes on with the term, so none may follow it
abbrev no_mod : Follow
no_mod us = begins (is_key k_mod) us ≡ false

terms : {n : ℕ} → Phrase (of spell_term) no_mod n read_term read_term
unfolding read_term spell_term
terms = spelled
    (thens atoms (λ a. picks (the_key k_mod) (turns (remainder a) atoms) (gives (alone a)) (every λ _ us g. g)))
    (pairs λ a. cases exact (every λ _. append-nil (spell_atom a)))
    (elim [ alone a ↦ ((a, inr tt), refl) | remainder a b ↦ ((a, inl b), refl) ])

signed : {n : ℕ} → Phrase (of spell_signed) no_mod n read_signed read_signed
unfolding read_signed spell_signed
signed = spelled
    (thens signs (λ s. turns (λ (t : Term). record { sign = s; term = t }) terms))
    exact (λ t. ((t.sign, t.term), refl))

signed_front : (t : Signed) (us : List Lexeme) → begins is_sign (spell_signed t ++ us) ≡ true
unfolding begins spell_signed is_sign is_mark sign_mark mark_number
signed_front t us = go t.sign
  where
    go : (s : Sign) → is_sign (mark (sign_mark s)) ≡ true
    go added = refl
    go taken = refl

-- what goes on with an expression: a sign, or `mod`
going_on : Lexeme → Bool
going_on l = is_sign l || is_key k_mod l

abbrev no_more : Follow
no_more us = begins going_on us ≡ false

neither_follows : (us : List Lexeme) → no_more us → (begins is_sign us ≡ false) × no_mod us
unfolding begins going_on
neither_follows [] h = (refl, refl)
neither_follows (l ∷ us) h = neither (is_sign l) (is_key k_mod l) h

sign_no_mod : (us : List Lexeme) → begins is_sign us ≡ true → no_mod us
unfolding begins is_sign is_mark is_key
sign_no_mod [] e = refl
sign_no_mod (name x ∷ us) e = refl
sign_no_mod (key k ∷ us) e = absurd (false≢true e)
sign_no_mod (number n ∷ us) e = refl
sign_no_mod (mark m ∷ us) e = refl

exprs : (k n : ℕ) → n ≤ k → Phrase (of spell_expr) no_more n (read_expr k) (read_expr (suc k))
unfolding read_expr spell_expr
exprs k n h = followed neither_follows (spelled
    (meets terms (λ t. turns (λ (ts : List Signed). record { first = t; more = ts })
    (manys_before spell_signed is_sign signed_front sign_no_mod k n h signed))
    (λ _ ts us g. follows spell_signed is_sign signed_front sign_no_mod ts us g.1))
    exact (λ e. ((e.first, e.more), refl)))

comparisons : {F : Follow} {n : ℕ} → Phrase (of (λ o. mark (comparison_mark o) ∷ [])) F n read_comparison read_comparison
unfolding read_comparison comparison_mark begins is_mark mark_number
comparisons = spelled
    (picks (the_mark same) (gives eq) (picks (the_mark differs) (gives ne) (picks (the_mark below) (gives lt)
    (picks (the_mark at_most_mark) (gives le) (picks (the_mark above) (gives gt) (skips (the_mark at_least_mark) (gives ge))
    clear) (cases clear clear)) (cases clear (cases clear clear))) (cases clear (cases clear (cases clear clear))))
    (cases clear (cases clear (cases clear (cases clear clear)))))
    (cases exact (cases exact (cases exact (cases exact (cases exact exact)))))
    (elim [
      | eq ↦ (inl tt, refl)
      | ne ↦ (inr (inl tt), refl)
      | lt ↦ (inr (inr (inl tt)), refl)
      | le ↦ (inr (inr (inr (inl tt))), refl)
      | gt ↦ (inr (inr (inr (inr (inl tt)))), refl)
      | ge ↦ (inr (inr (inr (inr (inr tt)))), refl)
    ])

comparison_no_more : (o : Comparison) → going_on (mark (comparison_mark o)) ≡ false
unfolding going_on is_sign is_mark is_key comparison_mark mark_number
comparison_no_more = elim [ eq ↦ refl | ne ↦ refl | lt ↦ refl | le ↦ refl | gt ↦ refl | ge ↦ refl ]

-- an expression begins with a name, a number or a minus
expr_front : (t : Lexeme → Bool) → ((x : List ℕ) → t (name x) ≡ false) → ((n : ℕ) → t (number n) ≡ false)
    → t (mark minus) ≡ false
    → (e : Expr) (v us : List Lexeme) → begins t (spell_expr e ++ v ++ us) ≡ false
unfolding spell_expr begins spell_atom spell_term
expr_front t nam num neg e v us = simp append_assoc (term e.first (each spell_signed e.more ++ (v ++ us)))
  where
    go : (a : Atom) (us : List Lexeme) → begins t (spell_atom a ++ us) ≡ false
    go (literal i) us = int_front t false num neg i us
    go (variable x) us = nam x

    term : (a : Term) (us : List Lexeme) → begins t (spell_term a ++ us) ≡ false
    term (alone a) us = go a us
    term (remainder a b) us = simp append_assoc (go a (key k_mod ∷ (spell_atom b ++ us)))

-- Conditions, and what may follow them

abbrev after_conj : Follow
after_conj us = no_more us × (begins (is_mark and_and) us ≡ false)

abbrev after_cond : Follow
after_cond us = no_more us × (begins (is_mark and_and) us ≡ false) × (begins (is_mark or_or) us ≡ false)

-- some tree of each
abbrev a_simple : Simple
a_simple = constant true

abbrev a_conj : Conj
a_conj = just a_simple

abbrev a_cond : Cond
a_cond = only a_conj

true_spellable : AllSpellable (key k_true ∷ [])
true_spellable = (key_spellable k_true, tt)

mutual
  unfolding read_cond read_conj read_simple spell_cond spell_conj spell_simple spell_constant begins is_mark is_key mark_number keyword_number going_on is_sign

  conds : (k n : ℕ) → 3 * n + 1 ≤ k → Phrase (of spell_cond) after_cond n (read_cond k) (read_cond (suc k))
  conds zero n h = absurd (omega arith)
  conds (suc k) zero h = vacuous refl a_cond true_spellable
  conds (suc k) (suc n) h = spelled
      (meets (conjs k (suc n) (omega arith))
      (λ c. picks₁ (the_mark or_or) (turns (or c) (conds k n (omega arith))) (gives (only c)) (every λ _ us g. g.2))
      (λ c. elim [ inl d ↦ λ us g. (refl, refl) | inr _ ↦ λ us g. (g.0, g.1) ]))
      (pairs λ c. cases exact (every λ _. append-nil (spell_conj c)))
      (elim [ only c ↦ ((c, inr tt), refl) | or c d ↦ ((c, inl d), refl) ])

  conjs : (k n : ℕ) → 3 * n ≤ k → Phrase (of spell_conj) after_conj n (read_conj k) (read_conj (suc k))
  conjs zero n h = vacuous (omega arith) a_conj true_spellable
  conjs (suc k) zero h = vacuous refl a_conj true_spellable
  conjs (suc k) (suc n) h = spelled
      (meets (simples k (suc n) (omega arith))
      (λ s. picks₁ (the_mark and_and) (turns (and s) (conjs k n (omega arith))) (gives (just s)) (every λ _ us g. g.1))
      (λ s. elim [ inl d ↦ λ us g. refl | inr _ ↦ λ us g. g.0 ]))
      (pairs λ s. cases exact (every λ _. append-nil (spell_simple s)))
      (elim [ just s ↦ ((s, inr tt), refl) | and s c ↦ ((s, inl c), refl) ])

  simples : (k n : ℕ) → 3 * n ≤ k + 1 → Phrase (of spell_simple) no_more n (read_simple k) (read_simple (suc k))
  simples zero n h = vacuous (omega arith) a_simple true_spellable
  simples (suc k) zero h = vacuous refl a_simple true_spellable
  simples (suc k) (suc n) h = spelled
      (picks₁ (the_mark bang) (turns negation (simples k n (omega arith)))
      (picks₁ (the_mark lparen)
      (meets (conds k n (omega arith)) (λ c. skips (the_mark rparen) (gives (bracketed c)))
      (λ _ _ _ _. (refl, refl, refl)))
      (picks (the_key k_true) (gives (constant true))
      (picks (the_key k_false) (gives (constant false))
      (meets (exprs k (suc n) (omega arith))
      (λ e. thens comparisons (λ o. turns (compare e o) (exprs k (suc n) (omega arith))))
      (λ _ x _ _. comparison_no_more x.0))
      (every λ x us _. expr_front (is_key k_false) (λ _. refl) (λ _. refl) refl x.0 _ us))
      (cases clear (every λ x us _. expr_front (is_key k_true) (λ _. refl) (λ _. refl) refl x.0 _ us)))
      (cases clear (cases clear (every λ x us _. expr_front (is_mark lparen) (λ _. refl) (λ _. refl) refl x.0 _ us))))
      (cases clear (cases clear (cases clear
      (every λ x us _. expr_front (is_mark bang) (λ _. refl) (λ _. refl) refl x.0 _ us)))))
      (cases exact (cases exact (cases exact (cases exact exact))))
      (elim [
        | negation s ↦ (inl s, refl)
        | bracketed c ↦ (inr (inl (c, tt)), refl)
        | constant true ↦ (inr (inr (inl tt)), refl)
        | constant false ↦ (inr (inr (inr (inl tt))), refl)
        | compare e o f ↦ (inr (inr (inr (inr (e, (o, f))))), refl)
      ])

-- Statements

abbrev at_brace : Follow
at_brace us = begins (is_mark rbrace) us ≡ true

abbrev no_else : Follow
no_else us = begins (is_key k_else) us ≡ false

brace_no_else : (us : List Lexeme) → at_brace us → no_else us
unfolding begins is_mark is_key
brace_no_else [] e = refl
brace_no_else (name x ∷ us) e = refl
brace_no_else (key k ∷ us) e = absurd (false≢true e)
brace_no_else (number n ∷ us) e = refl
brace_no_else (mark m ∷ us) e = refl

-- a statement begins with a name or an if
stmt_front : (t : Lexeme → Bool) → ((x : List ℕ) → t (name x) ≡ false) → t (key k_if) ≡ false
    → (s : Stmt) (us : List Lexeme) → begins t (spell_stmt s ++ us) ≡ false
unfolding begins spell_stmt
stmt_front t nam k (assign x e) us = nam x
stmt_front t nam k (if_then c b) us = k
stmt_front t nam k (if_else c a b) us = k

block_no_else : (b : Block) (us : List Lexeme) → at_brace us → no_else (spell_block b ++ us)
unfolding spell_block is_key keyword_number
block_no_else end us g = brace_no_else us g
block_no_else (then s b) us g = rw append_assoc (stmt_front (is_key k_else) (λ _. refl) refl s (spell_block b ++ us))

stmt_not_empty : (s : Stmt) → 1 ≤ length (spell_stmt s)
unfolding spell_stmt
stmt_not_empty (assign x e) = omega arith
stmt_not_empty (if_then c b) = omega arith
stmt_not_empty (if_else c a b) = omega arith

abbrev a_stmt : Stmt
a_stmt = if_then a_cond end

if_spellable : AllSpellable (spell_stmt a_stmt)
unfolding spell_stmt spell_cond spell_conj spell_simple spell_constant spell_block
if_spellable = (
  key_spellable k_if,
  (
    mark_spellable lparen,
    (key_spellable k_true, (mark_spellable rparen, (mark_spellable lbrace, (mark_spellable rbrace, tt)))),
  ),
)

mutual
  unfolding read_block read_stmt spell_block spell_stmt begins is_mark is_key mark_number keyword_number going_on is_sign

  blocks : (k n : ℕ) → 3 * n + 1 ≤ k → Phrase (of spell_block) at_brace n (read_block k) (read_block (suc k))
  blocks zero n h = absurd (omega arith)
  blocks (suc k) zero h = vacuous refl end tt
  blocks (suc k) (suc n) h = spelled
      (chooses (is_mark rbrace) (gives end)
      (chains {m = n} (stmts k (suc n) (omega arith)) (λ s. turns (then s) (blocks k n (omega arith)))
      (λ s. omega (arith, stmt_not_empty s)) (λ _ b us g. block_no_else b us g))
      (every λ _ us g. g)
      (every λ x us _. rw append_assoc (stmt_front (is_mark rbrace) (λ _. refl) refl x.0 (spell_block x.1 ++ us))))
      (cases exact exact)
      (elim [ end ↦ (inl tt, refl) | then s b ↦ (inr (s, b), refl) ])

  stmts : (k n : ℕ) → 3 * n ≤ k → Phrase (of spell_stmt) no_else n (read_stmt k) (read_stmt (suc k))
  stmts zero n h = vacuous (omega arith) a_stmt if_spellable
  stmts (suc k) zero h = vacuous refl a_stmt if_spellable
  stmts (suc k) (suc n) h = spelled
      (picks₁ (the_key k_if) (skips (the_mark lparen) (meets (conds k n (omega arith)) (λ c. skips (the_mark rparen)
      (skips (the_mark lbrace) (meets (blocks k n (omega arith)) (λ a. skips (the_mark rbrace)
      (picks (the_key k_else) (skips (the_mark lbrace) (meets (blocks k n (omega arith))
      (λ b. skips (the_mark rbrace) (gives (if_else c a b))) (λ _ _ _ _. refl)))
      (gives (if_then c a)) (every λ _ us g. g)))
      (λ _ _ _ _. refl)))) (λ _ _ _ _. (refl, refl, refl))))
      (thens names (λ x. skips (the_mark becomes) (meets (exprs k (suc n) (omega arith))
      (λ e. skips (the_mark semicolon) (gives (assign x e))) (λ _ _ _ _. refl))))
      clear)
      (cases (pairs λ c. pairs λ a. cases exact exact) exact)
      (elim [
        | assign x e ↦ (inr (x, (e, tt)), refl)
        | if_then c b ↦ (inl (c, (b, inr tt)), refl)
        | if_else c a b ↦ (inl (c, (a, inl (b, tt))), refl)
      ])

-- Regions, methods, variables and the file

regions : (k n : ℕ) → 3 * n + 1 ≤ k → {F : Follow} → Phrase (of spell_region) F n (read_region k) (read_region (suc k))
unfolding read_region spell_region begins is_mark is_key mark_number going_on is_sign
regions k n h = spelled
    (skips (the_key k_waituntil)
    (skips (the_mark lparen) (meets (conds k n h) (λ c. skips (the_mark rparen) (skips (the_mark lbrace)
    (meets (blocks k n h) (λ b. skips (the_mark rbrace) (gives (record { guard = c; body = b }))) (λ _ _ _ _. refl))))
    (λ _ _ _ _. (refl, refl, refl)))))
    exact (λ r. ((r.guard, (r.body, tt)), refl))

methods : (k n : ℕ) → 3 * n + 1 ≤ k → {F : Follow} → Phrase (of spell_method) F n (read_method k) (read_method (suc k))
unfolding read_method spell_method spell_region begins is_key is_mark keyword_number
methods k n h = spelled
    (skips (the_key k_method) (thens names (λ x. skips (the_mark lbrace)
    (meets (somes spell_region (is_key k_waituntil) (λ _ _. refl) k n (omega arith) (regions k n h))
    (λ rs. skips (the_mark rbrace) (gives (record { title = x; regions = rs }))) (λ _ _ _ _. refl)))))
    exact (λ m. ((m.title, (m.regions, tt)), refl))

tries : (k n : ℕ) → 3 * n + 1 ≤ k → {F : Follow} → Phrase (of spell_try) F n (read_try k) (read_try (suc k))
unfolding read_try spell_try begins is_mark is_key mark_number going_on is_sign
tries k n h = spelled
    (skips (the_key k_try) (meets (conds k n h) (λ c. skips (the_mark semicolon) (gives c))
    (λ _ _ _ _. (refl, refl, refl))))
    exact (λ c. ((c, tt), refl))

vars : {F : Follow} {n : ℕ} → Phrase (of spell_var) F n read_var read_var
unfolding read_var spell_var
vars = spelled
    (skips (the_key k_var)
    (thens names λ x. skips (the_mark equals) (thens ints λ s. skips (the_key k_in) (thens ints λ l.
    skips (the_mark dots)
    (thens ints λ h. skips (the_mark semicolon) (gives (record { title = x; start = s; low = l; high = h })))))))
    exact (λ v. ((v.title, (v.start, (v.low, (v.high, tt)))), refl))

abbrev at_end_lem : Follow
at_end_lem us = us ≡ []

ends : {n : ℕ} → Phrase (of (λ (_ : Unit {0}). [])) at_end_lem n at_end at_end
unfolding at_end
ends = record {
  witness = tt;
  spells = tt;
  sound = λ ls a us h e. (tt, refl, leaves (some a) ls us e);
  complete = λ i us f h. rw f;
  prefix = λ ls us h e. ([], leaves none ls us e, tt, [], refl, tt);
  local = λ o pre us us' f h h' e.
      let q : pre ≡ [] = append_cancel_right pre [] us (leaves o (pre ++ us) us e) in
      rw q (still o us us' f (rw q at e));
  agree = λ ls h. refl;
}
  where
    leaves : (o : Option (Unit {0})) (ls us : List Lexeme) → at_end ls ≡ said o us → ls ≡ us
    leaves none [] us e = cc
    leaves none (l ∷ ls) us e = cc
    leaves (some a) [] us e = cc
    leaves (some a) (l ∷ ls) us e = cc

    still : (o : Option (Unit {0})) (us us' : List Lexeme) → front us ≡ front us' → at_end us ≡ said o us
        → at_end us' ≡ said o us'
    still o [] [] f e = e
    still o [] (x ∷ xs) f e = cc
    still o (l ∷ ls) [] f e = cc
    still none (l ∷ ls) (x ∷ xs) f e = refl
    still (some a) (l ∷ ls) (x ∷ xs) f e = cc

monitors : (k n : ℕ) → 3 * n + 1 ≤ k → Phrase (of spell) at_end_lem n (read_monitor k) (read_monitor (suc k))
unfolding read_monitor spell spell_var spell_try spell_method begins is_key is_mark keyword_number mark_number going_on is_sign each
monitors k n h = spelled
    (skips (the_key k_monitor) (thens names λ x. skips (the_mark lbrace)
    (meets (somes spell_var (is_key k_var) (λ _ _. refl) k n (omega arith) vars) (λ vs. skips (the_key k_keep)
    (meets (conds k n h) (λ c. skips (the_mark semicolon)
    (meets (manys spell_try (is_key k_try) (λ _ _. refl) k n (omega arith) (tries k n h))
    (λ ts. meets (somes spell_method (is_key k_method) (λ _ _. refl) k n (omega arith) (methods k n h))
    (λ ms. skips (the_mark rbrace) (turns (λ _. record { title = x; vars = vs; keep = c; tries = ts; methods = ms }) ends))
    (λ _ _ _ _. refl))
    (λ _ _ _ _. refl)))
    (λ _ _ _ _. (refl, refl, refl)))) (λ _ _ _ _. refl))))
    exact (λ m. ((m.title, (m.vars, (m.keep, (m.tries, (m.methods, tt))))), refl))

-- A reader that leaves nothing

abbrev Exhausts : {A : Type 0} → Reader A → Type 0
Exhausts {A} r = (ls : List Lexeme) (a : A) (us : List Lexeme) → r ls ≡ got a us → us ≡ []

after : {A B : Type 0} (r : Reader A) {f : A → Reader B} → ((a : A) → Exhausts (f a)) → Exhausts (r >>= f)
unfolding ◌>>=◌ onwards
after {A} {B} r {f} h ls b us e = go (r ls) e
  where
    go : (g : Got A) → onwards g f ≡ got b us → us ≡ []
    go (got a vs) e = h a vs b us e
    go (stuck vs) e = let z : ◌≡◌ {A = ℕ} 0 1 = cc in absurd (omega arith)

ended : {A : Type 0} (x : A) → Exhausts (at_end >>= λ _. give x)
unfolding ◌>>=◌ onwards at_end give
ended x [] a us e = cc
ended x (l ∷ ls) a us e = cc

reads_all : (k : ℕ) → Exhausts (read_monitor k)
unfolding read_monitor
reads_all k =
    after _ λ _. after _ λ _. after _ λ _. after _ λ _. after _ λ _. after _ λ _. after _ λ _. after _ λ _. after _ λ _.
    after _ λ _. ended _

-- The theorems

-- `read` has enough fuel
pub fuel_enough : (ls : List Lexeme) (k : ℕ) → 4 * (length ls + 1) ≤ k → read_monitor k ls ≡ read ls
unfolding read
fuel_enough ls k h =
    let least = 4 * (length ls + 1) in
    let e : k ≡ (k - least) + least = omega arith in
    ap (λ (j : ℕ). read_monitor j ls) e ∙ go (k - least)
  where
    go : (d : ℕ) → read_monitor (d + 4 * (length ls + 1)) ls ≡ read_monitor (4 * (length ls + 1)) ls
    go zero = rw zero-add
    go (suc d) =
        rw suc-add (sym ((monitors (d + 4 * (length ls + 1)) (suc (length ls)) (omega arith)).agree ls (omega arith))
        ∙ go d)

reading : (ls : List Lexeme)
    → Phrase (of spell) at_end_lem (suc (length ls)) (read_monitor (4 * (length ls + 1)))
    (read_monitor (suc (4 * (length ls + 1))))
reading ls = monitors (4 * (length ls + 1)) (suc (length ls)) (omega arith)

-- a tree that is read spells the whole list
pub read_spells : (ls : List Lexeme) (m : Monitor) (us : List Lexeme) → read ls ≡ got m us → (spell m ≡ ls) × (us ≡ [])
unfolding read
read_spells ls m us e =
    let s = (reading ls).sound ls m us (omega arith) e in
    let z = reads_all _ ls m us e in
    (ap spell s.1 ∙ sym (s.2 ∙ ap (λ (x : List Lexeme). spell s.0 ++ x) z ∙ append-nil (spell s.0)), z)

-- a list that a tree spells is read as that tree
pub spelled_read : (m : Monitor) → read (spell m) ≡ got m []
unfolding read
spelled_read m = rw append-nil at ((reading (spell m)).complete m [] refl (simp append-nil (omega arith)))

-- no two trees spell one list
pub one_tree : (m m' : Monitor) → spell m ≡ spell m' → m ≡ m'
one_tree m m' e = let p = spelled_read m in let q = spelled_read m' in cc

-- what it read before it was stuck begins a file of the grammar ..
pub stuck_viable : (ls us : List Lexeme) → AllSpellable ls → read ls ≡ stuck us
    → (pre : List Lexeme) × (ls ≡ pre ++ us) × Viable pre
unfolding read Viable InGrammar
stuck_viable ls us a e =
    let s = (reading ls).prefix ls us (omega arith) e in
    let pre = s.0 in
    let front = front_spellable pre us (rw s.1 at a) in
    (pre, s.1, (s.3, (s.2, s.4, both_spellable pre s.3 front s.5)))

-- .. and with the next lexeme it begins none, whatever the lexemes are
no_tree_on : (ls pre : List Lexeme) (l : Lexeme) (us : List Lexeme) → read ls ≡ stuck (l ∷ us) → ls ≡ pre ++ (l ∷ us)
    → (m : Monitor) (rest : List Lexeme) → spell m ≡ pre ++ (l ∷ rest) → ⊥
no_tree_on ls pre l us e c m rest w =
    let n = suc (length ls + length (spell m)) in
    let p = monitors (4 * n) n (omega arith) in
    let there = p.local none pre (l ∷ us) (l ∷ rest) refl (omega (arith, ap length c)) (omega (arith, ap length w))
    (ap (read_monitor (4 * n)) (sym c) ∙ fuel_enough ls (4 * n) (omega arith) ∙ e) in
    let whole = p.complete m [] refl (simp append-nil (omega arith)) in
    let short = append-nil (spell m) in
    let z : ◌≡◌ {A = ℕ} 0 1 = cc in
    omega arith

pub stuck_not_viable : (ls pre : List Lexeme) (l : Lexeme) (us : List Lexeme) → read ls ≡ stuck (l ∷ us)
    → ls ≡ pre ++ (l ∷ us)
    → Viable (pre ++ (l ∷ [])) → ⊥
unfolding Viable InGrammar
stuck_not_viable ls pre l us e c (rest, (m, w, a)) =
    no_tree_on ls pre l us e c m rest (w ∙ append_assoc pre (l ∷ []) rest)

-- a list at which it is stuck is not in the grammar
pub stuck_not_in_grammar : (ls us : List Lexeme) → read ls ≡ stuck us → InGrammar ls → ⊥
unfolding InGrammar
stuck_not_in_grammar ls us e (m, q, a) =
    let p = spelled_read m in
    let z : ◌≡◌ {A = ℕ} 0 1 = cc in
    omega arith

-- stuck at the end: the list is only a beginning
pub stuck_at_end : (ls : List Lexeme) → AllSpellable ls → read ls ≡ stuck [] → Viable ls × (InGrammar ls → ⊥)
stuck_at_end ls a e =
    let s = stuck_viable ls [] a e in
    (subst Viable (sym (s.1 ∙ append-nil s.0)) s.2, stuck_not_in_grammar ls [] e)

-- a list in the grammar is viable
pub whole_viable : (ls : List Lexeme) → InGrammar ls → Viable ls
unfolding Viable
whole_viable ls g = ([], rw append-nil g)

-- Of lexemes that bytes spell it is the same to ask for any tree, whatever its names and numbers: one that spells them,
-- and one that goes on from them
pub in_grammar_iff : (ls : List Lexeme) → AllSpellable ls → InGrammar ls ↔ ((m : Monitor) × (spell m ≡ ls))
unfolding InGrammar
in_grammar_iff ls a = (λ g. (g.0, g.1), λ t. (t.0, t.1, a))

pub viable_iff : (ls : List Lexeme) → AllSpellable ls
    → Viable ls ↔ ((m : Monitor) × (rest : List Lexeme) × (spell m ≡ ls ++ rest))
unfolding Viable InGrammar
viable_iff ls a = (λ v. (v.1.0, v.0, v.1.1), λ t. go (read ls) refl t.0 t.1 t.2)
  where
    go : (g : Got Monitor) → read ls ≡ g → (m : Monitor) (rest : List Lexeme) → spell m ≡ ls ++ rest → Viable ls
    go (got t us) e m rest w = whole_viable ls ((in_grammar_iff ls a).1 (t, (read_spells ls t us e).0))
    go (stuck []) e m rest w = (stuck_at_end ls a e).0
    go (stuck (l ∷ us)) e m rest w =
        let s = stuck_viable ls (l ∷ us) a e in
        absurd (no_tree_on ls s.0 l us e s.1 m (us ++ rest)
        (w ∙ ap (λ (x : List Lexeme). x ++ rest) s.1 ∙ append_assoc s.0 (l ∷ us) rest))

-- A condition as the kept condition of a file
keeping : Cond → Monitor
keeping c =
    record {
      title = [];
      vars = record { head = record { title = []; start = plain 0; low = plain 0; high = plain 0 }; more = [] };
      keep = c;
      tries = [];
      methods =
          record {
            head =
                record { title = []; regions = record { head = record { guard = c; body = end }; more = [] } };
            more = [];
          };
    }

-- no two conditions spell one list
pub one_cond : (c d : Cond) → spell_cond c ≡ spell_cond d → c ≡ d
unfolding keeping spell spell_method each spell_region
one_cond c d e = ap (λ (m : Monitor). m.keep) (one_tree (keeping c) (keeping d) (rw e))
