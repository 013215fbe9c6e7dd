-- Runs of blocks and statements in the lanes of a set, one law for each way that the code goes: what is run from a
-- place from what was read and run at its parts.
use Prim.Native.Nat.{ℕ, zero, suc, ◌+◌, ◌-◌, ◌<◌, ◌≤◌}
use native.Mathlib.Omega.{arith}
use mathlib.Core.Path.{◌≡◌, refl, sym, ap, ◌∙◌, subst}
use mathlib.Core.Bool.{Bool, true, false, not, ◌&&◌, cond, and-true, and-false}
use mathlib.Core.List.{List, [], ◌∷◌, ◌++◌, append_assoc}
use mathlib.Core.Option.{Option, none, some}
use lib.ListN.{length, get_or, drop, replicate, length-drop, length-append, get_or-replicate}
use lib.IntN.{ℤ}
use Rattle.sets.specs.Set.{member}
use Rattle.syntax.specs.Token.{Lexeme, key, mark, rbrace, rparen, semicolon, k_else, k_if}
use Rattle.syntax.specs.Decide.Lexeme.{mark_number, keyword_number}
use Rattle.syntax.specs.Held.Kind.{kind_of, name_kind, no_kind}
use Rattle.syntax.specs.Tree.{Var, Block, end, then, Stmt, assign, if_then, if_else, spell_expr, spell_block}
use Rattle.syntax.specs.Tree.{spell_stmt}
use Rattle.meaning.specs.Decide.Bodies.{assigned, and_then, run_block, run_stmt}
use Rattle.evaluator.specs.Coding.{Codes, RunAs, lane}
use Rattle.meaning.specs.Held.{Biased, Ranges}
use Rattle.evaluator.specs.Promises.{Next, Closes, front_kind, given, ExprRead, CondRead, Stored, BlockRun}
use Rattle.evaluator.specs.Promises.{StmtRun, BranchRun, RunIn, worth, one_block}
use Rattle.evaluator.proofs.Places.{front_is, behind, name_at, apart, same_length}
use Rattle.evaluator.proofs.Readings.{semicolon_ends, rparen_ends}

-- What statements and blocks begin with

stmt_kind : Stmt → ℕ
stmt_kind (assign x e) = name_kind
stmt_kind (if_then c b) = kind_of (key k_if)
stmt_kind (if_else c a b) = kind_of (key k_if)

stmt_front : (s : Stmt) (us : List Lexeme) → front_kind (spell_stmt s ++ us) ≡ stmt_kind s
unfolding front_kind spell_stmt stmt_kind kind_of keyword_number
stmt_front (assign x e) us = refl
stmt_front (if_then c b) us = refl
stmt_front (if_else c a b) us = refl

not_stmt : {A : Type 0} (s : Stmt) {k : ℕ} → (k ≡ name_kind → ⊥) → (k ≡ kind_of (key k_if) → ⊥) → k ≡ stmt_kind s → A
unfolding stmt_kind
not_stmt (assign x e) f g h = absurd (f h)
not_stmt (if_then c b) f g h = absurd (g h)
not_stmt (if_else c a b) f g h = absurd (g h)

-- a block's first statement, and what stands behind it
split : (s : Stmt) (b : Block) (us : List Lexeme) → (spell_stmt s ++ spell_block b) ++ us
    ≡ spell_stmt s ++ (spell_block b ++ us)
split s b us = append_assoc (spell_stmt s) (spell_block b) us

-- no `else` stands where a block goes on
no_else : (b : Block) (us : List Lexeme) → front_kind (spell_block b ++ (mark rbrace ∷ us)) ≡ kind_of (key k_else) → ⊥
unfolding front_kind spell_block kind_of mark_number keyword_number
no_else end us h = apart (kind_of (mark rbrace)) (kind_of (key k_else)) refl refl h
no_else (then s b) us h =
    not_stmt s (λ e. apart (kind_of (key k_else)) name_kind refl refl e)
    (λ e. apart (kind_of (key k_else)) (kind_of (key k_if)) refl refl e)
    (sym h ∙ ap front_kind (split s b (mark rbrace ∷ us)) ∙ stmt_front s (spell_block b ++ (mark rbrace ∷ us)))

-- Runs one after the other, where a fault stays one

then_runs : (vs : List Var) (ok ok' : Bool) {both : Bool} (held held' : List ℕ) (o : Option (List ℤ)) (f : List ℤ
    → Option (List ℤ))
    → RunAs vs ok held o → ((bs : List ℤ) → Biased vs bs held → RunAs vs ok' held' (f bs)) → both ≡ ok && ok'
    → RunAs vs both held' (and_then o f)
unfolding RunAs and_then
then_runs vs ok ok' held held' none f one two e = e ∙ ap (λ b. b && ok') one
then_runs vs ok ok' held held' (some bs) f one two e =
    subst (λ b. RunAs vs b held' (f bs)) (sym (e ∙ ap (λ b. b && ok') one.0)) (two bs one.1)

-- a lane that is off stays as it is
steps : (on : Bool) (o : Option (List ℤ)) (f : List ℤ → Option (List ℤ)) (as' : List ℤ)
    → and_then (cond on o (some as')) (λ bs. cond on (f bs) (some bs)) ≡ cond on (and_then o f) (some as')
unfolding and_then
steps true o f as' = refl
steps false o f as' = refl

whole : (o : Option (List ℤ)) → and_then o (λ bs. some bs) ≡ o
unfolding and_then
whole none = refl
whole (some bs) = refl

-- a lane goes through the block of its side
sides : (on h : Bool) (o : Option (List ℤ)) (f : List ℤ → Option (List ℤ)) (as' : List ℤ)
    → and_then (cond (on && h) o (some as')) (λ bs. cond (on && not h) (f bs) (some bs))
    ≡ cond on (cond h o (f as')) (some as')
unfolding and_then
sides true true o f as' = whole o
sides true false o f as' = refl
sides false h o f as' = refl

side : (on h : Bool) (o p : Option (List ℤ)) → cond (on && h) o p ≡ cond on (cond h o p) p
side true h o p = refl
side false h o p = refl

-- Blocks

module _ {ks values lows highs vars : List ℕ} {on : List Bool} where
  -- no statement
  block_end : (at : ℕ) → length vars ≡ 96 → (get_or ks at no_kind ≡ name_kind → ⊥)
      → (get_or ks at no_kind ≡ kind_of (key k_if) → ⊥)
      → BlockRun ks values lows highs vars on at (replicate 16 true) vars
  unfolding spell_block run_block RunAs
  block_end at long no_name no_if = record {
    long = long;
    runs = λ j l vs as' ls us b codes biased ranges e. rw (get_or-replicate 16 j true false l)
        (go (lane vars j) (get_or on j false) vs as' ls us b codes biased e);
  }
    where
      go : (held : List ℕ) (h : Bool) (vs : List Var) (as' : List ℤ) (ls us : List Lexeme) (b : Block)
          → Codes vs ls ks values → Biased vs as' held
          → drop at ls ≡ spell_block b ++ (mark rbrace ∷ us) → RunAs vs true held (cond h (run_block b vs as') (some as'))
      go held true vs as' ls us end codes biased e = (refl, biased)
      go held false vs as' ls us end codes biased e = (refl, biased)
      go held h vs as' ls us (then s b) codes biased e =
          not_stmt s no_name no_if
          (sym (front_is codes at refl (e ∙ split s b (mark rbrace ∷ us)))
          ∙ stmt_front s (spell_block b ++ (mark rbrace ∷ us)))

  -- the statements behind the first go on from its values
  block_more : {at n : ℕ} {held held' : List ℕ} {ok ok' both : List Bool}
      → StmtRun ks values lows highs vars on at ok held n
      → (get_or ks at no_kind ≡ kind_of (mark rbrace) → ⊥) → BlockRun ks values lows highs held on n ok' held'
      → ((j : ℕ) → j < 16 → get_or both j false ≡ get_or ok j false && get_or ok' j false)
      → BlockRun ks values lows highs vars on at both held'
  unfolding spell_block run_block front_kind kind_of mark_number
  block_more {at} {n} {held} {held'} {ok} {ok'} {both} stmt more rest joins = record {
    long = rest.long;
    runs = λ j l vs as' ls us b codes biased ranges e. go j l vs as' ls us b codes biased ranges e;
  }
    where
      go : (j : ℕ) → j < 16 → (vs : List Var) (as' : List ℤ) (ls us : List Lexeme) (b : Block) → Codes vs ls ks values
          → Biased vs as' (lane vars j)
          → Ranges vs lows highs → drop at ls ≡ spell_block b ++ (mark rbrace ∷ us)
          → RunIn vs on both held' j as' (run_block b vs as')
      go j l vs as' ls us end codes biased ranges e = absurd (more (sym (front_is codes at refl e)))
      go j l vs as' ls us (then s b) codes biased ranges e =
          let t = stmt.runs j l vs as' ls (spell_block b ++ (mark rbrace ∷ us)) s codes biased ranges
          (e ∙ split s b (mark rbrace ∷ us)) (no_else b us) in
          subst (RunAs vs (get_or both j false) (lane held' j))
          (steps (get_or on j false) (run_stmt s vs as') (λ bs. run_block b vs bs) as')
          (then_runs vs (get_or ok j false) (get_or ok' j false) (lane held j) (lane held' j)
          (cond (get_or on j false) (run_stmt s vs as') (some as'))
          (λ bs. cond (get_or on j false) (run_block b vs bs) (some bs)) t.0
          (λ bs held_so. rest.runs j l vs bs ls us b codes held_so ranges t.1) (joins j l))

-- A block begun: what is run from the place on, behind what ran without a fault so far, is the whole run

pub record Begun (ks values lows highs vars : List ℕ) (on : List Bool) (at : ℕ) (held : List ℕ) (ok : List Bool)
    (place : ℕ) : Type 0 where
  pub from : at ≤ place
  pub to : place ≤ length ks
  pub long : length held ≡ 96
  pub whole_run : (held' : List ℕ) (ok' both : List Bool) → BlockRun ks values lows highs held on place ok' held'
      → ((j : ℕ) → j < 16 → get_or both j false ≡ get_or ok j false && get_or ok' j false)
      → BlockRun ks values lows highs vars on at both held'

in_both : List Bool → List Bool → List Bool
in_both [] bs = []
in_both (a ∷ as') [] = []
in_both (a ∷ as') (b ∷ bs) = (a && b) ∷ in_both as' bs

in_both_lem : (as' bs : List Bool) (j : ℕ) → get_or (in_both as' bs) j false ≡ get_or as' j false && get_or bs j false
unfolding in_both
in_both_lem [] bs j = refl
in_both_lem (a ∷ as') [] j = sym (and-false (get_or (a ∷ as') j false))
in_both_lem (a ∷ as') (b ∷ bs) zero = refl
in_both_lem (a ∷ as') (b ∷ bs) (suc j) = in_both_lem as' bs j

and_assoc : (a b c : Bool) → (a && b) && c ≡ a && (b && c)
and_assoc true b c = refl
and_assoc false b c = refl

module _ {ks values lows highs vars : List ℕ} {on : List Bool} {at : ℕ} where
  pub begun_first : at ≤ length ks → length vars ≡ 96
      → Begun ks values lows highs vars on at vars (replicate 16 true) at
  begun_first within long = record {
    from = omega arith;
    to = within;
    long = long;
    whole_run = λ held' ok' both rest joins. record {
      long = rest.long;
      runs = λ j l vs as' ls us b codes biased ranges e.
          subst (λ (h : Bool). RunAs vs h (lane held' j) (cond (get_or on j false) (run_block b vs as') (some as')))
          (sym (joins j l ∙ ap (λ (h : Bool). h && get_or ok' j false) (get_or-replicate 16 j true false l)))
          (rest.runs j l vs as' ls us b codes biased ranges e);
    };
  }

  module _ {held : List ℕ} {ok : List Bool} {place : ℕ}
      (begun : Begun ks values lows highs vars on at held ok place) where
    pub begun_last : (get_or ks place no_kind ≡ name_kind → ⊥) → (get_or ks place no_kind ≡ kind_of (key k_if) → ⊥)
        → BlockRun ks values lows highs vars on at ok held
    begun_last no_name no_if =
        begun.whole_run held (replicate 16 true) ok (block_end place begun.long no_name no_if)
        (λ j l. sym (ap (◌&&◌ (get_or ok j false)) (get_or-replicate 16 j true false l) ∙ and-true (get_or ok j false)))

    pub begun_more : {n : ℕ} {held' : List ℕ} {first both : List Bool}
        → StmtRun ks values lows highs held on place first held' n
        → (get_or ks place no_kind ≡ kind_of (mark rbrace) → ⊥)
        → ((j : ℕ) → j < 16 → get_or both j false ≡ get_or ok j false && get_or first j false)
        → Begun ks values lows highs vars on at held' both n
    begun_more {first = first} stmt more joins = record {
      from = omega (arith, begun.from, stmt.from);
      to = stmt.to;
      long = stmt.long;
      whole_run = λ held'' ok' all rest joins'.
          begun.whole_run held'' (in_both first ok') all (block_more stmt more rest (λ j l. in_both_lem first ok' j))
          (λ j l. joins' j l ∙ ap (λ (h : Bool). h && get_or ok' j false) (joins j l)
          ∙ and_assoc (get_or ok j false) (get_or first j false) (get_or ok' j false)
          ∙ ap (◌&&◌ (get_or ok j false)) (sym (in_both_lem first ok' j)));
    }

-- Statements

-- one run or the other, as `run_stmt` chooses
abbrev choose : Option (List ℤ) → Option (List ℤ) → Bool → Option (List ℤ)
choose o p t = elim t [ true ↦ o | false ↦ p ]

chosen : (h : Bool) (o p : Option (List ℤ)) → cond h o p ≡ choose o p h
chosen true o p = refl
chosen false o p = refl

-- a lane of the set that lacks a value has a fault, and else what follows from the value
lacking : {A : Type 0} (vs : List Var) (ok : Bool) {ok' : Bool} (on p : Bool) (held : List ℕ) (as' : List ℤ) (a : A)
    (f : A → Option (List ℤ))
    → RunAs vs ok held (cond on (f a) (some as')) → ok' ≡ ok && not (on && p)
    → RunAs vs ok' held (cond on (and_then (given p a) f) (some as'))
unfolding RunAs and_then given
lacking vs ok true true held as' a f run e = e ∙ and-false ok
lacking vs ok true false held as' a f run e = subst (λ b. RunAs vs b held (f a)) (sym (e ∙ and-true ok)) run
lacking vs ok false p held as' a f run e = (e ∙ and-true ok ∙ run.0, run.1)

module _ {ks values lows highs vars : List ℕ} {on ok ok' : List Bool} {held : List ℕ} where
  pub stmt_assign : {at a b k n slot lacks : ℕ} {sums : List ℕ} → (get_or ks at no_kind ≡ kind_of (key k_if) → ⊥)
      → at < length ks → Next ks at a → Next ks a b
      → ExprRead ks values vars b sums lacks k → Next ks k n → slot ≡ get_or values at 0
      → Stored lows highs vars on slot sums ok held
      → ((j : ℕ) → j < 16 → get_or ok' j false ≡ get_or ok j false && not (get_or on j false && member lacks j))
      → StmtRun ks values lows highs vars on at ok' held n
  unfolding spell_stmt run_stmt front_kind kind_of keyword_number
  stmt_assign {at} {a} {b} {k} {n} {slot} {lacks} {sums} no_if within one two expr last value stored faults = record {
    long = stored.long;
    from = omega (arith, one.one_more within, two.from, expr.from, last.from);
    to = last.to;
    runs = λ j l vs as' ls us s codes biased ranges e no_else. go j l vs as' ls us s codes biased ranges e;
  }
    where
      go : (j : ℕ) → j < 16 → (vs : List Var) (as' : List ℤ) (ls us : List Lexeme) (s : Stmt) → Codes vs ls ks values
          → Biased vs as' (lane vars j)
          → Ranges vs lows highs → drop at ls ≡ spell_stmt s ++ us → RunIn vs on ok' held j as' (run_stmt s vs as')
          × (drop n ls ≡ us)
      go j l vs as' ls us (assign x e) codes biased ranges h =
          let t = expr.reads j l vs as' ls (mark semicolon ∷ us) e codes biased
          (behind codes two (behind codes one h) ∙ append_assoc (spell_expr e) (mark semicolon ∷ []) us)
          (semicolon_ends us) in (
            subst (λ z. RunIn vs on ok' held j as' (and_then z (λ b. assigned vs as' x b))) (sym t.0)
                (lacking vs (get_or ok j false) (get_or on j false) (member lacks j) (lane held j) as'
                (worth (get_or sums j 0)) (λ b. assigned vs as' x b)
                (stored.stores j l vs as' x biased ranges (value ∙ name_at codes at x h))
                (faults j l)),
            behind codes last t.1,
          )
      go j l vs as' ls us (if_then c d) codes biased ranges h = absurd (no_if (sym (front_is codes at refl h)))
      go j l vs as' ls us (if_else c d d') codes biased ranges h = absurd (no_if (sym (front_is codes at refl h)))

  pub stmt_if : {at a b k open' n lacks : ℕ} {holds : List Bool} → get_or ks at no_kind ≡ kind_of (key k_if)
      → at < length ks → Next ks at a → Next ks a b
      → CondRead ks values vars b holds lacks k → Next ks k open'
      → BranchRun ks values lows highs vars on open' holds ok held n
      → ((j : ℕ) → j < 16 → get_or ok' j false ≡ get_or ok j false && not (get_or on j false && member lacks j))
      → StmtRun ks values lows highs vars on at ok' held n
  unfolding spell_stmt run_stmt front_kind kind_of keyword_number one_block
  stmt_if {at} {a} {b} {k} {open'} {n} {lacks} {holds} kind within one two test last branch faults = record {
    long = branch.long;
    from = omega (arith, one.one_more within, two.from, test.from, last.from, branch.from);
    to = branch.to;
    runs = λ j l vs as' ls us s codes biased ranges e no_else. go j l vs as' ls us s codes biased ranges e no_else;
  }
    where
      -- by the condition's value
      branched : (j : ℕ) → j < 16 → (vs : List Var) (as' : List ℤ) (o p : Option (List ℤ)) {z : Option Bool}
          → z ≡ given (member lacks j) (get_or holds j false) → RunIn vs on ok held j as' (cond (get_or holds j false) o p)
          → RunIn vs on ok' held j as' (and_then z (choose o p))
      branched j l vs as' o p e run =
          subst (λ y. RunIn vs on ok' held j as' (and_then y (choose o p))) (sym e)
          (lacking vs (get_or ok j false) (get_or on j false) (member lacks j) (lane held j) as' (get_or holds j false)
          (choose o p) (subst (RunIn vs on ok held j as') (chosen (get_or holds j false) o p) run) (faults j l))

      go : (j : ℕ) → j < 16 → (vs : List Var) (as' : List ℤ) (ls us : List Lexeme) (s : Stmt) → Codes vs ls ks values
          → Biased vs as' (lane vars j)
          → Ranges vs lows highs → drop at ls ≡ spell_stmt s ++ us → (front_kind us ≡ kind_of (key k_else) → ⊥)
          → RunIn vs on ok' held j as' (run_stmt s vs as') × (drop n ls ≡ us)
      go j l vs as' ls us (assign x e) codes biased ranges d f =
          apart name_kind (kind_of (key k_if)) refl refl (front_is codes at kind d)
      go j l vs as' ls us (if_then c b) codes biased ranges d f =
          let t = test.reads j l vs as' ls (mark rparen ∷ one_block b us) c codes biased
          (behind codes two (behind codes one d) ∙ simp append_assoc) (rparen_ends (one_block b us)) in
          let u = branch.runs_one j l vs as' ls us b codes biased ranges (behind codes last t.1) f in
          (branched j l vs as' (run_block b vs as') (some as') t.0 u.0, u.1)
      go j l vs as' ls us (if_else c a b) codes biased ranges d f =
          let t = test.reads j l vs as' ls (mark rparen ∷ one_block a (key k_else ∷ one_block b us)) c codes biased
          (behind codes two (behind codes one d) ∙ simp append_assoc)
          (rparen_ends (one_block a (key k_else ∷ one_block b us))) in
          let u = branch.runs_two j l vs as' ls us a b codes biased ranges (behind codes last t.1) in
          (branched j l vs as' (run_block a vs as') (run_block b vs as') t.0 u.0, u.1)

-- Branches

-- the place held for a brace that opens a block is that of the one that closes it
closed : {vs : List Var} {ls : List Lexeme} {ks values : List ℕ} {open' close : ℕ} (b : Block) (us : List Lexeme)
    → Codes vs ls ks values → Closes ks values open' close → drop open' ls ≡ one_block b us → drop close ls
    ≡ mark rbrace ∷ us
unfolding one_block
closed {vs} {ls} {ks} {values} {open'} {close} b us codes closes e =
    let j = get_or values open' 0 in
    let d : drop j ls ≡ mark rbrace ∷ us = codes.by_brace open' b us e in
    let behind_it : length ls - j ≡ suc (length us) = sym (length-drop j ls) ∙ ap length d in
    let whole : length ls - open' ≡ suc (length (spell_block b) + suc (length us)) =
    sym (length-drop open' ls) ∙ ap length e ∙ ap suc (length-append (spell_block b) (mark rbrace ∷ us)) in
    ap (λ (i : ℕ). drop i ls) (closes.held (omega arith) (omega (arith, same_length codes))) ∙ d

module _ {ks values lows highs vars : List ℕ} (on holds : List Bool) {on₁ : List Bool} {open' close next first : ℕ}
    (closes : Closes ks values open' close) (past : Next ks close next) (enter : Next ks open' first)
    (taken : (j : ℕ) → j < 16 → get_or on₁ j false ≡ get_or on j false && get_or holds j false) {ok₁ : List Bool}
    {held₁ : List ℕ}
    (run : BlockRun ks values lows highs vars on₁ first ok₁ held₁) where
  -- the block of the lanes in which the condition holds
  one_side : (j : ℕ) → j < 16 → (vs : List Var) (as' : List ℤ) (ls us : List Lexeme) (b : Block) → Codes vs ls ks values
      → Biased vs as' (lane vars j) → Ranges vs lows highs → drop open' ls ≡ one_block b us
      → RunAs vs (get_or ok₁ j false) (lane held₁ j) (cond (get_or on j false && get_or holds j false) (run_block b vs as')
      (some as'))
  unfolding one_block
  one_side j l vs as' ls us b codes biased ranges e =
      subst (λ z. RunAs vs (get_or ok₁ j false) (lane held₁ j) (cond z (run_block b vs as') (some as'))) (taken j l)
      (run.runs j l vs as' ls us b codes biased ranges (behind codes enter e))

  -- one block
  pub branch_one : (get_or ks next no_kind ≡ kind_of (key k_else) → ⊥)
      → BranchRun ks values lows highs vars on open' holds ok₁ held₁ next
  unfolding one_block front_kind kind_of keyword_number
  branch_one no_else = record {
    long = run.long;
    from = omega (arith, closes.from, past.from);
    to = past.to;
    runs_one = λ j l vs as' ls us b codes biased ranges e f. (
      subst (RunAs vs (get_or ok₁ j false) (lane held₁ j))
          (side (get_or on j false) (get_or holds j false) (run_block b vs as') (some as'))
          (one_side j l vs as' ls us b codes biased ranges e),
      behind codes past (closed b us codes closes e),
    );
    runs_two = λ j l vs as' ls us a b codes biased ranges e.
        absurd
        (no_else
        (sym (front_is codes next refl
        (behind codes past (closed a (key k_else ∷ one_block b us) codes closes e)))));
  }

  -- two blocks
  pub branch_two : {other last final second : ℕ} {on₂ ok₂ both : List Bool} {held₂ : List ℕ}
      → get_or ks next no_kind ≡ kind_of (key k_else) → Next ks next other
      → Closes ks values other last → Next ks last final → Next ks other second
      → ((j : ℕ) → j < 16 → get_or on₂ j false ≡ get_or on j false && not (get_or holds j false))
      → BlockRun ks values lows highs held₁ on₂ second ok₂ held₂
      → ((j : ℕ) → j < 16 → get_or both j false ≡ get_or ok₁ j false && get_or ok₂ j false)
      → BranchRun ks values lows highs vars on open' holds both held₂ final
  unfolding one_block
  branch_two {on₂ = on₂} {ok₂ = ok₂} {both = both} {held₂ = held₂} kind step closes' end' enter' left more joins =
      record {
        long = more.long;
        from = omega (arith, closes.from, past.from, step.from, closes'.from, end'.from);
        to = end'.to;
        runs_one = λ j l vs as' ls us b codes biased ranges e f.
            absurd (f (front_is codes next kind (behind codes past (closed b us codes closes e))));
        runs_two = λ j l vs as' ls us a b codes biased ranges e.
            let second_at = behind codes step (behind codes past (closed a (key k_else ∷ one_block b us) codes closes e))
            in
            let h = get_or holds j false in (
              subst (RunAs vs (get_or both j false) (lane held₂ j))
                  (sides (get_or on j false) h (run_block a vs as') (λ bs. run_block b vs bs) as')
                  (then_runs vs (get_or ok₁ j false) (get_or ok₂ j false) (lane held₁ j) (lane held₂ j)
                  (cond (get_or on j false && h) (run_block a vs as') (some as'))
                  (λ bs. cond (get_or on j false && not h) (run_block b vs bs) (some bs))
                  (one_side j l vs as' ls (key k_else ∷ one_block b us) a codes biased ranges e)
                  (λ bs held. subst
                  (λ z. RunAs vs (get_or ok₂ j false) (lane held₂ j) (cond z (run_block b vs bs) (some bs)))
                  (left j l)
                  (more.runs j l vs bs ls us b codes held ranges (behind codes enter' second_at)))
                  (joins j l)),
              behind codes end' (closed b us codes closes' second_at),
            );
      }
