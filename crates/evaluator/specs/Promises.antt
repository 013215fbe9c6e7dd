-- What the evaluator's inner functions promise: bounds on places and sums for any tokens, and in each lane, for tokens
-- that a tree spells, its meaning and the place behind it. The lanes in which the tree lacks a value are a set.
use Rattle.std.specs.Prelude.{ℕ, suc, ◌+◌, ◌-◌, ◌*◌, ◌<◌, ◌≤◌, ◌≡◌, Bool, true, false, not, ◌||◌, cond, List, [], ◌∷◌, ◌++◌, eqb, ltb, length, get_or, drop, ℤ, pos, ◌-ℤ◌}
use Rattle.std.proofs.Math.Option.{Option, none, some}
use Rattle.sets.specs.Set.{member}
use Rattle.syntax.specs.Limits.{most_bytes, most_vars}
use Rattle.syntax.specs.Token.{Lexeme, key, mark, lbrace, rbrace, k_else, k_mod}
use Rattle.syntax.specs.Token.{differs, below, at_most_mark, above, at_least_mark, plus, and_and, or_or}
use Rattle.syntax.specs.Token as token
use Rattle.syntax.specs.Held.Kind.{kind_of, no_kind}
use Rattle.syntax.specs.Tree.{Var, Atom, Sign, added, taken, Expr, Comparison, Block, Stmt, spell_atom, spell_term}
use Rattle.syntax.specs.Tree.{spell_expr, comparison_mark, spell_cond, spell_conj, spell_simple, spell_block, spell_stmt}
use Rattle.meaning.specs.Value.{atom_value, modulo, of_both, term_value, joined, expr_value, compares, cond_value, conj_value}
use Rattle.meaning.specs.Value.{simple_value}
use Rattle.meaning.specs.Decide.Bodies.{run_block}
use Rattle.meaning.specs.Decide.Bodies.{run_stmt, assigned}
use Rattle.meaning.specs.Held.{Biased, Ranges}
use Rattle.evaluator.specs.Coding.{Codes, RunAs, slot_of, lane}

-- a place among few enough tokens
pub record Placed (ks : List ℕ) (at : ℕ) : Type 0 where
  pub within : at ≤ length ks
  pub short : length ks ≤ most_bytes

-- the next place
pub record Next (ks : List ℕ) (at r : ℕ) : Type 0 where
  pub from : at ≤ r
  pub to : r ≤ length ks
  pub one_more : at < length ks → r ≡ suc at

-- the place held for an opening brace, where it lies behind it
pub record Closes (ks values : List ℕ) (open' r : ℕ) : Type 0 where
  pub from : open' ≤ r
  pub to : r ≤ length ks
  pub held : open' ≤ get_or values open' 0 → get_or values open' 0 ≤ length ks → r ≡ get_or values open' 0

-- the kind at the front, and `no_kind` of nothing
unfoldable pub front_kind : List Lexeme → ℕ
front_kind [] = no_kind
front_kind (l ∷ ls) = kind_of l

-- what may stand behind a term, an expression or simple condition, a conjunction, a condition: nothing that would
-- continue it
unfoldable pub EndsTerm : List Lexeme → Type 0
EndsTerm us = front_kind us ≡ kind_of (key k_mod) → ⊥

unfoldable pub EndsExpr : List Lexeme → Type 0
EndsExpr us =
    (front_kind us ≡ kind_of (mark plus) → ⊥) × (front_kind us ≡ kind_of (mark token.minus) → ⊥) × EndsTerm us

unfoldable pub EndsConj : List Lexeme → Type 0
EndsConj us = EndsExpr us × (front_kind us ≡ kind_of (mark and_and) → ⊥)

unfoldable pub EndsWhole : List Lexeme → Type 0
EndsWhole us = EndsConj us × (front_kind us ≡ kind_of (mark or_or) → ⊥)

-- what an operand adds: the value in its slot, and where that is none of the six a number
unfoldable pub operand : List ℕ → ℕ → ℕ → ℕ
operand vars slot p = cond (ltb slot most_vars) (get_or vars slot 0) p

-- the parts of an operand: a slot, a number in its place, and what is taken away, which of a variable is the 128 that
-- is added to its value
pub record Operand (slot p m : ℕ) : Type 0 where
  pub plus_small : p ≤ 65535
  pub minus_small : m ≤ 65535
  pub of_variable : slot < most_vars → m ≡ 128

-- an operand read from a place: what it adds, less m
pub record AtomRead (ks values : List ℕ) (at slot p m n : ℕ) : Type 0 where
  pub from : at ≤ n
  pub to : n ≤ length ks
  pub parts : Operand slot p m
  pub reads :
      (vs : List Var) (as' : List ℤ) (vars : List ℕ) (ls us : List Lexeme) (a : Atom) → Codes vs ls ks values
      → Biased vs as' vars
      → drop at ls ≡ spell_atom a ++ us → (atom_value vs as' a ≡ pos (operand vars slot p) -ℤ pos m) × (drop n ls ≡ us)

-- numbers of 16 bits in the lanes
pub record Small (lanes : List ℕ) : Type 0 where
  pub each : (j : ℕ) → j < 16 → get_or lanes j 0 ≤ 65535

-- what an operand adds in each lane
pub record Adds (vars : List ℕ) (slot p : ℕ) (lanes : List ℕ) : Type 0 where
  pub is : (j : ℕ) → j < 16 → get_or lanes j 0 ≡ operand (lane vars j) slot p
  pub small : p ≤ 65535 → Small lanes

-- a value, where it is not lacking
unfoldable pub given : {A : Type 0} → Bool → A → Option A
given true a = none
given false a = some a

-- a lane holds what variables may have
pub record Held (vars : List ℕ) (j : ℕ) : Type 0 where
  pub each : (k : ℕ) → get_or (lane vars j) k 0 ≤ 255

-- remainders of one operand by another, and the lanes that lack one
pub record Remains (vars : List ℕ) (slot p m slot' p' m' : ℕ) (rests : List ℕ) (lacks : ℕ) : Type 0 where
  pub small : Small rests
  pub is :
      (j : ℕ) → j < 16 → Held vars j
      → modulo (pos (operand (lane vars j) slot p) -ℤ pos m) (pos (operand (lane vars j) slot' p') -ℤ pos m')
      ≡ given (member lacks j) (pos (get_or rests j 0))

-- the value that a sum holds, 2 ^ 30 being its zero
abbrev pub worth : ℕ → ℤ
worth p = pos p -ℤ pos 1073741824

-- sums that are within 65,536 of zero for each token
pub record Near (tokens : ℕ) (lanes : List ℕ) : Type 0 where
  pub most : (j : ℕ) → j < 16 → get_or lanes j 0 ≤ 1073741824 + 65536 * tokens
  pub least : (j : ℕ) → j < 16 → 1073741824 ≤ get_or lanes j 0 + 65536 * tokens

-- sums with p less m added in each lane or taken away, by what goes up and what goes down
pub record Joined (minus : Bool) (p : List ℕ) (m : ℕ) (lanes sums : List ℕ) : Type 0 where
  pub each : (j : ℕ) → j < 16 → get_or sums j 0 ≡ get_or lanes j 0 + cond minus m (get_or p j 0) - cond minus (get_or p j 0) m

-- a sum in each lane, read from a place: it holds the value of the tree that is spelled there, and a set of lanes lacks
-- it
pub record Sums {X : Type 0} (spell : X → List Lexeme) (Ends : List Lexeme → Type 0) (value : ℕ → List Var → List ℤ → X
    → Option ℤ)
    (ks values vars : List ℕ) (at : ℕ) (lanes : List ℕ) (lacks n : ℕ) : Type 0 where
  pub from : at ≤ n
  pub to : n ≤ length ks
  pub near : Near (n + 1) lanes
  pub reads :
      (j : ℕ) → j < 16 → (vs : List Var) (as' : List ℤ) (ls us : List Lexeme) (x : X) → Codes vs ls ks values
      → Biased vs as' (lane vars j)
      → drop at ls ≡ spell x ++ us → Ends us
      → (value j vs as' x ≡ given (member lacks j) (worth (get_or lanes j 0))) × (drop n ls ≡ us)

unfoldable pub sign_of : Bool → Sign
sign_of true = taken
sign_of false = added

-- a term behind sums, the lanes that lack theirs, and a sign
abbrev pub TermRead : List ℕ → List ℕ → List ℕ → Bool → List ℕ → ℕ → ℕ → List ℕ → ℕ → ℕ → Type 0
TermRead ks values vars minus lanes lacks at sums lacks' n =
    Sums spell_term EndsTerm
    (λ j vs as' t. of_both (joined (sign_of minus)) (given (member lacks j) (worth (get_or lanes j 0)))
    (term_value vs as' t))
    ks values vars at sums lacks' n

abbrev pub ExprRead : List ℕ → List ℕ → List ℕ → ℕ → List ℕ → ℕ → ℕ → Type 0
ExprRead ks values vars at sums lacks n = Sums spell_expr EndsExpr (λ j. expr_value) ks values vars at sums lacks n

-- an atom behind sums and a sign, as a term, where no `mod` goes on there
abbrev pub AtomSum : List ℕ → List ℕ → List ℕ → Bool → List ℕ → ℕ → List ℕ → ℕ → Type 0
AtomSum ks values vars minus lanes at sums n =
    (get_or ks n no_kind ≡ kind_of (key k_mod) → ⊥) → TermRead ks values vars minus lanes 0 at sums 0 n

-- a `mod` stands somewhere among the kinds
abbrev pub HasMod : List ℕ → Type 0
HasMod ks = (n : ℕ) × (get_or ks n no_kind ≡ kind_of (key k_mod))

-- the test of a comparison mark's kind
unfoldable pub test_of : ℕ → ℕ → ℕ → Bool
test_of k a b =
    cond (eqb k (kind_of (mark below))) (ltb a b)
    (cond (eqb k (kind_of (mark above))) (ltb b a)
    (cond (eqb k (kind_of (mark at_most_mark))) (not (ltb b a))
    (cond (eqb k (kind_of (mark at_least_mark))) (not (ltb a b))
    (cond (eqb k (kind_of (mark differs))) (ltb a b || ltb b a) (not (ltb a b || ltb b a))))))

-- a truth in each lane, read from a place, and the lanes that lack it
pub record Truths {X : Type 0} (spell : X → List Lexeme) (Ends : List Lexeme → Type 0) (means : X → List Var → List ℤ
    → Option Bool)
    (ks values vars : List ℕ) (at : ℕ) (holds : List Bool) (lacks n : ℕ) : Type 0 where
  pub from : at ≤ n
  pub to : n ≤ length ks
  pub reads :
      (j : ℕ) → j < 16 → (vs : List Var) (as' : List ℤ) (ls us : List Lexeme) (x : X) → Codes vs ls ks values
      → Biased vs as' (lane vars j)
      → drop at ls ≡ spell x ++ us → Ends us
      → (means x vs as' ≡ given (member lacks j) (get_or holds j false)) × (drop n ls ≡ us)

pub record Compared : Type 0 where
  pub one : Expr
  pub by : Comparison
  pub two : Expr

unfoldable pub spell_compared : Compared → List Lexeme
spell_compared x = spell_expr x.one ++ (mark (comparison_mark x.by) ∷ spell_expr x.two)

unfoldable pub compared_value : Compared → List Var → List ℤ → Option Bool
compared_value x vs as' = of_both (compares x.by) (expr_value vs as' x.one) (expr_value vs as' x.two)

abbrev pub CompareRead : List ℕ → List ℕ → List ℕ → ℕ → List Bool → ℕ → ℕ → Type 0
CompareRead ks values vars at holds lacks n =
    Truths spell_compared EndsExpr compared_value ks values vars at holds lacks n

abbrev pub SimpleRead : List ℕ → List ℕ → List ℕ → ℕ → List Bool → ℕ → ℕ → Type 0
SimpleRead ks values vars at holds lacks n = Truths spell_simple EndsExpr simple_value ks values vars at holds lacks n

abbrev pub ConjRead : List ℕ → List ℕ → List ℕ → ℕ → List Bool → ℕ → ℕ → Type 0
ConjRead ks values vars at holds lacks n = Truths spell_conj EndsConj conj_value ks values vars at holds lacks n

abbrev pub CondRead : List ℕ → List ℕ → List ℕ → ℕ → List Bool → ℕ → ℕ → Type 0
CondRead ks values vars at holds lacks n = Truths spell_cond EndsWhole cond_value ks values vars at holds lacks n

-- a run in a lane of a set; in a lane that is none of the set's the values stay
abbrev pub RunIn : List Var → List Bool → List Bool → List ℕ → ℕ → List ℤ → Option (List ℤ) → Type 0
RunIn vs on ok held j as' o = RunAs vs (get_or ok j false) (lane held j) (cond (get_or on j false) o (some as'))

-- an assignment of sums to the variable of a slot
pub record Stored (lows highs vars : List ℕ) (on : List Bool) (slot : ℕ) (sums : List ℕ) (ok : List Bool)
    (held : List ℕ) : Type 0 where
  pub long : length held ≡ 96
  pub stores :
      (j : ℕ) → j < 16 → (vs : List Var) (as' : List ℤ) (x : List ℕ) → Biased vs as' (lane vars j)
      → Ranges vs lows highs → slot ≡ slot_of vs x
      → RunIn vs on ok held j as' (assigned vs as' x (worth (get_or sums j 0)))

-- a block, run from a place
pub record BlockRun (ks values lows highs vars : List ℕ) (on : List Bool) (at : ℕ) (ok : List Bool) (held : List ℕ) :
    Type 0 where
  pub long : length held ≡ 96
  pub runs :
      (j : ℕ) → j < 16 → (vs : List Var) (as' : List ℤ) (ls us : List Lexeme) (b : Block) → Codes vs ls ks values
      → Biased vs as' (lane vars j)
      → Ranges vs lows highs → drop at ls ≡ spell_block b ++ (mark rbrace ∷ us)
      → RunIn vs on ok held j as' (run_block b vs as')

-- a statement, run from a place
pub record StmtRun (ks values lows highs vars : List ℕ) (on : List Bool) (at : ℕ) (ok : List Bool) (held : List ℕ)
    (n : ℕ) : Type 0 where
  pub long : length held ≡ 96
  pub from : at < n
  pub to : n ≤ length ks
  pub runs :
      (j : ℕ) → j < 16 → (vs : List Var) (as' : List ℤ) (ls us : List Lexeme) (s : Stmt) → Codes vs ls ks values
      → Biased vs as' (lane vars j)
      → Ranges vs lows highs → drop at ls ≡ spell_stmt s ++ us → (front_kind us ≡ kind_of (key k_else) → ⊥)
      → RunIn vs on ok held j as' (run_stmt s vs as') × (drop n ls ≡ us)

-- a block in its braces, with what stands behind it
unfoldable pub one_block : Block → List Lexeme → List Lexeme
one_block b us = mark lbrace ∷ (spell_block b ++ (mark rbrace ∷ us))

-- the blocks behind an if's condition, run from the brace that opens the first: one block, or a block, `else` and a
-- block
pub record BranchRun (ks values lows highs vars : List ℕ) (on : List Bool) (open' : ℕ) (holds ok : List Bool)
    (held : List ℕ) (n : ℕ)
    : Type 0 where
  pub long : length held ≡ 96
  pub from : open' ≤ n
  pub to : n ≤ length ks
  pub runs_one :
      (j : ℕ) → j < 16 → (vs : List Var) (as' : List ℤ) (ls us : List Lexeme) (b : Block) → Codes vs ls ks values
      → Biased vs as' (lane vars j)
      → Ranges vs lows highs → drop open' ls ≡ one_block b us → (front_kind us ≡ kind_of (key k_else) → ⊥)
      → RunIn vs on ok held j as' (cond (get_or holds j false) (run_block b vs as') (some as')) × (drop n ls ≡ us)
  pub runs_two :
      (j : ℕ) → j < 16 → (vs : List Var) (as' : List ℤ) (ls us : List Lexeme) (a b : Block) → Codes vs ls ks values
      → Biased vs as' (lane vars j)
      → Ranges vs lows highs → drop open' ls ≡ one_block a (key k_else ∷ one_block b us)
      → RunIn vs on ok held j as' (cond (get_or holds j false) (run_block a vs as') (run_block b vs as')) × (drop n ls ≡ us)
