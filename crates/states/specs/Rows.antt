-- What the slices hold once the states have been gone through.
use Rattle.std.specs.Prelude.{ℕ, ◌+◌, ◌*◌, ◌<◌, ◌≡◌, Bool, true, List, ◌∷◌, ◌++◌, length, get_or, drop, ℤ}
use Rattle.std.proofs.Math.Option.{Option, none, some}
use Rattle.machine.specs.Limits.{most_states}
use Rattle.sets.specs.Set.{member}
use Rattle.syntax.specs.Token.{Lexeme, mark, rbrace}
use Rattle.syntax.specs.Tree.{Var, Cond, Monitor, spell_cond, spell_block}
use Rattle.logic.specs.Tests.{bit}
use Rattle.machine.specs.Decide.Table.{runs}
use Rattle.meaning.specs.Value.{truth}
use Rattle.meaning.specs.Decide.Bodies.{outcome}
use Rattle.meaning.specs.State.{count, state_at, number_of}
use Rattle.meaning.specs.Model.{vars, regions, guards, region, guard_of, no_guard, kept, holds, after, model}
use Rattle.evaluator.specs.Coding.{EndsCond}

-- the truth at every state of a test of its values
unfoldable pub TruthRow : List Var → (List ℤ → Bool) → List ℕ → Type 0
TruthRow vs p row = (s : ℕ) → s < count vs → get_or row s 0 ≡ bit (p (state_at vs s))

-- at every state those of some conditions that hold, as a set
unfoldable pub TruthSets : List Var → List Cond → List ℕ → Type 0
TruthSets vs cs rows =
    (g s : ℕ) → g < length cs → s < count vs → member (get_or rows s 0) g ≡ truth (get_or cs g no_guard) vs (state_at vs s)

-- each of some conditions, and each region's body, begins at these tokens
unfoldable pub ConditionsAt : List Cond → List Lexeme → List ℕ → Type 0
ConditionsAt cs ls ats =
    (g : ℕ) → g < length cs
    → (us : List Lexeme) × (drop (get_or ats g 0) ls ≡ spell_cond (get_or cs g no_guard) ++ us) × EndsCond us

unfoldable pub BodiesAt : Monitor → List Lexeme → List ℕ → Type 0
BodiesAt m ls ats =
    (r : ℕ) → r < length (regions m)
    → (us : List Lexeme) × (drop (get_or ats r 0) ls ≡ spell_block (region m r).body ++ (mark rbrace ∷ us))

unfoldable pub GuardNumbers : Monitor → List ℕ → Type 0
GuardNumbers m ns = (r : ℕ) → r < length (regions m) → get_or ns r 0 ≡ guard_of m r

-- the truth of the kept condition at every state, and the guards that hold there as a set
unfoldable pub KeptAll : Monitor → List ℕ → Type 0
KeptAll m row = (s : ℕ) → s < count (vars m) → get_or row s 0 ≡ bit (kept m s)

unfoldable pub HoldsAll : Monitor → List ℕ → Type 0
HoldsAll m rows = (g s : ℕ) → g < length (guards m) → s < count (vars m) → member (get_or rows s 0) g ≡ holds m g s

-- the state after every region's body, where it may run
unfoldable pub AfterAll : Monitor → List ℕ → Type 0
AfterAll m rows =
    (r s : ℕ) → r < length (regions m) → runs (model m) r s ≡ true → get_or rows (r * most_states + s) 0 ≡ after m r s

-- The outcome of a body as a number: that of the state after it, or the mark of a fault, which is no state's

abbrev pub fault_mark : ℕ
fault_mark = 4096

unfoldable pub outcome_number : List Var → Option (List ℤ) → ℕ
outcome_number vs none = fault_mark
outcome_number vs (some as') = number_of vs as'

-- the outcome of every region's body from every state, whether it may run there or not: that of region r from state s
-- at r * most_states + s
unfoldable pub Outcomes : Monitor → List ℕ → Type 0
Outcomes m rows =
    (r s : ℕ) → r < length (regions m) → s < count (vars m)
    → get_or rows (r * most_states + s) 0 ≡ outcome_number (vars m) (outcome (region m r) (vars m) (state_at (vars m) s))
