-- Demand 2: a file is accepted exactly when it is within the grammar and limits, its kept condition holds at the start,
-- and every region keeps it and every range; the table has the entries of Algorithm 1, no more, no fewer; each machine
-- accepts exactly the traces that its step rules allow. Beside these stand what the numbers of states and guards are, what
-- remainders are and where they lack a value, and which entries the text rules out. The claim is `Demand2`.
use Rattle.machine.specs.Monitor as machine
use Rattle.std.specs.Prelude.{ℕ, suc, ◌^◌, ◌≤◌, ◌<◌, ◌≡◌, Bool, true, false, ◌⊎◌, ◌↔◌, length, get_or, drop, ℤ, pos}
use mathlib.Core.List.{List, [], Memᴰ}
use Rattle.std.proofs.Math.Option.{none, some}
use Rattle.syntax.specs.Tree.{Atom, remainder, Cond, Monitor, Region, Var, spell_cond}
use Rattle.machine.specs.Monitor.{Frame, Point, Config, stopped, with_state, all_idle}
use Rattle.machine.specs.Limits.{most_states, most_lines}
use Rattle.syntax.specs.Limits.{most_tries}
use Rattle.sets.specs.Set.{member}
use Rattle.machine.specs.Algorithm1.{Holds, Fails, Triple, Stands, Signals}
use Rattle.machine.specs.Rules.{Rules, Stops, Semantics, NoticesOver, PlainNoticesBy, TableNoticesBy, RulesBy, StopsBy}
use Rattle.meaning.specs.Value.{less, atom_value, IsRemainder, modulo, term_value, cond_value, truth}
use Rattle.meaning.specs.State.{count, state_at, number_of, Earlier, lowest}
use Rattle.meaning.specs.Held.{Offset, Biased, Ranges}
use Rattle.meaning.specs.SixteenBits.{wrapped, unlimited, count_in, weight_in, share, number_in, value_in}
use Rattle.meaning.specs.Answer.{Answer, accepted, refused}
use Rattle.meaning.specs.Decide.Check.{check}
use Rattle.meaning.specs.Kept.{kept_at}
use Rattle.meaning.specs.Choice.{TrySet, IsTry, AllHold, Largest, AreFates}
use Rattle.meaning.specs.Decide.Choice.{in_set, chosen_tries, chosen_bits, fate_of}
use Rattle.meaning.specs.Model.{vars, model, no_guard, regions, guards, region, guard_of}
use Rattle.meaning.specs.Decide.Table.{table_of}
use Rattle.meaning.specs.Calls.{notices_of, Machine, plain_machine, table_machine, Startable}
use Rattle.meaning.specs.Decide.Calls.{run_list}
use Rattle.meaning.specs.Valued.{Missing}
use Rattle.meaning.specs.Accepted.{Accepted, GoodRanges, NoneLacks, Meets, Keeps}
use Rattle.meaning.specs.Faults.{BlockFaults}
use Rattle.meaning.specs.Runs.{BlockRuns, State, IsRegion}
use Rattle.meaning.specs.Touch.{Touched, Pairs}
use Rattle.meaning.specs.Decide.Touch.{pairs_of}
use Rattle.meaning.specs.Table.{Row, row_lines, Increasing, Small}
use Rattle.meaning.specs.Refusal.{Refusal}

-- The numbers of states and of guards

-- the states' are those below the count, each of one state (R 3.17), and rise with the values (R 3.20): "the first
-- variable weighing most"
pub record StatesNumbered (vs : List Var) : Type 0 where
  pub below : (as' : List ℤ) → State vs as' → number_of vs as' < count vs
  pub state : (n : ℕ) → n < count vs → State vs (state_at vs n)
  pub number_back : (n : ℕ) → n < count vs → number_of vs (state_at vs n) ≡ n
  pub state_back : (as' : List ℤ) → State vs as' → state_at vs (number_of vs as') ≡ as'
  pub rising : (as' bs : List ℤ) → State vs as' → State vs bs → Earlier as' bs ↔ (number_of vs as' < number_of vs bs)

-- how a state's is held, worked out from its values with 128 added (R 3.21)
pub record NumberHeld (vs : List Var) (lows weights : List ℕ) (as' : List ℤ) (values : List ℕ) : Type 0 where
  -- "for every accepted file and every state it is still document 01's number"
  pub number : number_in wrapped lows weights values (length vs) ≡ number_of vs as'
  -- "State numbers stay below 4,096"
  pub below : number_in wrapped lows weights values (length vs) < most_states
  -- each product and each sum on the way is what it would be without the limit
  pub products : (k : ℕ) → k < length vs
      → share wrapped (get_or values k 0) (get_or lows k 0) (get_or weights k 0)
      ≡ share unlimited (get_or values k 0) (get_or lows k 0) (get_or weights k 0)
  pub sums : (k : ℕ) → k ≤ length vs → number_in wrapped lows weights values k ≡ number_in unlimited lows weights values k

-- of all states, by the bounds and the weights that are held of the variables
pub record StatesHeld (vs : List Var) (lows highs weights : List ℕ) : Type 0 where
  -- the count of states, with each product on the way
  pub counted : count_in wrapped lows highs (length vs) ≡ count vs
  pub products : (k : ℕ) → k ≤ length vs → count_in wrapped lows highs k ≡ count_in unlimited lows highs k
  pub weight : (k : ℕ) → k < length vs → get_or weights k 0 ≡ count (drop (suc k) vs)
  pub held : (as' : List ℤ) (values : List ℕ) → State vs as' → Biased vs as' values
      → NumberHeld vs lows weights as' values
  -- (R 3.20)
  pub rising : (as' bs : List ℤ) (xs ys : List ℕ) → State vs as' → State vs bs → Biased vs as' xs → Biased vs bs ys
      → Earlier as' bs ↔ (number_in wrapped lows weights xs (length vs) < number_in wrapped lows weights ys (length vs))
  -- back from a number (R 3.18), with each sum
  pub value : (n k : ℕ) → n < count vs → k < length vs
      → Offset (get_or (state_at vs n) k (pos 0)) (value_in wrapped lows weights n k)
  pub value_sums : (n k : ℕ) → n < count vs → k < length vs
      → value_in wrapped lows weights n k ≡ value_in unlimited lows weights n k

-- the guards' are those below the count, each of some region's guard, for which it stands (R 3.9)
pub record GuardsNumbered (m : Monitor) : Type 0 where
  pub below : (r : ℕ) → r < length (regions m) → guard_of m r < length (guards m)
  pub each : (g : ℕ) → g < length (guards m) → (r : ℕ) × (r < length (regions m)) × (guard_of m r ≡ g)
  pub stands_for : (r : ℕ) → r < length (regions m) → get_or (guards m) (guard_of m r) no_guard ≡ (region m r).guard
  -- "Two guards (a region's condition) are one when their tokens are equal, numbers by value" (R 3.5, 3.6)
  pub one : (r q : ℕ) → r < length (regions m) → q < length (regions m)
      → (guard_of m r ≡ guard_of m q) ↔ (spell_cond (region m r).guard ≡ spell_cond (region m q).guard)
  -- "numbered from 0 by first appearance": an earlier region has each lower number (R 3.9)
  pub first : (r g : ℕ) → r < length (regions m) → g < guard_of m r → (q : ℕ) × (q < r) × (guard_of m q ≡ g)

-- Remainders

-- what `mod` gives: the value in words, which is the only one, and none exactly with a divisor below 1 (R 4.21, 4.22)
pub record Remainders : Type 0 where
  pub value : (a b r : ℤ) → (modulo a b ≡ some r) ↔ IsRemainder a b r
  pub only : (a b r s : ℤ) → IsRemainder a b r → IsRemainder a b s → r ≡ s
  pub missing : (a b : ℤ) → (modulo a b ≡ none) ↔ (less b (pos 1) ≡ true)

-- behind 15: keep, the tries and the guards have a value at every state, so that their truth is it (R 4.26)
pub record HaveValues (m : Monitor) : Type 0 where
  pub keep : (as' : List ℤ) → State (vars m) as' → cond_value m.keep (vars m) as' ≡ some (truth m.keep (vars m) as')
  pub tries : (i : ℕ) (c : Cond) → IsTry m i c → (as' : List ℤ) → State (vars m) as'
      → cond_value c (vars m) as' ≡ some (truth c (vars m) as')
  pub guards : (k : ℕ) (r : Region) → IsRegion m k r → (as' : List ℤ) → State (vars m) as'
      → cond_value r.guard (vars m) as' ≡ some (truth r.guard (vars m) as')

-- The kept condition

-- of the tries of a file: the chosen ones are the largest set that will do, and what becomes of each (R 5.11, 5.15)
pub record Choice (m : Monitor) : Type 0 where
  pub largest : Largest m (in_set (chosen_tries m))
  pub only : (X : TrySet) → Largest m X → (i : ℕ) → X i ≡ in_set (chosen_tries m) i
  pub fates : AreFates m (fate_of m)
  -- "reported as sixteen bits, the first `try` lowest" (R 5.14)
  pub bits : (i : ℕ) → i < most_tries → member (chosen_bits m) i ≡ in_set (chosen_tries m) i
  pub small : chosen_bits m < 2 ^ most_tries
  -- "the kept condition is keep and the chosen ones together" (R 5.1)
  pub kept : (as' : List ℤ) → (kept_at m as' ≡ true)
      ↔ ((truth m.keep (vars m) as' ≡ true) × AllHold m (in_set (chosen_tries m)) as')

-- of a file without tries: all is as keep alone has it (R 5.13)
pub record NoTries (m : Monitor) : Type 0 where
  pub kept : (as' : List ℤ) → kept_at m as' ≡ truth m.keep (vars m) as'
  pub bits : chosen_bits m ≡ 0

-- The table

-- a line as Algorithm 1 has it, over the states that meet the kept condition (R 7.7)
pub record IsEntry (m : machine.Monitor) (w : Row) : Type 0 where
  pub region : w.region < m.regions
  pub guard : w.guard < m.guards
  -- "from some state with the region's guard true and the other guard false, the body makes the other guard true"
  -- (R 7.3)
  pub stands : Stands m w.region w.guard
  -- "unconditional when the body makes it true from every such state" (R 7.4)
  pub unconditional : (w.unconditional ≡ true) ↔ Triple m w.region (Fails m w.guard) (Holds m w.guard)
  -- "a signal when every region having that guard leaves it false from every state where it was true" (R 7.5)
  pub signal : (w.broadcast ≡ false) ↔ Signals m w.guard

-- (R 12.5)
pub record IsTable (m : machine.Monitor) (rows : List Row) : Type 0 where
  -- (R 7.12)
  pub lines : table_of m ≡ row_lines rows
  -- no more, no fewer (R 12.5)
  pub exactly : (w : Row) → Memᴰ w rows ↔ IsEntry m w
  -- "For each region and each guard, in that order" (R 7.9)
  pub order : Increasing rows
  -- (R 7.8)
  pub few : length rows ≤ most_lines
  -- the bytes tell the rows (R 12.5)
  pub only : (ws : List Row) → ((w : Row) → Memᴰ w ws → Small w) → table_of m ≡ row_lines ws → ws ≡ rows

-- The machines

-- what the rules take (R 12.6), and what none takes (R 12.7)
pub record FollowsRules (m : Monitor) (w : Machine) : Type 0 where
  pub accepts :
      (s : ℕ) (fs : List Frame) (c : Config) → (run_list m w s fs ≡ machine.accepted c) ↔ Rules (model m) (notices_of m w)
      (all_idle s) fs c
  pub stops :
      (s : ℕ) (fs : List Frame) (a k : ℕ) → (run_list m w s fs ≡ stopped a k) ↔ Stops (model m) (notices_of m w) 0
      (all_idle s) fs a k

-- The table in the file's own words: over each variable's values and over runs of bodies, freed from the numbers of
-- states

-- the body of a region leads from values to values; the first are a state and meet kept condition and guard (R 7.2)
pub record Moves (m : Monitor) (r : Region) (as' bs : List ℤ) : Type 0 where
  pub meets : Meets m r as'
  pub runs : BlockRuns (vars m) r.body as' bs

module _ (m : Monitor) where
  -- the truth of the guard with a number (R 4.9)
  unfoldable pub truth_of : ℕ → List ℤ → Bool
  truth_of g as' = truth (get_or (guards m) g no_guard) (vars m) as'

  -- from every such state where guard g is p, the body of region r makes it q (R 7.4, 7.5)
  unfoldable pub Makes : ℕ → ℕ → Bool → Bool → Type 0
  Makes r g p q = (as' bs : List ℤ) → Moves m (region m r) as' bs → truth_of g as' ≡ p → truth_of g bs ≡ q

  -- a line of the table ("The table")
  pub record ByValues (w : Row) : Type 0 where
    pub has_region : w.region < length (regions m)
    pub has_guard : w.guard < length (guards m)
    -- "from some state with the region's guard true and the other guard false, the body makes the other guard true"
    -- (R 7.3)
    pub stands :
        (as' bs : List ℤ) × Moves m (region m w.region) as' bs × (truth_of w.guard as' ≡ false)
        × (truth_of w.guard bs ≡ true)
    -- "unconditional when the body makes it true from every such state" (R 7.4)
    pub unconditional : (w.unconditional ≡ true) ↔ Makes w.region w.guard false true
    -- "a signal when every region having that guard leaves it false from every state where it was true" (R 7.5)
    pub signal :
        (w.broadcast ≡ false) ↔ ((r : ℕ) → r < length (regions m) → guard_of m r ≡ w.guard
        → Makes r w.guard true false)

-- a region and a guard that are not touched (R 7.21): from every state, kept or not, the body leaves the guard as it
-- was, and there is no entry
pub record Untouched (m : Monitor) (r g : ℕ) : Type 0 where
  pub as_it_was : (as' bs : List ℤ) → BlockRuns (vars m) (region m r).body as' bs → truth_of m g bs ≡ truth_of m g as'
  pub no_entry : (w : Row) → w.region ≡ r → w.guard ≡ g → IsEntry (model m) w → ⊥

-- The machines in the file's own words: the rules over each variable's values and over runs of bodies

module _ (m : Monitor) where
  -- a guard is asked of the values, and a body leads where it runs to; one that faults runs to no values, so it is no
  -- step (R 9.35, 9.36)
  abbrev pub valued : Semantics (List ℤ)
  valued = record { holds = truth_of m; runs = λ r as' bs. BlockRuns (vars m) (region m r).body as' bs }

  -- whom a body notifies, by the source's Figures 4 and 6 (R 9.24, 9.25)
  unfoldable pub notices_by_values : Machine → NoticesOver (List ℤ)
  notices_by_values plain_machine = PlainNoticesBy (model m) valued
  notices_by_values table_machine =
      TableNoticesBy (model m) valued
      (λ r g a b. ByValues m (record { region = r; guard = g; unconditional = a; broadcast = b }))

  -- from state s: the rules lead to the machine's point, with the values of its state (R 3.18, 12.6), and stop where it
  -- stops (R 12.7)
  pub record FollowsByValues (w : Machine) (s : ℕ) : Type 0 where
    pub accepts :
        (fs : List Frame) (d : Point (List ℤ))
        → ((c : Config) × (run_list m w s fs ≡ machine.accepted c)
        × (d ≡ with_state (state_at (vars m) c.state) c))
        ↔ RulesBy (model m) valued (notices_by_values w) (all_idle (state_at (vars m) s)) fs d
    pub stops :
        (fs : List Frame) (a k : ℕ) → (run_list m w s fs ≡ stopped a k)
        ↔ StopsBy (model m) valued (notices_by_values w) 0 (all_idle (state_at (vars m) s)) fs a k

pub record Demand2 : Type 0 where
  -- (R 12.4)
  pub accepts : (file : List ℕ) (m : Monitor) → (check file ≡ accepted m) ↔ Accepted file m
  pub refuses : (file : List ℕ) (a : Answer) → (check file ≡ refused a) ↔ Refusal file a
  -- (R 12.20)
  pub remainders : Remainders
  -- "Both sides of `&&` and `||` are always evaluated": a condition has no value exactly where a remainder in it has none
  -- (R 4.23, 4.24)
  pub both_sides : (c : Cond) (vs : List Var) (as' : List ℤ) → (cond_value c vs as' ≡ none) ↔ Missing c vs as'
  pub have_values : (m : Monitor) → NoneLacks m → HaveValues m
  -- "in some state of the ranges" is where the divisor, a number or the lowest value of a variable, is below 1 (R 6.37)
  pub divisors :
      (m : Monitor) → GoodRanges (vars m) → (a b : Atom)
      → ((as' : List ℤ) × State (vars m) as' × (term_value (vars m) as' (remainder a b) ≡ none))
      ↔ (less (atom_value (vars m) (lowest (vars m)) b) (pos 1) ≡ true)
  -- 9 in positive words: a body does not keep exactly where it faults or ends with the kept condition false (R 6.33)
  pub faults :
      (m : Monitor) (r : Region) (as' : List ℤ) → State (vars m) as'
      → (Keeps m r as' → ⊥)
      ↔ (BlockFaults (vars m) r.body as'
      ⊎ ((bs : List ℤ) × BlockRuns (vars m) r.body as' bs × (kept_at m bs ≡ false)))
  -- for every tree with good ranges, so for every file that 1 to 7 pass (R 12.16)
  pub choice : (m : Monitor) → GoodRanges (vars m) → Choice m
  pub no_tries : (m : Monitor) → m.tries ≡ [] → NoTries m
  -- (R 12.15)
  pub state_numbers : (file : List ℕ) (m : Monitor) → check file ≡ accepted m → StatesNumbered (vars m)
  -- (R 12.18)
  pub numbers_held :
      (file : List ℕ) (m : Monitor) → check file ≡ accepted m → (lows highs weights : List ℕ)
      → Ranges (vars m) lows highs
      → ((k : ℕ) → k < length (vars m)
      → get_or weights k 0 ≡ weight_in lows highs (count_in wrapped lows highs (length (vars m))) (suc k))
      → StatesHeld (vars m) lows highs weights
  -- for every tree, also one that is not accepted (R 12.15)
  pub guard_numbers : (m : Monitor) → GuardsNumbered m
  -- (R 12.5)
  pub table : (file : List ℕ) (m : Monitor) → check file ≡ accepted m → (rows : List Row) × IsTable (model m) rows
  -- the same over values (R 7.3, 7.4, 7.5)
  pub entries : (file : List ℕ) (m : Monitor) → check file ≡ accepted m → (w : Row) → IsEntry (model m) w ↔ ByValues m w
  -- for every tree with good ranges, so for every file that 1 to 7 pass (R 12.17)
  pub untouched : (m : Monitor) → GoodRanges (vars m) → (r g : ℕ) → (Touched m r g → ⊥) → Untouched m r g
  -- for every tree (R 12.17)
  pub pairs : (m : Monitor) → Pairs m (pairs_of m)
  -- for every tree, also one that is not accepted (R 12.6, 12.7)
  pub machines : (m : Monitor) (w : Machine) → FollowsRules m w
  -- the same over values, from every state that counts (R 8.12, 9.35, 9.36)
  pub machines_by_values :
      (file : List ℕ) (m : Monitor) → check file ≡ accepted m → (w : Machine) (s : ℕ) → Startable m s
      → FollowsByValues m w s
