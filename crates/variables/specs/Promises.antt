-- What the functions inside promise to each other: an integer, a variable, one variable more, the weights, a state's
-- values.
use Rattle.std.specs.Prelude.{◌≡◌, ℕ, suc, ◌+◌, ◌-◌, ◌*◌, ◌/◌, ◌%◌, ◌<◌, ◌≤◌, Bool, true, false, List, ◌++◌, length, drop, ℤ, slice_index, slice_set}
use Rattle.std.proofs.Math.Option.{some}
use Rattle.std.proofs.Math.ListN.{get_elem?}
use Rattle.syntax.specs.Limits.{most_vars}
use Rattle.machine.specs.Limits.{most_states}
use Rattle.syntax.specs.Token.{Lexeme}
use Rattle.syntax.specs.Tree.{Int, Var, spell_int, spell_var}
use Rattle.meaning.specs.Value.{int_of}
use Rattle.meaning.specs.State.{count}
use Rattle.meaning.specs.Held.{Shifted}
use Rattle.meaning.specs.SixteenBits.{wrapped, weight_in}
use Rattle.variables.specs.Bounded.{Numbers}
use Rattle.variables.specs.Places.{negated_long}
use Rattle.variables.specs.declared.Bounds.{Bounds}
use Rattle.variables.specs.declared.Integer.{Integer}
use Rattle.variables.specs.declared.Triple.{Triple}
use Rattle.variables.specs.declared.Digit.{Digit}

-- an integer that is spelled at a token
pub record SpelledInt (ls rest : List Lexeme) (n : Int) (at : ℕ) (r : Integer) : Type 0 where
  pub held : Shifted 65536 (int_of n) r.value
  pub behind : drop r.next ls ≡ rest
  pub place : r.next ≡ at + length (spell_int n)

pub record IntAt (kinds values : List ℕ) (at : ℕ) (r : Integer) : Type 0 where
  pub further : at < r.next
  pub near : r.next ≤ at + negated_long
  pub spelled : (ls rest : List Lexeme) (n : Int) → Numbers ls kinds values → drop at ls ≡ spell_int n ++ rest
      → SpelledInt ls rest n at r

-- the start value and the bounds of a variable
pub record TripleOf (v : Var) (t : Triple) : Type 0 where
  pub start : Shifted 65536 (int_of v.start) t.start
  pub low : Shifted 65536 (int_of v.low) t.low
  pub high : Shifted 65536 (int_of v.high) t.high

pub record SpelledVar (ls rest : List Lexeme) (v : Var) (at : ℕ) (t : Triple) : Type 0 where
  pub held : TripleOf v t
  pub behind : drop t.next ls ≡ rest
  pub place : t.next ≡ at + length (spell_var v)

pub record TripleAt (kinds values : List ℕ) (at : ℕ) (t : Triple) : Type 0 where
  pub further : at < t.next
  pub spelled : (ls rest : List Lexeme) (v : Var) → Numbers ls kinds values → drop at ls ≡ spell_var v ++ rest
      → SpelledVar ls rest v at t

-- bounds and start value are good, and leave at most 4,096 states
pub record Good (states : ℕ) (t : Triple) : Type 0 where
  pub ordered : t.low ≤ t.high
  pub low_bound : 65408 ≤ t.low
  pub high_bound : t.high ≤ 65663
  pub start_above : t.low ≤ t.start
  pub start_below : t.start ≤ t.high
  pub few : states * (t.high - t.low + 1) ≤ most_states

pub record Fitting (states : ℕ) (t : Triple) (r : Bool) : Type 0 where
  pub yes : r ≡ true → Good states t
  pub no : r ≡ false → Good states t → ⊥

-- six slots, of which the first hold a value of each variable and the others hold e
pub record Slots (f : Var → ℤ) (e : ℕ) (vs : List Var) (xs : List ℕ) : Type 0 where
  pub six : length xs ≡ most_vars
  pub held : (k : ℕ) (v : Var) → get_elem? vs k ≡ some v → Shifted 128 (f v) (slice_index xs k)
  pub small : (k : ℕ) → slice_index xs k ≤ 255
  pub unused : (k : ℕ) → k < most_vars → length vs ≤ k → slice_index xs k ≡ e

-- bounds without weights
pub record Loaded (vs : List Var) (b : Bounds) : Type 0 where
  pub counted : b.count ≡ length vs
  pub states : b.states ≡ count vs
  pub lows : Slots (λ v. int_of v.low) 1 vs b.lows
  pub highs : Slots (λ v. int_of v.high) 0 vs b.highs
  pub starts : Slots (λ v. int_of v.start) 128 vs b.starts

-- one variable more, in the next slot
pub record WithVar (b : Bounds) (t : Triple) (r : Bounds) : Type 0 where
  pub few : r.states ≤ most_states
  pub room : r.count ≤ most_vars
  pub lows : b.count < most_vars → r.lows ≡ slice_set b.lows b.count (t.low - 65408)
  pub highs : b.count < most_vars → r.highs ≡ slice_set b.highs b.count (t.high - 65408)
  pub starts : b.count < most_vars → r.starts ≡ slice_set b.starts b.count (t.start - 65408)
  pub counted : b.count < most_vars → r.count ≡ b.count + 1
  pub states : b.count < most_vars → r.states ≡ b.states * (t.high - t.low + 1)

-- how many values a range has; small and above 0 for any range
pub record SizeOf (low high r : ℕ) : Type 0 where
  pub some : 0 < r
  pub most : r ≤ high + 1
  pub is : low ≤ high → high ≤ 255 → r ≡ high - low + 1

-- the ranges of n variables are in order and end at 255 at most
unfoldable pub Ordered : List ℕ → List ℕ → ℕ → Type 0
Ordered lows highs n = (k : ℕ) → k < n → (slice_index lows k ≤ slice_index highs k) × (slice_index highs k ≤ 255)

-- the weights of n variables
pub record Weights (lows highs : List ℕ) (n states : ℕ) (ws : List ℕ) : Type 0 where
  pub weigh : Ordered lows highs n → (k : ℕ) → k < n → slice_index ws k ≡ weight_in lows highs states (suc k)

-- the same bounds, with their weights
pub record Weighed (b r : Bounds) : Type 0 where
  pub lows : r.lows ≡ b.lows
  pub highs : r.highs ≡ b.highs
  pub starts : r.starts ≡ b.starts
  pub counted : r.count ≡ b.count
  pub states : r.states ≡ b.states
  pub weights : Weights b.lows b.highs b.count b.states r.weights

-- a value and the rest of a state's number; a weight of 0, which no variable has, leaves the rest and adds nothing
pub record DigitOf (low weight rest : ℕ) (r : Digit) : Type 0 where
  pub value : r.value ≡ wrapped (low + rest / weight)
  pub left : r.rest ≡ rest % weight
