-- How the variables of a file and the values of a state are held as numbers: each value with 128 added.
use Rattle.std.specs.Prelude.{◌≡◌, ℕ, suc, ◌+◌, ◌<◌, ◌≤◌, List, ◌∷◌, map, length, take, drop, ℤ, ◌≢◌, slice_index, Result, Ok, Err}
use Rattle.std.proofs.Math.Option.{some}
use Rattle.std.proofs.Math.ListN.{get_elem?}
use Rattle.syntax.specs.Limits.{most_vars}
use Rattle.machine.specs.Limits.{most_states}
use Rattle.syntax.specs.Token.{Lexeme, number, key, k_var}
use Rattle.syntax.specs.Held.Kind.{kind_of}
use Rattle.syntax.specs.Tree.{Var, each, spell_var}
use Rattle.meaning.specs.Held.{Biased, Ranges}
use Rattle.meaning.specs.State.{count, state_at, number_of, starts}
use Rattle.meaning.specs.Runs.{State}
use Rattle.meaning.specs.SixteenBits.{wrapped, number_in, value_in}
use Rattle.meaning.specs.Accepted.{GoodRanges}
use Rattle.meaning.specs.Refusal.{FirstIllRanged}
use Rattle.variables.specs.declared.Bounds.{Bounds}
use Rattle.variables.specs.declared.Declared.{Declared}
use Rattle.variables.specs.declared.BadRange.{BadRange}

-- kinds, and each number's value at its place
pub record Numbers (ls : List Lexeme) (kinds values : List ℕ) : Type 0 where
  pub by_kind : map kind_of ls ≡ kinds
  pub as_long : length values ≡ length kinds
  pub by_number : (i n : ℕ) → get_elem? ls i ≡ some (number n) → slice_index values i ≡ n
  pub numbers_small : (i n : ℕ) → get_elem? ls i ≡ some (number n) → n < 1000

pub record Bounded (vs : List Var) (b : Bounds) : Type 0 where
  pub few_vars : length vs ≤ most_vars
  pub good : GoodRanges vs
  pub few_states : count vs ≤ most_states
  pub counted : b.count ≡ length vs
  pub states : b.states ≡ count vs
  pub ranges : Ranges vs b.lows b.highs
  pub start_values : Biased vs (starts vs) b.starts
  pub weigh : (k : ℕ) → k < length vs → slice_index b.weights k ≡ count (drop (suc k) vs)

-- a state's number: worked out in sixteen bits from what is held, and of a state's values document 01's number
pub record NumberOf (b : Bounds) (values : List ℕ) (r : ℕ) : Type 0 where
  pub worked_out : b.count ≤ most_vars → r ≡ number_in wrapped b.lows b.weights values b.count
  pub is : (vs : List Var) (as' : List ℤ) → Bounded vs b → Biased vs as' values → State vs as' → r ≡ number_of vs as'

-- and the values of the state with a number
pub record ValuesOf (b : Bounds) (state : ℕ) (r : List ℕ) : Type 0 where
  pub worked_out : b.count ≤ most_vars → (k : ℕ) → k < b.count
      → slice_index r k ≡ value_in wrapped b.lows b.weights state k
  pub are : (vs : List Var) → Bounded vs b → state < count vs → Biased vs (state_at vs state) r

-- what stands behind the variables is no `var`
unfoldable pub EndsVars : List Lexeme → Type 0
EndsVars us = (l : Lexeme) × (rest : List Lexeme) × (us ≡ l ∷ rest) × (l ≢ key k_var)

-- good variables and the token behind them, or the token of the first bad one
unfoldable pub Ranged : List Var → List Lexeme → List Lexeme → ℕ → Result Declared BadRange → Type 0
Ranged vs ls us at (Ok d) = Bounded vs d.bounds × (drop d.next ls ≡ us)
Ranged vs ls us at (Err e) = (i : ℕ) × FirstIllRanged vs i × (e.token ≡ at + length (each spell_var (take i vs)))
