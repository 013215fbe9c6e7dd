-- How things are held: a Boolean as a number, a set with one member more; and that a body's outcome is a state.
use Prim.Native.Nat.{ℕ, ◌<◌}
use native.Mathlib.Omega.{arith}
use mathlib.Core.Path.{◌≡◌, refl}
use mathlib.Core.Bool.{Bool, true, false, ◌&&◌, ◌||◌}
use mathlib.Core.List.{List}
use mathlib.Core.Option.{some}
use lib.Dec.{eqb, ltb}
use lib.IntN.{ℤ}
use borrow.Author.Tests.{eq-eqb, ne_eqb, lt-ltb}
use Rattle.sets.specs.Set.{member}
use Rattle.syntax.specs.Tree.{Var, Region}
use Rattle.logic.specs.Tests.{bit}
use Rattle.meaning.specs.Decide.Bodies.{outcome}
use Rattle.meaning.specs.State.{count, state_at}
use Rattle.meaning.specs.Accepted.{GoodRanges}
use Rattle.meaning.specs.Runs.{State}
use Rattle.meaning.proofs.StateLaws.{state_at_lem}
use Rattle.meaning.proofs.BodyLaws.{runs_of_outcome, block_runs_state}

pub bit_true : {b : Bool} → b ≡ true → bit b ≡ 1
unfolding bit
bit_true e = rw e

pub bit_false : {b : Bool} → b ≡ false → bit b ≡ 0
unfolding bit
bit_false e = rw e

pub bit_one : (b : Bool) → bit b ≡ 1 → b ≡ true
unfolding bit
bit_one true e = refl
bit_one false e = absurd (omega arith)

-- a set with one thread more
module _ (r set g : ℕ) (e : (u : ℕ) → member r u ≡ (eqb u g && ltb g 16) || member set u) where
  pub with_here : g < 16 → member r g ≡ true
  with_here low = rw (e g, eq-eqb g g refl, lt-ltb g 16 low)

  pub with_other : (u : ℕ) → (u ≡ g → ⊥) → member r u ≡ member set u
  with_other u n = rw (e u, ne_eqb u g n)

-- a body's outcome from a state is a state, where it is none of a fault
pub outcome_state : {vs : List Var} → GoodRanges vs → (q : Region) (s : ℕ) → s < count vs → (bs : List ℤ)
    → outcome q vs (state_at vs s) ≡ some bs → State vs bs
outcome_state {vs} good q s low bs e = block_runs_state (runs_of_outcome q (state_at vs s) e) (state_at_lem good s low)
