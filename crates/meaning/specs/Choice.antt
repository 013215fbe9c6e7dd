-- The choice among a file's tries: which sets will do (in the field's words, are inductive beside keep), the largest of
-- them, and what becomes of each try. `Decide/Choice` computes it.
use Rattle.std.specs.Prelude.{ℕ, ◌≤◌, ◌<◌, ◌≡◌, Bool, true, false, ◌⊎◌, ◌↔◌, List, length, leb, ℤ}
use Rattle.std.proofs.Math.Option.{some}
use Rattle.std.proofs.Math.ListN.{get_elem?}
use Rattle.syntax.specs.Tree.{Cond, Region, Monitor, all}
use Rattle.meaning.specs.Value.{truth}
use Rattle.meaning.specs.State.{count, state_at, starts}
use Rattle.meaning.specs.Runs.{State, BlockRuns, IsRegion}

-- a set of tries: whether the try with a number is a member (R 5.8)
abbrev pub TrySet : Type 0
TrySet = ℕ → Bool

module _ (m : Monitor) where
  -- the try with a number, the first 0 (R 5.8)
  unfoldable pub IsTry : ℕ → Cond → Type 0
  IsTry i c = get_elem? m.tries i ≡ some c

  -- every member of a set holds at some values
  unfoldable pub AllHold : TrySet → List ℤ → Type 0
  AllHold X as' = (i : ℕ) (c : Cond) → IsTry i c → X i ≡ true → truth c (all m.vars) as' ≡ true

  -- a "state where keep, the chosen ones and a region's guard hold" (R 5.9)
  pub record Binds (X : TrySet) (r : Region) (as' : List ℤ) : Type 0 where
    pub state : State (all m.vars) as'
    pub keep : truth m.keep (all m.vars) as' ≡ true
    pub tries : AllHold X as'
    pub guard : truth r.guard (all m.vars) as' ≡ true

  -- the set will do: "each holds at the start values, and from each state where keep, the chosen ones and a region's
  -- guard hold, and whose body stays in range, the chosen ones hold after it"; a body that lacks a value does not run
  -- (R 5.9, 5.10)
  pub record WillDo (X : TrySet) : Type 0 where
    pub at_start : AllHold X (starts (all m.vars))
    pub after :
        (k : ℕ) (r : Region) (as' bs : List ℤ) → IsRegion m k r → Binds X r as'
        → BlockRuns (all m.vars) r.body as' bs → AllHold X bs

  -- every try of one set is in another
  unfoldable pub Within : TrySet → TrySet → Type 0
  Within X Y = (i : ℕ) → i < length m.tries → X i ≡ true → Y i ≡ true

  -- "Of these the largest set": every set that will do is within it (R 5.11)
  pub record Largest (X : TrySet) : Type 0 where
    pub of_these : (i : ℕ) → X i ≡ true → i < length m.tries
    pub will_do : WillDo X
    pub largest : (Y : TrySet) → WillDo Y → Within Y X

-- What becomes of a try: it is chosen, or false at the start values, or broken in a pass, by a region's body from a state
-- (R 5.15)
pub data Fate : Type 0 where
  chosen false_at_start : Fate
  broken : ℕ → ℕ → ℕ → Fate

unfoldable pub is_chosen : Fate → Bool
is_chosen chosen = true
is_chosen false_at_start = false
is_chosen (broken p k n) = false

-- it is dropped no earlier than in pass p (R 5.16)
unfoldable pub lasts : ℕ → Fate → Bool
lasts p chosen = true
lasts p false_at_start = false
lasts p (broken q k n) = leb p q

-- while a set of tries stands, the body of region k breaks a try from state n: keep, the set and the guard hold there,
-- the body ends without a fault, and the try is false behind it (R 5.16)
pub record Breaks (m : Monitor) (X : TrySet) (c : Cond) (k n : ℕ) : Type 0 where
  pub region : Region
  pub numbered : IsRegion m k region
  pub below : n < count (all m.vars)
  pub binds : Binds m X region (state_at (all m.vars) n)
  pub values : List ℤ
  pub runs : BlockRuns (all m.vars) region.body (state_at (all m.vars) n) values
  pub false_after : truth c (all m.vars) values ≡ false

module _ (m : Monitor) (fates : ℕ → Fate) where
  -- the tries dropped no earlier than in a pass
  unfoldable pub standing : ℕ → TrySet
  standing p i = lasts p (fates i)

  -- the first pass that breaks a try, and in it the lowest region and then the lowest state (R 5.17)
  pub record BrokenIn (c : Cond) (p k n : ℕ) : Type 0 where
    pub breaks : Breaks m (standing p) c k n
    pub lower : (j s : ℕ) → (j < k) ⊎ ((j ≡ k) × (s < n)) → Breaks m (standing p) c j s → ⊥
    pub earlier : (q j s : ℕ) → 1 ≤ q → q < p → Breaks m (standing q) c j s → ⊥

  -- the fates of all tries (R 5.15)
  pub record AreFates : Type 0 where
    pub chosen_ones : Largest m (λ i. is_chosen (fates i))
    pub false_ones : (i : ℕ) (c : Cond) → IsTry m i c
        → (fates i ≡ false_at_start) ↔ (truth c (all m.vars) (starts (all m.vars)) ≡ false)
    pub broken_ones : (i : ℕ) (c : Cond) (p k n : ℕ) → IsTry m i c → fates i ≡ broken p k n → BrokenIn c p k n
