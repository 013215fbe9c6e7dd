-- The choice among a file's tries, computed: from those that hold at the start values each pass drops what some body
-- breaks, until nothing is dropped. `proofs/Choosing` shows that what is left is the largest set that will do.
use Rattle.std.specs.Prelude.{ℕ, zero, suc, ◌+◌, Bool, true, false, not, ◌&&◌, List, length, get_or, ℤ}
use Rattle.std.proofs.Math.Option.{Option, none, some}
use Rattle.syntax.specs.Limits.{most_tries}
use Rattle.syntax.specs.Tree.{Cond, only, just, constant, Region, Var, Monitor, all}
use Rattle.logic.specs.Tests.{any}
use Rattle.meaning.specs.Value.{truth}
use Rattle.meaning.specs.State.{starts}
use Rattle.meaning.specs.Runs.{regions_of}
use Rattle.meaning.specs.Bits.{each_from, bits}
use Rattle.meaning.specs.Choice.{Fate, chosen, false_at_start, broken}
use Rattle.meaning.specs.Decide.Bodies.{outcome}
use Rattle.meaning.specs.Decide.First.{first_where}

-- what stands for a try that the file lacks
unfoldable pub no_try : Cond
no_try = only (just (constant true))

-- a body ends, without a fault, with a condition false; one that faults binds nothing (R 5.10)
unfoldable pub ends_false : List Var → Cond → Option (List ℤ) → Bool
ends_false vs c none = false
ends_false vs c (some bs) = not (truth c vs bs)

unfoldable pub is_none : Option (ℕ × ℕ) → Bool
is_none none = true
is_none (some rn) = false

-- a set of tries is held as a list, a Boolean for each try of the file in order
unfoldable pub in_set : List Bool → ℕ → Bool
in_set xs i = get_or xs i false

module _ (m : Monitor) where
  unfoldable pub try_at : ℕ → Cond
  try_at i = get_or m.tries i no_try

  -- what a test says of each try, in order
  unfoldable pub each_try : (ℕ → Bool) → List Bool
  each_try f = each_from (length m.tries) 0 f

  -- no member of a set is false at some values
  unfoldable pub all_hold : List Bool → List ℤ → Bool
  all_hold xs as' = not (any (length m.tries) (λ i. in_set xs i && not (truth (try_at i) (all m.vars) as')))

  unfoldable pub binds : List Bool → Region → List ℤ → Bool
  binds xs r as' =
      truth m.keep (all m.vars) as' && all_hold xs as' && truth r.guard (all m.vars) as'

  -- while a set of tries stands, a body ends with a try false (R 5.16)
  unfoldable pub breaks_try : List Bool → Cond → Region → List ℤ → Bool
  breaks_try xs c r as' = binds xs r as' && ends_false (all m.vars) c (outcome r (all m.vars) as')

  -- the lowest region and then the lowest state that break it (R 5.17)
  unfoldable pub first_break : List Bool → Cond → Option (ℕ × ℕ)
  first_break xs c = first_where (all m.vars) (breaks_try xs c) 0 (regions_of (all m.methods))

  -- one pass: those of a set that no body breaks while all of it stands (R 5.12)
  unfoldable pub pass : List Bool → List Bool
  pass xs = each_try (λ i. in_set xs i && is_none (first_break xs (try_at i)))

  unfoldable pub passes : ℕ → List Bool → List Bool
  passes zero xs = xs
  passes (suc n) xs = passes n (pass xs)

  unfoldable pub true_at_start : List Bool
  true_at_start = each_try (λ i. truth (try_at i) (all m.vars) (starts (all m.vars)))

  -- as many passes as there are tries suffice: each drops one, or no later one drops any (R 5.12)
  unfoldable pub chosen_tries : List Bool
  chosen_tries = passes (length m.tries) true_at_start

  -- "reported as sixteen bits, the first `try` lowest" (R 5.14)
  unfoldable pub chosen_bits : ℕ
  chosen_bits = bits (each_from most_tries 0 (in_set chosen_tries))

  -- what becomes of a try, from pass p on (R 5.15)
  unfoldable pub fate_from : ℕ → ℕ → List Bool → ℕ → Fate
  fate_from zero p xs i = chosen
  fate_from (suc n) p xs i =
      elim (first_break xs (try_at i)) [ some rn ↦ broken p rn.0 rn.1 | none ↦ fate_from n (p + 1) (pass xs) i ]

  unfoldable pub fate_of : ℕ → Fate
  fate_of i =
      elim (in_set true_at_start i) [ true ↦ fate_from (length m.tries) 1 true_at_start i | false ↦ false_at_start ]
