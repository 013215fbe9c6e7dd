-- Laws of all regions: where a test and a region's guard hold, as the slices say, and a region's row of a slice.
use Prim.Native.Nat.{ℕ, ◌+◌, ◌*◌, ◌<◌}
use native.Mathlib.Omega.{arith}
use mathlib.Core.Path.{◌≡◌, sym, ap, ◌∙◌}
use mathlib.Core.Bool.{Bool, true}
use mathlib.Core.List.{List}
use lib.ListN.{length, get_or, take, drop}
use lib.Seq.{get_or-take, get_or-drop}
use lib.Dec.{eqb}
use lib.IntN.{ℤ}
use borrow.Author.Tests.{eqb-true, eq-eqb}
use Rattle.sets.specs.Set.{member}
use Rattle.syntax.specs.Tree.{Var, Region, Monitor}
use Rattle.syntax.proofs.Grammar.{one_cond}
use Rattle.logic.proofs.Bools.{both, and}
use Rattle.meaning.specs.Value.{truth}
use Rattle.meaning.specs.State.{count, state_at}
use Rattle.meaning.specs.Model.{vars, regions, region, guard_of}
use Rattle.meaning.proofs.ModelLaws.{guard_below, holds_guard}
use Rattle.states.specs.Rows.{TruthRow, GuardNumbers, HoldsAll}
use Rattle.states.specs.Promises.{Looked, runs_by}
use Rattle.states.proofs.Held.{bit_true, bit_one}

pub looked : (m : Monitor) (keep : List ℤ → Bool) (numbers kept' holds' : List ℕ) → GuardNumbers m numbers
    → TruthRow (vars m) keep kept' → HoldsAll m holds' → (r : ℕ) → r < length (regions m)
    → Looked (vars m) keep (region m r) (get_or numbers r 0) kept' holds'
unfolding GuardNumbers HoldsAll
looked m keep numbers kept' holds' ns k h r low =
    record {
      by_kept = k;
      by_guard = λ s below.
          ap (member (get_or holds' s 0)) (ns r low) ∙ h (guard_of m r) s (guard_below m r low) below
          ∙ holds_guard m one_cond r s;
    }

-- where a test and the guard hold, the slices say so, and the other way
module _ {vs : List Var} {keep : List ℤ → Bool} {q : Region} {guard : ℕ} {kept' holds' : List ℕ}
    (l : Looked vs keep q guard kept' holds') where
  pub runs_true : (s : ℕ) → s < count vs → keep (state_at vs s) ≡ true → truth q.guard vs (state_at vs s) ≡ true
      → runs_by kept' holds' guard s ≡ true
  unfolding runs_by TruthRow
  runs_true s low k g = and (eq-eqb (get_or kept' s 0) 1 (l.by_kept s low ∙ bit_true k)) (l.by_guard s low ∙ g)

  pub runs_parts : (s : ℕ) → s < count vs → runs_by kept' holds' guard s ≡ true
      → (keep (state_at vs s) ≡ true) × (truth q.guard vs (state_at vs s) ≡ true)
  unfolding runs_by TruthRow
  runs_parts s low h =
      let t = both (eqb (get_or kept' s 0) 1) (member (get_or holds' s 0) guard) h in (
        bit_one (keep (state_at vs s)) (sym (l.by_kept s low) ∙ eqb-true (get_or kept' s 0) 1 t.0),
        sym (l.by_guard s low) ∙ t.1,
      )

-- region g's row, lent
pub part_at : (xs : List ℕ) (g n s : ℕ) → n ≡ 4096 → s < 4096
    → get_or (take n (drop (g * 4096) xs)) s 0 ≡ get_or xs (g * 4096 + s) 0
part_at xs g n s w low = get_or-take n (drop (g * 4096) xs) s 0 (omega arith) ∙ get_or-drop (g * 4096) xs s 0
